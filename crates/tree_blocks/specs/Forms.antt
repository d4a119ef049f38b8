-- What a value of DAG-CBOR is as a part of a node, if it is one.
use Rattle.std.specs.Prelude.{ℕ, List, [], ◌∷◌, map, sum}
use Rattle.std.specs.Int.Digits.{digits_of}
use Rattle.std.specs.declared.option.Option.{Option}
use Rattle.std.specs.declared.option.Option.TheVariants.{None, Some}
use Rattle.dag_cbor.specs.declared.value.Value.{Value, Value-F}
use Rattle.dag_cbor.specs.declared.value.Value.TheOpen as layer

-- the answer of f for what there is
abbrev pub if_some : {A B : Type 0} → Option A → (A → Option B) → Option B
if_some None f = None
if_some (Some x) f = f x

-- what f gives for each, where it gives something for all
abbrev pub for_each : {A B : Type 0} → (A → Option B) → List A → Option (List B)
for_each f [] = Some []
for_each f (x ∷ xs) = if_some (f x) (λ y. if_some (for_each f xs) (λ ys. Some (y ∷ ys)))

-- the bytes of a byte string
abbrev pub bytes_in : Value-F Value → Option (List ℕ)
bytes_in layer.Null = None
bytes_in (layer.Bool b) = None
bytes_in (layer.Int n) = None
bytes_in (layer.Blob bytes) = Some bytes
bytes_in (layer.Text bytes) = None
bytes_in (layer.List items) = None
bytes_in (layer.Map pairs) = None
bytes_in (layer.Link cid) = None

-- the items of a list
abbrev pub items_in : Value-F Value → Option (List Value)
items_in layer.Null = None
items_in (layer.Bool b) = None
items_in (layer.Int n) = None
items_in (layer.Blob bytes) = None
items_in (layer.Text bytes) = None
items_in (layer.List items) = Some items
items_in (layer.Map pairs) = None
items_in (layer.Link cid) = None

-- how many bits are set
abbrev pub set_bits : List ℕ → ℕ
set_bits bytes = sum (map (λ byte. sum (digits_of 2 byte)) bytes)
