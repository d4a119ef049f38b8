-- Lists and maps that are being read, as the code has them.
use Rattle.std.specs.Prelude.{◌≡◌, ℕ, ◌-◌, List, [], ◌∷◌, ◌++◌, Result, Ok}
use Rattle.dag_cbor.specs.declared.value.Value.{Value}
use Rattle.dag_cbor.specs.declared.value.Value.TheVariants as v
use Rattle.dag_cbor.specs.declared.fault.Flaw.{Flaw}
use Rattle.dag_cbor.specs.declared.partial.Partial.{Partial}
use Rattle.dag_cbor.specs.declared.partial.Partial.TheVariants as partials
use Rattle.dag_cbor.specs.declared.frame.Frame.{Frame}
use Rattle.dag_cbor.specs.declared.frame.Frame.TheVariants as frames
use Rattle.dag_cbor.specs.Reading.{◌>>=◌, key_at, listed, mapped, item_at}

-- how many items or pairs are still wanted
abbrev pub wanted_of : Partial → ℕ
wanted_of (partials.List done wanted) = wanted
wanted_of (partials.Map done wanted) = wanted

-- the list or the map of what is read
abbrev pub whole_of : Partial → Value
whole_of (partials.List done wanted) = v.List done.items
whole_of (partials.Map done wanted) = v.Map done.items

-- what reading on gives, where items have at most this depth
abbrev pub gives : ℕ → Partial → List ℕ → Result (Value × List ℕ) Flaw
gives depth (partials.List done wanted) bytes = listed (item_at depth) done.items wanted bytes
gives depth (partials.Map done wanted) bytes = mapped depth (item_at depth) done.items wanted bytes

-- a map whose next key is read
abbrev pub with_key : Partial → List ℕ × List ℕ → Result (Frame × List ℕ) Flaw
with_key (partials.List done wanted) (key, bytes) = Ok (frames.List done (wanted - 1), bytes)
with_key (partials.Map done wanted) (key, bytes) = Ok (frames.Map done (wanted - 1) key, bytes)

-- what waits for the next item: a list, or a map behind the next key
abbrev pub begun : ℕ → Partial → List ℕ → Result (Frame × List ℕ) Flaw
begun room (partials.List done wanted) bytes = Ok (frames.List done (wanted - 1), bytes)
begun room (partials.Map done wanted) bytes = key_at room done.items bytes >>= with_key (partials.Map done wanted)

-- a list of so many items, of which none is read
abbrev pub IsNewList : Partial → ℕ → Type 0
IsNewList (partials.List done wanted) count = (done.items ≡ []) × (wanted ≡ count)
IsNewList (partials.Map done wanted) count = ⊥

-- a map of so many pairs, of which none is read
abbrev pub IsNewMap : Partial → ℕ → Type 0
IsNewMap (partials.List done wanted) count = ⊥
IsNewMap (partials.Map done wanted) count = (done.items ≡ []) × (wanted ≡ count)

-- what waited for an item, with the item put to it
abbrev pub IsPut : Partial → Frame → Value → Type 0
IsPut (partials.List done wanted) (frames.List before left) value = (done.items ≡ before.items ++ value ∷ []) × (wanted ≡ left)
IsPut (partials.Map done wanted) (frames.Map before left key) value = (done.items ≡ before.items ++ (key, value) ∷ []) × (wanted ≡ left)
IsPut (partials.List done wanted) (frames.Map before left key) value = ⊥
IsPut (partials.Map done wanted) (frames.List before left) value = ⊥
