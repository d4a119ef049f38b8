-- How a key stands to the keys before it.
use Rattle.std.specs.Prelude.{ℕ, ◌-◌, List, length, Option, Some, None, slice_get}
use Rattle.std.specs.Option.{option_map}
use Rattle.std.specs.declared.cmp.Ordering.{Ordering}
use Rattle.std.specs.declared.cmp.Ordering.TheVariants.{Less}
use Rattle.dag_cbor.specs.declared.value.Value.{Value}
use Rattle.dag_cbor.specs.Plain.{key_cmp}

-- the last key of pairs
abbrev pub last_key : List (List ℕ × Value) → Option (List ℕ)
last_key done = option_map (λ p. p.0) (slice_get done (length done - 1))

-- how a key stands to the last one, if there is one
abbrev pub order_after : Option (List ℕ) → List ℕ → Ordering
order_after None key = Less
order_after (Some last) key = key_cmp last key
