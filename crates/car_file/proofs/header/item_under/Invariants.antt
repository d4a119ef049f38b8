use Rattle.std.proofs.Common.{◌≡◌, ◌<◌, ℕ, get_or}
use Rattle.dag_cbor.specs.declared.value.Value.{Value}
use Rattle.car_file.proofs.header.item_under.Given as goal

abbrev pub invariant-loop-name : goal.invariant-loop-name
invariant-loop-name l = (k : ℕ) (item : Value) → k < l.name-index → (l.key, item) ≡ get_or l.pairs k (l.key, item) → ⊥
