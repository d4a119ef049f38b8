use Rattle.std.proofs.Common.{◌≡◌, ◌<◌, ℕ, List, get_or}
use Rattle.dag_cbor.specs.declared.value.Value.{Value}
use Rattle.car_file.specs.CarFault.{IsOtherKey}
use Rattle.car_file.proofs.header.has_other_key.Given as goal

abbrev pub invariant-loop-key : goal.invariant-loop-key
invariant-loop-key l = (k : ℕ) (key : List ℕ) (item : Value) → k < l.key-index → (key, item) ≡ get_or l.pairs k (key, item) → IsOtherKey key → ⊥
