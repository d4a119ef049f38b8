use Rattle.std.proofs.Common.{◌≡◌, ℕ, List, length}
use Rattle.dag_cbor.specs.declared.value.Value.{Value}
use Rattle.hamt_map.specs.ReadPointers.{AreAt}
use Rattle.hamt_map.proofs.NodeForm.{BucketRead}
use Rattle.hamt_map.proofs.node_form.bucket_of.Given as goal

abbrev pub invariant-loop-left : goal.invariant-loop-left
invariant-loop-left l =
    (values : List Value) (last : List ℕ) → length values ≡ l.fn.count → AreAt 125 values l.fn.bytes last → BucketRead values l.left l.rest last l.leaves.items

abbrev pub decreases-loop-left : goal.decreases-loop-left
decreases-loop-left l = l.left
