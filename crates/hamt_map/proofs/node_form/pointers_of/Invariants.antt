use Rattle.std.proofs.Common.{◌≡◌, ℕ, List, length}
use Rattle.dag_cbor.specs.declared.value.Value.{Value}
use Rattle.hamt_map.specs.ReadPointers.{AreAt}
use Rattle.hamt_map.proofs.NodeForm.{PointersRead}
use Rattle.hamt_map.proofs.node_form.pointers_of.Given as goal

abbrev pub invariant-loop-left : goal.invariant-loop-left
invariant-loop-left l =
    (values : List Value) (last : List ℕ) → length values ≡ l.fn.count → AreAt 126 values l.fn.bytes last → PointersRead l.below values l.left l.rest last l.pointers.items

abbrev pub decreases-loop-left : goal.decreases-loop-left
decreases-loop-left l = l.left
