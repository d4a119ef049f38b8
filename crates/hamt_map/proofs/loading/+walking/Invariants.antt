use Rattle.std.proofs.Common.{List, ◌*◌, ◌+◌}
use Rattle.std.specs.List.{AllZip}
use Rattle.std.specs.Vec.Iter.{into_iter_items}
use Rattle.hamt_map.specs.ReadPointers.{IsPointer}
use Rattle.hamt_map.specs.Loading.{walk_child}
use Rattle.hamt_map.specs.Walk.{Pointer}
use Rattle.hamt_map.proofs.Putting.{PutSoFar}
use Rattle.hamt_map.proofs.loading.+walking.Given as goal

abbrev pub decreases-put_tree : goal.decreases-put_tree
decreases-put_tree g l = 4 * l.below + 3

abbrev pub decreases-put_pointers : goal.decreases-put_pointers
decreases-put_pointers g l = 4 * l.below + 2

abbrev pub decreases-put_pointer : goal.decreases-put_pointer
decreases-put_pointer g l = 4 * l.below + 1

abbrev pub decreases-put_child : goal.decreases-put_child
decreases-put_child g l = 4 * l.below

abbrev pub invariant-put_pointers-loop-pointer : goal.invariant-put_pointers-loop-pointer
invariant-put_pointers-loop-pointer g l =
    (those : List Pointer) → AllZip IsPointer l.fn.pointers those → PutSoFar (g.B.BlockSource.blocks l.base) (walk_child (g.B.BlockSource.blocks l.base) l.below) l.below those (into_iter_items l.pointer-iterator) l.initial.leaves.items l.leaves.items l.places
