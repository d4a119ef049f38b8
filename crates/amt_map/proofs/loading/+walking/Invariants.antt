use Rattle.std.proofs.Common.{◌*◌, ◌+◌, ◌^◌, suc}
use Rattle.std.specs.Vec.Iter.{into_iter_items}
use Rattle.amt_map.specs.Loading.{child_pairs}
use Rattle.amt_map.specs.Reading.{shown}
use Rattle.amt_map.proofs.FullNode.{FullSoFar}
use Rattle.amt_map.proofs.Gathering.{ChildrenSoFar}
use Rattle.amt_map.proofs.loading.+walking.Given as goal

abbrev pub decreases-put_pairs : goal.decreases-put_pairs
decreases-put_pairs g l = 4 * l.height + 3

abbrev pub decreases-put_inner : goal.decreases-put_inner
decreases-put_inner g l = 4 * l.height + 6

abbrev pub decreases-put_children : goal.decreases-put_children
decreases-put_children g l = 4 * l.height + 5

abbrev pub decreases-put_child : goal.decreases-put_child
decreases-put_child g l = 4 * l.height + 4

abbrev pub invariant-put_children-loop-digit : goal.invariant-put_children-loop-digit
invariant-put_children-loop-digit g l = record {
  children : ChildrenSoFar (child_pairs (g.B.BlockSource.blocks l.base) l.height) (8 ^ suc l.height) l.from l.fn.links.items (into_iter_items l.digit-iterator) (shown l.fn.pairs.items) (shown l.pairs.items);
  full : FullSoFar (child_pairs (g.B.BlockSource.blocks l.base) l.height) (8 ^ suc l.height) l.from l.fn.links.items (into_iter_items l.digit-iterator) l.full;
}
