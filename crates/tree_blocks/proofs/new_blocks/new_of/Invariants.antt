use Rattle.std.proofs.Common.{◌≡◌, length, map}
use Rattle.std.specs.Vec.Iter.{into_iter_items, into_iter_len}
use Rattle.tree_blocks.specs.NewBlocks.{AreDigests}
use Rattle.tree_blocks.proofs.NewBlocks.{NewSoFar}
use Rattle.tree_blocks.proofs.new_blocks.new_of.Given as goal

abbrev pub invariant-loop-node : goal.invariant-loop-node
invariant-loop-node g l = record {
  can_next : (goal.iterator-loop-node g).can_next l.node-iterator;
  len : into_iter_len l.node-iterator ≡ length (into_iter_items l.node-iterator);
  new : NewSoFar (g.B.BlockSource.blocks l.base) l.fn.nodes.items (into_iter_items l.node-iterator) l.new.items;
  seen : AreDigests l.seen.keys l.new.items;
}
