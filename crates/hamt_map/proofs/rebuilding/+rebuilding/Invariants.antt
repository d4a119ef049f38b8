use Rattle.std.proofs.Common.{◌≤◌, ◌<◌, ◌+◌, ◌*◌, ◌^◌, map, length}
use Rattle.std.specs.Prelude.{All}
use Rattle.tree_blocks.specs.NewBlocks.{IsNodeBlock}
use Rattle.hamt_map.specs.HashOrder.{AreLent}
use Rattle.hamt_map.specs.KeptNode.{IsKeptNode}
use Rattle.hamt_map.specs.Lent.{lent_of}
use Rattle.hamt_map.specs.Pairs.{Pairs}
use Rattle.hamt_map.proofs.OverGroups.{WrittenOver}
use Rattle.hamt_map.proofs.rebuilding.+rebuilding.Given as goal

abbrev pub invariant-put_pointers-loop-place : goal.invariant-put_pointers-loop-place
invariant-put_pointers-loop-place g l = record {
  done : l.done ≤ length l.pairs;
  bits : l.pointers.bits < 2 ^ l.place;
  count : l.pointers.count ≤ l.place;
  cids : All IsNodeBlock l.initial.nodes.items → All IsNodeBlock l.nodes.items;
  written : (ps old : Pairs) → AreLent l.below (map lent_of l.pairs) ps → IsKeptNode (g.B.BlockSource.blocks l.base) l.below l.fn.bytes old
      → WrittenOver (g.B.BlockSource.blocks l.base) l.below ps old l.place l.done l.ahead.bits l.ahead.pointers.now l.pointers.bits l.pointers.count l.pointers.spellings.items l.initial.nodes.items l.nodes.items;
}

abbrev pub decreases-put_over : goal.decreases-put_over
decreases-put_over g l = 5 * l.below + 4

abbrev pub decreases-put_pointers : goal.decreases-put_pointers
decreases-put_pointers g l = 5 * l.below + 3

abbrev pub decreases-put_place : goal.decreases-put_place
decreases-put_place g l = 5 * l.below + 2

abbrev pub decreases-put_pointer_over : goal.decreases-put_pointer_over
decreases-put_pointer_over g l = 5 * l.below + 1

abbrev pub decreases-put_link_over : goal.decreases-put_link_over
decreases-put_link_over g l = 5 * l.below
