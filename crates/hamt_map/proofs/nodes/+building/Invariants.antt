use Rattle.std.proofs.Common.{◌≤◌, ◌<◌, ◌+◌, ◌*◌, ◌^◌, map, length}
use Rattle.std.specs.Prelude.{All}
use Rattle.tree_blocks.specs.NewBlocks.{IsNodeBlock}
use Rattle.hamt_map.specs.HashOrder.{AreLent}
use Rattle.hamt_map.specs.Lent.{lent_of}
use Rattle.hamt_map.specs.Pairs.{Pairs}
use Rattle.hamt_map.proofs.PointerSteps.{WrittenSoFar}
use Rattle.hamt_map.proofs.nodes.+building.Given as goal

abbrev pub invariant-put_pointers-loop-place : goal.invariant-put_pointers-loop-place
invariant-put_pointers-loop-place l = record {
  done : l.done ≤ length l.pairs;
  bits : l.pointers.bits < 2 ^ l.place;
  count : l.pointers.count ≤ l.place;
  cids : All IsNodeBlock l.initial.nodes.items → All IsNodeBlock l.nodes.items;
  written : (ps : Pairs) → AreLent l.below (map lent_of l.pairs) ps
      → WrittenSoFar l.below ps l.place l.done l.pointers.bits l.pointers.count l.pointers.spellings.items l.initial.nodes.items l.nodes.items;
}

abbrev pub decreases-put_under : goal.decreases-put_under
decreases-put_under l = 4 * l.below + 3

abbrev pub decreases-put_pointers : goal.decreases-put_pointers
decreases-put_pointers l = 4 * l.below + 2

abbrev pub decreases-put_group : goal.decreases-put_group
decreases-put_group l = 4 * l.below + 1

abbrev pub decreases-put_pointer : goal.decreases-put_pointer
decreases-put_pointer l = 4 * l.below
