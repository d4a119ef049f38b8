use Rattle.std.specs.Vec.Iter.{into_iter_items}
use Rattle.tree_blocks.specs.Forms.{if_some}
use Rattle.amt_map.specs.Reading.{shown}
use Rattle.amt_map.specs.ValueBytes.{the_value}
use Rattle.amt_map.specs.Walk.{leaf_of, parts_in}
use Rattle.amt_map.proofs.Gathering.{LeafSoFar}
use Rattle.amt_map.proofs.loading.put_leaf.Given as goal

abbrev pub invariant-loop-digit : goal.invariant-loop-digit
invariant-loop-digit l = LeafSoFar l.from (if_some (parts_in (the_value l.fn.node)) leaf_of) (shown l.fn.pairs.items) (shown l.pairs.items) (into_iter_items l.digit-iterator)
