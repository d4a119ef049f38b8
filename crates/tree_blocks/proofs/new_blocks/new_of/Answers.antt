use Rattle.std.proofs.Common.{◌≡◌, ◌∷◌, length, List, ap, subst, arith, rules}
use Rattle.std.specs.Vec.Iter.{into_iter_items}
use Rattle.cid_core.specs.BlockParts.{BlockParts}
use Rattle.tree_blocks.proofs.NewBlocks.{NewSoFar, new_more}
use Rattle.tree_blocks.proofs.new_blocks.new_of.Goals as goal

pub loop-node-preserved : goal.loop-node-preserved
loop-node-preserved g c =
    let at = c.loop-node in
    let blocks = g.B.BlockSource.blocks c.args.base.now in
    let steps : into_iter_items at.node-iterator ≡ c.in-Some.node ∷ into_iter_items c.next.new.self = c.in-Some.ensures.steps.0 in
    record {
      can_next = search rules;
      len = let was = at.invariant.len in let gone = c.in-Some.ensures.steps.1 in let short = ap length steps in omega arith;
      new = new_more blocks c.args.nodes.items (into_iter_items c.next.new.self) at.new.items c.put_new.new.new.items c.in-Some.node
          (subst (λ (rest : List BlockParts). NewSoFar blocks c.args.nodes.items rest at.new.items) steps at.invariant.new) c.in_ok-put_new.ensures.after;
      seen = c.in_ok-put_new.ensures.seen;
    }
