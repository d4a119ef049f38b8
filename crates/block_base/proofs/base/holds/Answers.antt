use Rattle.std.proofs.Common.{arith, ap, ◌∙◌}
use Rattle.fil_base.specs.CidEquality.{same_parts}
use Rattle.block_base.specs.Index.{no_block}
use Rattle.block_base.proofs.Found.{found_is_none, found_is_some}
use Rattle.block_base.proofs.base.holds.Goals as goal

pub returns-then-eq : goal.returns-then-eq
returns-then-eq c =
    found_is_some c.args.blocks.now c.args.cid.now c.loop-block.block-index no_block c.block-item.result c.loop-block-test.true c.block-item.is (c.if-eq.ensures ∙ ap (λ x. same_parts x c.args.cid.now) c.cid.ensures.value) c.loop-block.invariant

pub returns : goal.returns
returns c =
    found_is_none c.args.blocks.now c.args.cid.now no_block (λ k within. c.loop-block.invariant k (omega arith))
