use Rattle.std.proofs.Common.{arith, sym, ◌∙◌}
use Rattle.scenario_form.proofs.AnyLoops.{any_found, any_more, any_none, is_full}
use Rattle.scenario_form.proofs.limits.has_long_block.Goals as goal

pub loop-block-preserved : goal.loop-block-preserved
loop-block-preserved c =
    any_more is_full c.args.blocks.now c.loop-block.block-index c.block-item.result (omega arith) c.block-item.is (sym c.has_many_messages.ensures ∙ c.if-has_many_messages.false) c.loop-block.invariant

pub returns-then-has_many_messages : goal.returns-then-has_many_messages
returns-then-has_many_messages c = any_found is_full c.args.blocks.now c.loop-block.block-index c.block-item.result (omega arith) c.block-item.is (sym c.has_many_messages.ensures ∙ c.if-has_many_messages.true)

pub returns : goal.returns
returns c = any_none is_full c.args.blocks.now c.loop-block.block-index (omega arith) c.loop-block.invariant
