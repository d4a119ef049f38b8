use Rattle.std.proofs.Common.{arith, sym, ◌∙◌}
use Rattle.scenario_form.proofs.AnyLoops.{any_found, any_more, any_none, is_wide}
use Rattle.scenario_form.proofs.limits.have_many_blocks.Goals as goal

pub loop-tipset-preserved : goal.loop-tipset-preserved
loop-tipset-preserved c =
    any_more is_wide c.args.tipsets.now c.loop-tipset.tipset-index c.tipset-item.result (omega arith) c.tipset-item.is (sym c.has_many_blocks.ensures ∙ c.if-has_many_blocks.false) c.loop-tipset.invariant

pub returns-then-has_many_blocks : goal.returns-then-has_many_blocks
returns-then-has_many_blocks c = any_found is_wide c.args.tipsets.now c.loop-tipset.tipset-index c.tipset-item.result (omega arith) c.tipset-item.is (sym c.has_many_blocks.ensures ∙ c.if-has_many_blocks.true)

pub returns : goal.returns
returns c = any_none is_wide c.args.tipsets.now c.loop-tipset.tipset-index (omega arith) c.loop-tipset.invariant
