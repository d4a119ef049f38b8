use Rattle.std.proofs.Common.{arith, sym, ◌∙◌}
use Rattle.fil_message.specs.Sound.{IsMessage}
use Rattle.scenario_form.specs.Judging.{is_long}
use Rattle.scenario_form.proofs.AnyLoops.{any_found, any_more, any_none, holds_of}
use Rattle.scenario_form.proofs.limits.has_long_message.Goals as goal

pub is_long-requires : goal.is_long-requires
is_long-requires c = holds_of IsMessage c.args.messages.now c.loop-message.message-index c.message-item.result (omega arith) c.message-item.is c.requires

pub loop-message-preserved : goal.loop-message-preserved
loop-message-preserved c =
    any_more is_long c.args.messages.now c.loop-message.message-index c.message-item.result (omega arith) c.message-item.is (sym c.is_long.ensures ∙ c.if-is_long.false) c.loop-message.invariant

pub returns-then-is_long : goal.returns-then-is_long
returns-then-is_long c = any_found is_long c.args.messages.now c.loop-message.message-index c.message-item.result (omega arith) c.message-item.is (sym c.is_long.ensures ∙ c.if-is_long.true)

pub returns : goal.returns
returns c = any_none is_long c.args.messages.now c.loop-message.message-index (omega arith) c.loop-message.invariant
