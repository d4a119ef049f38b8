use Rattle.std.proofs.Common.{ap, arith, sym, ◌∙◌}
use Rattle.std.specs.List.{list_any}
use Rattle.std.proofs.lemmas.List.Elements.{All-same}
use Rattle.fil_message.specs.Sound.{IsMessage}
use Rattle.scenario_form.specs.Parts.{IsRawBlock}
use Rattle.scenario_form.specs.Judging.{is_long}
use Rattle.scenario_form.proofs.AnyLoops.{any_found, any_more, any_none, has_long, holds_of}
use Rattle.scenario_form.proofs.limits.blocks_have_long_message.Goals as goal

pub has_long_message-requires : goal.has_long_message-requires
has_long_message-requires c = All-same IsMessage _ _ c.as_slice.ensures (holds_of IsRawBlock c.args.blocks.now c.loop-block.block-index c.block-item.result (omega arith) c.block-item.is c.requires).messages

pub loop-block-preserved : goal.loop-block-preserved
loop-block-preserved c =
    any_more has_long c.args.blocks.now c.loop-block.block-index c.block-item.result (omega arith) c.block-item.is (ap (list_any is_long) (sym c.as_slice.ensures) ∙ (sym c.has_long_message.ensures ∙ c.if-has_long_message.false)) c.loop-block.invariant

pub returns-then-has_long_message : goal.returns-then-has_long_message
returns-then-has_long_message c = any_found has_long c.args.blocks.now c.loop-block.block-index c.block-item.result (omega arith) c.block-item.is (ap (list_any is_long) (sym c.as_slice.ensures) ∙ (sym c.has_long_message.ensures ∙ c.if-has_long_message.true))

pub returns : goal.returns
returns c = any_none has_long c.args.blocks.now c.loop-block.block-index (omega arith) c.loop-block.invariant
