use Rattle.std.proofs.Common.{arith}
use Rattle.report_text.specs.Form0Text.{message_line}
use Rattle.report_text.proofs.Lines.{part_put}
use Rattle.report_text.proofs.account_list.put_messages.Goals as goal

pub loop-place-preserved : goal.loop-place-preserved
loop-place-preserved c = part_put message_line _ _ _ c.args.exits.now _ _ (omega arith) c.index-exits-place.is c.loop-place.invariant c.in_ok-put_message.ensures
