use Rattle.std.proofs.Common.{◌≡◌, false, take}
use Rattle.std.specs.List.{list_any}
use Rattle.scenario_form.specs.Judging.{is_long}
use Rattle.scenario_form.proofs.limits.has_long_message.Given as goal

abbrev pub invariant-loop-message : goal.invariant-loop-message
invariant-loop-message l = list_any is_long (take l.message-index l.messages) ≡ false
