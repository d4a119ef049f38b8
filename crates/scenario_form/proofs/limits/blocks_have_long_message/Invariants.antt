use Rattle.std.proofs.Common.{◌≡◌, false, take}
use Rattle.std.specs.List.{list_any}
use Rattle.scenario_form.proofs.AnyLoops.{has_long}
use Rattle.scenario_form.proofs.limits.blocks_have_long_message.Given as goal

abbrev pub invariant-loop-block : goal.invariant-loop-block
invariant-loop-block l = list_any has_long (take l.block-index l.blocks) ≡ false
