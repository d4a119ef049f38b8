use Rattle.std.proofs.Common.{◌≡◌, false, take}
use Rattle.std.specs.List.{list_any}
use Rattle.scenario_form.proofs.AnyLoops.{is_full}
use Rattle.scenario_form.proofs.limits.has_long_block.Given as goal

abbrev pub invariant-loop-block : goal.invariant-loop-block
invariant-loop-block l = list_any is_full (take l.block-index l.blocks) ≡ false
