use Rattle.std.proofs.Common.{◌≡◌, false, take}
use Rattle.std.specs.List.{list_any}
use Rattle.scenario_form.proofs.AnyLoops.{is_wide}
use Rattle.scenario_form.proofs.limits.have_many_blocks.Given as goal

abbrev pub invariant-loop-tipset : goal.invariant-loop-tipset
invariant-loop-tipset l = list_any is_wide (take l.tipset-index l.tipsets) ≡ false
