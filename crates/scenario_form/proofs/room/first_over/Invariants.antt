use Rattle.std.proofs.Common.{◌-◌}
use Rattle.scenario_form.proofs.Rooms.{IsBetween}
use Rattle.scenario_form.proofs.room.first_over.Given as goal

abbrev pub invariant-loop-high : goal.invariant-loop-high
invariant-loop-high l = IsBetween l.tree l.base l.tipsets l.low l.high

abbrev pub decreases-loop-high : goal.decreases-loop-high
decreases-loop-high l = l.high - l.low
