use Rattle.std.proofs.Common.{◌≡◌, ◌-◌, ◌≤◌, drop, length}
use Rattle.scenario_form.specs.Judging.{tipsets_judged}
use Rattle.scenario_form.proofs.states.judge_states.Given as goal

abbrev pub invariant-loop-done : goal.invariant-loop-done
invariant-loop-done l = record {
  within : l.done ≤ length l.tipsets;
  so_far : tipsets_judged l.base l.codes 0 l.tipsets ≡ tipsets_judged l.base l.codes l.done (drop l.done l.tipsets);
}

abbrev pub decreases-loop-done : goal.decreases-loop-done
decreases-loop-done l = length l.initial.tipsets - l.done
