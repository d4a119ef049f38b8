use Rattle.std.proofs.Common.{◌≡◌, List, drop}
use Rattle.std.specs.Prelude.{IfSome}
use Rattle.fil_message.specs.declared.tipset.Tipset.{Tipset}
use Rattle.scenario_form.specs.Judged.{Spells}
use Rattle.state_model.specs.State.{State}
use Rattle.fvm_run.specs.Cars.{HaveStates, first_not_built}
use Rattle.fvm_run.specs.Kept.{IsKept}
use Rattle.fvm_run.proofs.tipsets.first_not_built.Given as goal

abbrev pub invariant-loop-place : goal.invariant-loop-place
invariant-loop-place l = record {
  kept : IfSome l.kept (IsKept l.base l.scenario.rules.codes);
  built : (tipsets : List Tipset) (pairs : List (Tipset × State)) → Spells l.scenario tipsets → HaveStates l.base l.scenario.rules tipsets pairs →
      first_not_built 0 pairs ≡ first_not_built l.place (drop l.place pairs);
}
