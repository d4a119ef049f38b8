use Rattle.std.proofs.Common.{◌≡◌, List, take}
use Rattle.std.specs.Prelude.{IfSome}
use Rattle.fil_message.specs.declared.tipset.Tipset.{Tipset}
use Rattle.report_text.specs.Text.{reports_text}
use Rattle.scenario_form.specs.Judged.{Spells}
use Rattle.state_model.specs.State.{State}
use Rattle.fvm_run.specs.Cars.{HaveStates, reports_on}
use Rattle.fvm_run.specs.Kept.{IsKept}
use Rattle.fvm_run.proofs.tipsets.text_of_all.Given as goal

abbrev pub invariant-loop-place : goal.invariant-loop-place
invariant-loop-place l = record {
  kept : IfSome l.kept (IsKept l.base l.scenario.rules.codes);
  text : (tipsets : List Tipset) (pairs : List (Tipset × State)) → Spells l.scenario tipsets → HaveStates l.base l.scenario.rules tipsets pairs →
      l.text.items ≡ reports_text (reports_on l.base l.scenario.rules (take l.place pairs));
}
