use Rattle.scenario_form.proofs.OneScenario.{not_both, one_fault, one_scenario}
use Rattle.scenario_form.proofs.laws.one_scenario.Goals as goal

pub returns : goal.returns
returns c = record {
  one = one_scenario;
  accepted = not_both;
  one_fault = one_fault;
}
