use Rattle.std.proofs.Common.{arith, lit<, lit≤}
use Rattle.fvm_run.specs.declared.input.TheConstants.{INPUT_LIMIT}
use Rattle.scenario_form.specs.Judged.{scenario_with}
use Rattle.fvm_run.proofs.Loaded.{found_short}
use Rattle.fvm_run.proofs.States.{scenario_refused, scenario_stops, scenario_text}
use Rattle.fvm_run.proofs.car_text.text_of_car.Goals as goal

pub judge_scenario-requires : goal.judge_scenario-requires
judge_scenario-requires c =
    found_short c.args.input.items c.in_ok-root.root c.in_ok-root.base INPUT_LIMIT c.in_ok-root.ensures.found
    (omega (arith, c.requires.limit, c.args.input.ok.0)) (lit≤ tt) (lit< tt) c.in_ok-root.root

pub returns-in_err-scenario-clause-refused : goal.returns-in_err-scenario-clause-refused
returns-in_err-scenario-clause-refused c =
    scenario_stops c.args.input.items c.in_ok-root.root c.in_ok-root.base _ c.from_residual-in_err-scenario.result c.requires.other c.in_ok-root.ensures.found c.in_err-scenario.ensures.fault c.from_residual-in_err-scenario.ensures.1

pub text_of_scenario-requires : goal.text_of_scenario-requires
text_of_scenario-requires c = (c.in_ok-root.root, c.in_ok-scenario.ensures.found.0, c.in_ok-scenario.ensures.found.1)

pub returns-clause-text : goal.returns-clause-text
returns-clause-text c =
    let found = c.in_ok-scenario.ensures.found in
    scenario_text c.args.input.items c.in_ok-root.base (scenario_with c.in_ok-scenario.scenario found.0) c.text_of_scenario.result c.requires.other
    (c.in_ok-root.root, c.in_ok-root.ensures.found, found.1.scenario) (c.text_of_scenario.ensures.text c.in_ok-root.root found.0 found.1)

pub returns-clause-refused : goal.returns-clause-refused
returns-clause-refused c =
    let found = c.in_ok-scenario.ensures.found in
    scenario_refused c.args.input.items c.in_ok-root.base (scenario_with c.in_ok-scenario.scenario found.0) c.text_of_scenario.result c.requires.other
    (c.in_ok-root.root, c.in_ok-root.ensures.found, found.1.scenario) (c.text_of_scenario.ensures.refused c.in_ok-root.root found.0 found.1)
