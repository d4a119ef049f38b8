use Rattle.std.proofs.Common.{ap, sym, ◌∙◌}
use Rattle.std.specs.FinMap.{get}
use Rattle.state_model.specs.StateAt.{opened}
use Rattle.scenario_form.proofs.OpenStates.{state_found}
use Rattle.scenario_form.proofs.open_state.OpenState.load.Goals as goal

pub returns-clause-found : goal.returns-clause-found
returns-clause-found c =
    let tree = c.in_ok-tree.ensures.found in
    let names = c.in_ok-names.ensures.found in
    let init = sym (c.in_ok-init.ensures tree.0 tree.1 tree.3 ∙ ap (get tree.0) c.init_id.ensures) ∙ c.in-Some.is in
    (opened (tree.0, tree.1) names.0, state_found c.args.base.now c.args.root.now c.args.codes.now tree.0 tree.1 c.in-Some.init names.0 tree.2 init names.1, (tree.3, names.2))
