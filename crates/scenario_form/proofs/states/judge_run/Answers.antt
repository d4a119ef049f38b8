use Rattle.std.proofs.Common.{subst, sym, ◌∙◌}
use Rattle.scenario_form.specs.Room.{IsFirstOver}
use Rattle.scenario_form.proofs.Runs.{run_fits, run_over, run_over_state}
use Rattle.scenario_form.proofs.states.judge_run.Goals as goal

pub returns-in-None-clause-found : goal.returns-in-None-clause-found
returns-in-None-clause-found c =
    let found = c.in-Ok.ensures.found in
    let below = sym (c.in_ok-is_below_next.ensures found.0 found.2) ∙ c.if-not-branch.false in
    let over = run_over_state c.args.base.now c.args.codes.now found.0 c.args.run.now c.index-run-0.result c.requires.root found.1 in
    let fits = subst (IsFirstOver found.0 c.args.run.now) c.in-None.is (c.in_ok-first_over.ensures found.0 found.2.0) in
    λ rest. run_fits c.args.base.now c.args.codes.now found.0 below c.args.first c.args.run.now rest over fits

pub returns-clause-fault : goal.returns-clause-fault
returns-clause-fault c =
    let found = c.in-Ok.ensures.found in
    let below = sym (c.in_ok-is_below_next.ensures found.0 found.2) ∙ c.if-not-branch.false in
    let over = run_over_state c.args.base.now c.args.codes.now found.0 c.args.run.now c.index-run-0.result c.requires.root found.1 in
    let first = subst (IsFirstOver found.0 c.args.run.now) c.in-Some.is (c.in_ok-first_over.ensures found.0 found.2.0) in
    λ rest. run_over c.args.base.now c.args.codes.now found.0 below c.args.first c.args.run.now rest c.in-Some.at over first.0 first.1 first.2
