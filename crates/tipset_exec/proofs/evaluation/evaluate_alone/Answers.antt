use Rattle.std.proofs.Common.{◌≡◌, subst}
use Rattle.state_model.specs.StateAt.{state_at}
use Rattle.tipset_exec.specs.Opens.{Opens}
use Rattle.tipset_exec.proofs.StateSteps.{same_ok}
use Rattle.tipset_exec.proofs.evaluation.evaluate_alone.Goals as goal

pub evaluate_from-requires : goal.evaluate_from-requires
evaluate_from-requires c =
    let found = c.in-Ok.ensures.found in
    let given = c.requires in
    let same : found.0 ≡ given.0 = same_ok (state_at c.args.base.now c.args.tipset.now.root c.args.rules.now.codes) found.0 given.0 found.1 given.1.loaded in
    (given.0, given.1, given.2, subst (Opens c.in-Ok.opening c.args.base.now) same found.2)

pub returns-clause-report : goal.returns-clause-report
returns-clause-report c = λ s loaded.
    let found = c.in-Ok.ensures.found in
    let same : found.0 ≡ s = same_ok (state_at c.args.base.now c.args.tipset.now.root c.args.rules.now.codes) found.0 s found.1 loaded in
    c.evaluate_from.ensures.report s (subst (Opens c.in-Ok.opening c.args.base.now) same found.2)

pub returns-clause-blocks : goal.returns-clause-blocks
returns-clause-blocks c = λ s loaded.
    let found = c.in-Ok.ensures.found in
    let same : found.0 ≡ s = same_ok (state_at c.args.base.now c.args.tipset.now.root c.args.rules.now.codes) found.0 s found.1 loaded in
    c.evaluate_from.ensures.blocks s (subst (Opens c.in-Ok.opening c.args.base.now) same found.2)
