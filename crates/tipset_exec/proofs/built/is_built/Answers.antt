use Rattle.std.proofs.Common.{◌≡◌, subst}
use Rattle.state_model.specs.StateAt.{state_at}
use Rattle.tipset_exec.specs.Opens.{Opens}
use Rattle.tipset_exec.proofs.StateSteps.{same_ok}
use Rattle.tipset_exec.proofs.built.is_built.Goals as goal

pub returns-in-Ok : goal.returns-in-Ok
returns-in-Ok c = λ s loaded.
    let found = c.in-Ok.ensures.found in
    let same : found.0 ≡ s = same_ok (state_at c.args.base.now c.args.tipset.now.root c.args.rules.now.codes) found.0 s found.1 loaded in
    c.is_built_from.ensures s (subst (Opens c.in-Ok.opening c.args.base.now) same found.2)
