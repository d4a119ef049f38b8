use Rattle.std.proofs.Common.{ap, ◌∙◌}
use Rattle.fil_base.specs.CidParts.{CidParts}
use Rattle.state_model.specs.StateAt.{state_at}
use Rattle.fvm_run.proofs.kept_state.KeptState.load.Goals as goal

pub returns-in-Ok-clause-kept : goal.returns-in-Ok-clause-kept
returns-in-Ok-clause-kept c =
    let found = c.in-Ok.ensures.found in
    (found.0, ap (λ (r : CidParts). state_at c.args.base.now r c.args.codes.now) c.in_ok-copy.ensures ∙ found.1, found.2)
