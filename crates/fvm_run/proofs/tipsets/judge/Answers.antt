use Rattle.std.proofs.Common.{subst, sym}
use Rattle.tipset_exec.specs.Opens.{Opens}
use Rattle.tipset_exec.specs.declared.opening_state.OpeningState.{OpeningState}
use Rattle.fvm_run.proofs.States.{kept_opens}
use Rattle.fvm_run.proofs.tipsets.judge.Goals as goal

pub returns-clause-built : goal.returns-clause-built
returns-clause-built c = λ s loaded.
    let base = c.args.base.now in
    let opens = kept_opens base c.args.rules.now.codes c.args.tipset.now.root c.in_ok-state.state s c.in_ok-state.ensures.root c.in_ok-state.ensures.kept loaded in
    c.in_ok-built.ensures s (subst (λ (opening : OpeningState). Opens opening base s) (sym c.opening.ensures) opens)
