use Rattle.std.proofs.Common.{subst, sym}
use Rattle.report_text.specs.Text.{HasRootTexts}
use Rattle.tipset_exec.specs.Opens.{Opens}
use Rattle.tipset_exec.specs.declared.opening_state.OpeningState.{OpeningState}
use Rattle.fvm_run.proofs.States.{kept_opens, roots_have_texts}
use Rattle.fvm_run.proofs.tipsets.evaluate.Goals as goal

pub evaluate_from-requires : goal.evaluate_from-requires
evaluate_from-requires c =
    let base = c.args.base.now in
    let given = c.requires.built in
    let opens = kept_opens base c.args.rules.now.codes c.args.tipset.now.root c.args.state.now given.0 c.requires.root c.requires.kept given.1.loaded in
    (given.0, given.1, given.2, subst (λ (opening : OpeningState). Opens opening base given.0) (sym c.opening.ensures) opens)

pub returns-clause-report : goal.returns-clause-report
returns-clause-report c = λ s loaded.
    let base = c.args.base.now in
    let opens = kept_opens base c.args.rules.now.codes c.args.tipset.now.root c.args.state.now s c.requires.root c.requires.kept loaded in
    c.in_ok-report.ensures.report s (subst (λ (opening : OpeningState). Opens opening base s) (sym c.opening.ensures) opens)

pub returns-clause-texts : goal.returns-clause-texts
returns-clause-texts c =
    let base = c.args.base.now in
    let given = c.requires.built in
    let opens = kept_opens base c.args.rules.now.codes c.args.tipset.now.root c.args.state.now given.0 c.requires.root c.requires.kept given.1.loaded in
    subst HasRootTexts (sym (c.in_ok-report.ensures.report given.0 (subst (λ (opening : OpeningState). Opens opening base given.0) (sym c.opening.ensures) opens))) (roots_have_texts base c.args.rules.now given.0 c.args.tipset.now)
