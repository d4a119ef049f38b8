use Rattle.tipset_exec.specs.Alone.{alone, alone_blocks}
use Rattle.tipset_exec.specs.Tipsets.{tipset_run}
use Rattle.tipset_exec.proofs.Counting.{tipset_counted}
use Rattle.tipset_exec.proofs.Opening.{evaluable_funded}
use Rattle.tipset_exec.proofs.evaluation.evaluate.Goals as goal

pub run_tipset-requires-clause-funded : goal.run_tipset-requires-clause-funded
run_tipset-requires-clause-funded c =
    let given = c.requires in
    (given.0, c.in_ok-ledger.ensures c.args.base.now given.0 given.2, evaluable_funded c.args.base.now c.args.rules.now c.args.tipset.now given.0 given.1)

pub report_on-requires : goal.report_on-requires
report_on-requires c =
    let given = c.requires in
    let t = c.args.tipset.now in
    (tipset_run c.args.rules.now given.0 t, c.in_ok-progress.ensures given.0 (c.in_ok-ledger.ensures c.args.base.now given.0 given.2), tipset_counted c.args.rules.now given.0 t given.1.tipset)

pub returns-clause-report : goal.returns-clause-report
unfolding alone
returns-clause-report c = λ s opens.
    c.report_on.ensures.report (tipset_run c.args.rules.now s c.args.tipset.now) (c.in_ok-progress.ensures s (c.in_ok-ledger.ensures c.args.base.now s opens))

pub returns-clause-blocks : goal.returns-clause-blocks
unfolding alone_blocks
returns-clause-blocks c = λ s opens.
    c.report_on.ensures.blocks (tipset_run c.args.rules.now s c.args.tipset.now) (c.in_ok-progress.ensures s (c.in_ok-ledger.ensures c.args.base.now s opens))
