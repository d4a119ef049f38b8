use Rattle.fvm_run.proofs.Moves.{written_more}
use Rattle.fvm_run.proofs.output.write_whole.Goals as goal

pub loop-at-preserved : goal.loop-at-preserved
loop-at-preserved g c =
    written_more _ _ _ _ _ _ _ _ _ c.args.text.now c.loop-at.at _ c.loop-at.invariant c.loop-at-test.true c.in_ok-at.ensures.bound c.in_ok-at.ensures.bytes c.write.ensures.cause.later c.in_ok-at.ensures.sure
