use Rattle.std.proofs.Common.{◌-◌, length}
use Rattle.fvm_run.proofs.Moves.{WrittenSoFar}
use Rattle.fvm_run.proofs.output.write_whole.Given as goal

abbrev pub invariant-loop-at : goal.invariant-loop-at
invariant-loop-at g l = WrittenSoFar (g.K.Sink.taken l.fn.sink) (g.K.Sink.taken l.sink) (g.K.Sink.faults l.fn.sink) (g.K.Sink.faults l.sink) (g.K.Sink.sure l.fn.sink) (g.K.Sink.sure l.sink) l.text l.at

abbrev pub decreases-loop-at : goal.decreases-loop-at
decreases-loop-at g l = length l.text - l.at
