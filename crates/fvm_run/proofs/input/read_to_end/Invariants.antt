use Rattle.std.proofs.Common.{◌+◌, ◌-◌, vec_len}
use Rattle.fvm_run.specs.declared.input.TheConstants.{INPUT_LIMIT}
use Rattle.fvm_run.proofs.Moves.{ReadSoFar}
use Rattle.fvm_run.proofs.input.read_to_end.Given as goal

abbrev pub invariant-loop-piece : goal.invariant-loop-piece
invariant-loop-piece g l = ReadSoFar (g.S.Source.left l.fn.source) (g.S.Source.left l.source) (g.S.Source.faults l.fn.source) (g.S.Source.faults l.source) l.bytes.items

abbrev pub decreases-loop-piece : goal.decreases-loop-piece
decreases-loop-piece g l = INPUT_LIMIT + 1 - vec_len l.bytes
