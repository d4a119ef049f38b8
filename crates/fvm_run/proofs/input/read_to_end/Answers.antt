use Rattle.std.proofs.Common.{arith}
use Rattle.fvm_run.specs.declared.input.TheConstants.{INPUT_LIMIT}
use Rattle.fvm_run.proofs.Known.{had_more}
use Rattle.fvm_run.proofs.input.read_to_end.Goals as goal

pub returns-clause-stop : goal.returns-clause-stop
returns-clause-stop g c = λ command. (had_more _ _ c.loop-piece.bytes.items INPUT_LIMIT c.loop-piece.invariant.taken (omega (arith, c.loop-piece.bytes.ok.0)), tt)
