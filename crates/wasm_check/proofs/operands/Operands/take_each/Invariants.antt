use Rattle.wasm_check.proofs.Fits.{IsTakenSoFar}
use Rattle.wasm_check.proofs.operands.Operands.take_each.Given as goal

abbrev pub invariant-loop-taken : goal.invariant-loop-taken
invariant-loop-taken l = IsTakenSoFar l.types l.taken l.initial.self l.self
