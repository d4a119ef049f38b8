use Rattle.wasm_check.proofs.ReadBodies.{AreValid}
use Rattle.wasm_check.proofs.checking.judge_bodies.Given as goal

abbrev pub invariant-loop-function : goal.invariant-loop-function
invariant-loop-function l = AreValid l.raw l.function
