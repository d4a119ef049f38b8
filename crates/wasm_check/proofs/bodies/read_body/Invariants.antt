use Rattle.wasm_check.proofs.ReadCode.{GoesOn}
use Rattle.wasm_check.proofs.bodies.read_body.Given as goal

abbrev pub invariant-loop-position : goal.invariant-loop-position
invariant-loop-position l = GoesOn l.place l.code l.position l.levels
