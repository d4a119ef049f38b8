use Rattle.std.proofs.Common.{map}
use Rattle.dag_cbor.proofs.JudgeSteps.{RiseBelow}
use Rattle.dag_cbor.proofs.plain.keys_rise.Given as goal

abbrev pub invariant-loop-i : goal.invariant-loop-i
invariant-loop-i l = RiseBelow l.i (map (λ p. p.0) l.pairs)
