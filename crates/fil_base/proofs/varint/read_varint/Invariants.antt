use Rattle.fil_base.proofs.Varints.{ReadSoFar}
use Rattle.fil_base.proofs.varint.read_varint.Given as goal

abbrev pub invariant-loop-i : goal.invariant-loop-i
invariant-loop-i l = ReadSoFar l.bytes l.i l.number
