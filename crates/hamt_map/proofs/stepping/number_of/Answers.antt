use Rattle.std.proofs.Common.{arith}
use Rattle.hamt_map.proofs.AheadSteps.{field_more}
use Rattle.hamt_map.proofs.stepping.number_of.Goals as goal

pub overflow_mul-number : goal.overflow_mul-number
overflow_mul-number c = let room = field_more c.loop-byte.byte-index c.loop-byte.number (omega (arith, c.loop-byte-test.true, c.if-field-gt4.false)) c.loop-byte.invariant.small in omega (arith, room)
