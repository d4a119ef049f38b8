use Rattle.std.proofs.Common.{arith}
use Rattle.fil_message.proofs.ByteCounts.{varint_last, varint_longer, varint_short}
use Rattle.fil_message.proofs.lengths.varint_len.Goals as goal

pub overflow_add-len : goal.overflow_add-len
overflow_add-len c = omega (arith, varint_short c.args.number c.requires)

pub loop-left-preserved : goal.loop-left-preserved
loop-left-preserved c = omega (arith, varint_longer c.loop-left.left (omega arith))

pub returns : goal.returns
returns c = omega (arith, varint_last c.loop-left.left (omega arith))
