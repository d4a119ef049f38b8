use Rattle.std.proofs.Common.{◌≡◌, ◌+◌, length}
use Rattle.fil_base.specs.Varint.{varint}
use Rattle.fil_message.proofs.lengths.varint_len.Given as goal

abbrev pub invariant-loop-left : goal.invariant-loop-left
invariant-loop-left l = l.len + length (varint l.left) ≡ 1 + length (varint l.fn.number)

abbrev pub decreases-loop-left : goal.decreases-loop-left
decreases-loop-left l = l.left
