use Rattle.std.proofs.Common.{◌≡◌, ◌+◌, length}
use Rattle.std.specs.Int.Digits.{digits_of}
use Rattle.fil_message.proofs.lengths.amount_len.Given as goal

abbrev pub invariant-loop-left : goal.invariant-loop-left
invariant-loop-left l = l.len + length (digits_of 256 l.left) ≡ 1 + length (digits_of 256 l.fn.amount)

abbrev pub decreases-loop-left : goal.decreases-loop-left
decreases-loop-left l = l.left
