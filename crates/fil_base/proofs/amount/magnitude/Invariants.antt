use Rattle.std.proofs.Common.{◌≡◌, ◌^◌, ◌<◌, ◌≤◌, ◌++◌, length, drop}
use Rattle.std.specs.Int.Digits.{digits_of}
use Rattle.fil_base.proofs.amount.magnitude.Given as goal

abbrev pub invariant-loop-left : goal.invariant-loop-left
invariant-loop-left l = record {
  within : l.start ≤ 12;
  small : l.left < 256 ^ l.start;
  spelled : digits_of 256 l.left ++ drop l.start l.bytes ≡ digits_of 256 l.number;
  size : length l.bytes ≡ 12;
}

abbrev pub decreases-loop-left : goal.decreases-loop-left
decreases-loop-left l = l.left
