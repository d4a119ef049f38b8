use Rattle.std.proofs.Common.{◌≡◌, ◌-◌, ◌^◌, ◌<◌, ◌≤◌, ◌++◌, length, take}
use Rattle.fil_base.specs.Varint.{varint}
use Rattle.fil_base.proofs.varint.spelled.Given as goal

abbrev pub invariant-loop-left : goal.invariant-loop-left
invariant-loop-left l = record {
  within : l.length ≤ 8;
  small : l.left < 128 ^ (9 - l.length);
  spelled : take l.length l.bytes ++ varint l.left ≡ varint l.number;
  size : length l.bytes ≡ 9;
}

abbrev pub decreases-loop-left : goal.decreases-loop-left
decreases-loop-left l = l.left
