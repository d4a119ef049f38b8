use Rattle.std.proofs.Common.{◌≡◌, ◌<◌, ◌^◌, take}
use Rattle.std.specs.Int.Digits.{number_from_digits}
use Rattle.hamt_map.proofs.stepping.number_of.Given as goal

abbrev pub invariant-loop-byte : goal.invariant-loop-byte
invariant-loop-byte l = record {
  front : l.number ≡ number_from_digits 256 (take l.byte-index l.field);
  small : l.number < 256 ^ l.byte-index;
}
