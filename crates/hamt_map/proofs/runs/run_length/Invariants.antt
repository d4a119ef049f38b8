use Rattle.std.proofs.Common.{◌≡◌, take, All}
use Rattle.std.specs.Int.Digits.{number_from_digits}
use Rattle.hamt_map.specs.HashOrder.{place_of}
use Rattle.hamt_map.proofs.runs.run_length.Given as goal

abbrev pub invariant-loop-i : goal.invariant-loop-i
invariant-loop-i l = All (λ p. place_of l.level (number_from_digits 256 p.hash) ≡ l.place) (take l.i l.pairs)
