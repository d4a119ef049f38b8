use Rattle.std.proofs.Common.{◌≡◌, take, All}
use Rattle.amt_map.specs.Pairs.{digit_at}
use Rattle.amt_map.proofs.runs.run_length.Given as goal

abbrev pub invariant-loop-i : goal.invariant-loop-i
invariant-loop-i l = All (λ p. digit_at l.height p.0 ≡ l.digit) (take l.i l.pairs)
