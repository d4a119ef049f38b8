use Rattle.std.proofs.Common.{◌≡◌, ◌++◌, drop, replicate}
use Rattle.hamt_map.proofs.hashed.without_first.Given as goal

abbrev pub invariant-loop-i : goal.invariant-loop-i
invariant-loop-i l = l.low ≡ replicate l.i 0 ++ drop l.i l.fn.hash
