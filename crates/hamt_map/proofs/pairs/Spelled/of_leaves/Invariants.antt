use Rattle.std.proofs.Common.{◌≡◌, ◌≤◌, length, take}
use Rattle.hamt_map.specs.Holds.{FitNodes, spellings}
use Rattle.hamt_map.specs.Pairs.{Pairs}
use Rattle.hamt_map.proofs.Merging.{TakenBack}
use Rattle.hamt_map.proofs.pairs.Spelled.of_leaves.Given as goal

abbrev pub invariant-loop-left : goal.invariant-loop-left
invariant-loop-left l = record {
  within : l.left ≤ length l.leaves;
  taken : (all : Pairs) → l.leaves ≡ spellings all → FitNodes all → TakenBack all (take l.left l.leaves) l.pairs;
}

abbrev pub decreases-loop-left : goal.decreases-loop-left
decreases-loop-left l = l.left
