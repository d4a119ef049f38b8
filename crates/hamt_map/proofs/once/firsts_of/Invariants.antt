use Rattle.std.proofs.Common.{◌≡◌, ◌≤◌, ℕ, List, length, map, take}
use Rattle.hamt_map.specs.Holds.{FitNodes, Holds, spellings}
use Rattle.hamt_map.specs.Pairs.{Map, Pairs}
use Rattle.hamt_map.proofs.Merging.{TakenBack}
use Rattle.hamt_map.proofs.once.firsts_of.Given as goal

abbrev pub invariant-loop-left : goal.invariant-loop-left
invariant-loop-left l = record {
  within : l.left ≤ length l.leaves;
  held : (m : Map) × Holds (map {B = List ℕ × List ℕ} (λ e. (e.0.now, e.1.now)) l.firsts.entries) m;
  taken : (all : Pairs) → l.leaves ≡ spellings all → FitNodes all → TakenBack all (take l.left l.leaves) (map {B = List ℕ × List ℕ} (λ e. (e.0.now, e.1.now)) l.firsts.entries);
}

abbrev pub decreases-loop-left : goal.decreases-loop-left
decreases-loop-left l = l.left
