use Rattle.std.proofs.Common.{◌≤◌, ◌++◌, ℕ, drop, length, map}
use Rattle.hamt_map.specs.Canonical.{map_of}
use Rattle.hamt_map.specs.HashOrder.{AreLent}
use Rattle.hamt_map.specs.Holds.{Holds}
use Rattle.hamt_map.specs.Lent.{lent_of}
use Rattle.hamt_map.specs.Pairs.{Pairs}
use Rattle.hamt_map.proofs.BucketSteps.{shown}
use Rattle.hamt_map.proofs.kept_bucket.put_over.Given as goal

abbrev pub invariant-loop-left : goal.invariant-loop-left
invariant-loop-left l = record {
  within : l.left ≤ length l.pairs;
  made : (below : ℕ) (ps old : Pairs) → AreLent below (map lent_of l.pairs) ps → Holds (shown l.initial.ordered.entries) (map_of old)
      → Holds (shown l.ordered.entries) (map_of (drop l.left ps ++ old));
}

abbrev pub decreases-loop-left : goal.decreases-loop-left
decreases-loop-left l = l.left
