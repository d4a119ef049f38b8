use Rattle.std.proofs.Common.{◌≡◌, ◌++◌, All, ℕ, List, map}
use Rattle.hamt_map.specs.Lent.{IsHashed}
use Rattle.hamt_map.proofs.BucketSteps.{shown}
use Rattle.hamt_map.proofs.kept_bucket.by_hash.Given as goal

abbrev pub invariant-loop-key : goal.invariant-loop-key
invariant-loop-key l = record {
  all : shown l.ordered.entries ≡ map {B = List ℕ × List ℕ} (λ p. (p.key.now, p.spelling.now)) l.hashed.items ++ shown l.key-iterator;
  hashes : All (IsHashed l.below) l.hashed.items;
}
