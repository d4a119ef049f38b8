use Rattle.std.proofs.Common.{◌≡◌, ℕ, length, map}
use Rattle.dag_cbor.specs.Spelling.{spelled}
use Rattle.hamt_map.specs.HashOrder.{AreLent}
use Rattle.hamt_map.specs.Holds.{FitNodes}
use Rattle.hamt_map.specs.Lent.{lent_of}
use Rattle.hamt_map.specs.Node.{bucket}
use Rattle.hamt_map.specs.Pairs.{Pairs}
use Rattle.hamt_map.proofs.BucketPairs.{CoveredSoFar}
use Rattle.hamt_map.proofs.kept_bucket.covers.Given as goal

abbrev pub invariant-loop : goal.invariant-loop
invariant-loop l = (below : ℕ) (ps old : Pairs) → AreLent below (map lent_of l.pairs) ps → FitNodes old → l.fn.bucket ≡ spelled (bucket old)
    → (l.count ≡ length old) × CoveredSoFar ps old l.counter l.rest
