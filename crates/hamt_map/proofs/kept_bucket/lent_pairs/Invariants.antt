use Rattle.std.proofs.Common.{◌≡◌, length}
use Rattle.std.specs.Prelude.{T}
use Rattle.std.specs.FinMap.Entries.{is_sorted}
use Rattle.dag_cbor.specs.Spelling.{spelled}
use Rattle.hamt_map.specs.Holds.{FitNodes}
use Rattle.hamt_map.specs.Node.{bucket}
use Rattle.hamt_map.specs.Pairs.{Pairs, key_cmp}
use Rattle.hamt_map.proofs.BucketPairs.{PairsRead}
use Rattle.hamt_map.proofs.BucketSteps.{shown}
use Rattle.hamt_map.proofs.kept_bucket.lent_pairs.Given as goal

abbrev pub invariant-loop : goal.invariant-loop
invariant-loop l = (old : Pairs) → FitNodes old → T (is_sorted key_cmp old) → l.fn.bucket ≡ spelled (bucket old)
    → (l.count ≡ length old) × PairsRead old l.counter l.rest (shown l.ordered.entries)
