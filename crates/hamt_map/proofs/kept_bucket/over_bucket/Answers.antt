use Rattle.std.proofs.Common.{◌++◌, refl}
use Rattle.std.specs.Cmp.Lexicographic.{slice_cmp}
use Rattle.std.specs.Ordering.{nat_cmp, ordering_then}
use Rattle.hamt_map.specs.Canonical.{map_of}
use Rattle.hamt_map.proofs.BucketSteps.{shown}
use Rattle.hamt_map.proofs.LentPairs.{map_lent}
use Rattle.hamt_map.proofs.kept_bucket.over_bucket.Goals as goal

pub returns : goal.returns
returns c = λ start ps old are fit sorted is.
    map_lent c.args.below (map_of (ps ++ old)) (shown c.put_over.new.ordered.entries) c.in_ok-hashed.hashed.items c.sort_unstable.new.self.items (λ x y. ordering_then (slice_cmp nat_cmp x.key.now y.key.now) (slice_cmp nat_cmp x.spelling.now y.spelling.now))
    c.requires (c.in_ok-put_over.ensures start ps old are (c.in_ok-ordered.ensures old fit sorted is))
    (c.in_ok-hashed.ensures.lent (shown c.put_over.new.ordered.entries) refl) c.in_ok-hashed.ensures.hashes c.sort_unstable.ensures.permutation c.sort_unstable.ensures.sorted
