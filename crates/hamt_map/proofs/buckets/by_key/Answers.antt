use Rattle.std.specs.Cmp.Lexicographic.{slice_cmp}
use Rattle.std.specs.Ordering.{nat_cmp}
use Rattle.hamt_map.proofs.BucketSteps.{sorted_texts}
use Rattle.hamt_map.proofs.buckets.by_key.Goals as goal

pub returns : goal.returns
returns c = λ below ps are.
    sorted_texts below c.args.pairs.now ps (λ x y. slice_cmp nat_cmp x.1.now y.1.now) c.in_ok-ordered.ordered.items c.sort_unstable.new.self.items are c.in_ok-ordered.ensures c.sort_unstable.ensures.permutation c.sort_unstable.ensures.sorted
