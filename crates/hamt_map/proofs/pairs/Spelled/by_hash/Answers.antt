use Rattle.std.specs.Cmp.Lexicographic.{slice_cmp}
use Rattle.std.specs.Ordering.{nat_cmp, ordering_then}
use Rattle.hamt_map.proofs.LentPairs.{map_lent}
use Rattle.hamt_map.proofs.pairs.Spelled.by_hash.Goals as goal

pub returns-clause-lent : goal.returns-clause-lent
returns-clause-lent c = λ m held.
    map_lent c.args.below m c.args.self.now c.in_ok-hashed.hashed.items c.sort_unstable.new.self.items (λ x y. ordering_then (slice_cmp nat_cmp x.key.now y.key.now) (slice_cmp nat_cmp x.spelling.now y.spelling.now))
    c.requires held c.in_ok-hashed.ensures.lent c.in_ok-hashed.ensures.hashes c.sort_unstable.ensures.permutation c.sort_unstable.ensures.sorted
