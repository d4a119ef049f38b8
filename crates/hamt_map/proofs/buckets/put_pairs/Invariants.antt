use Rattle.std.proofs.Common.{◌≡◌, ◌++◌, ℕ, List, map, take}
use Rattle.std.specs.List.{flat_map}
use Rattle.hamt_map.specs.HashOrder.{pair_text}
use Rattle.hamt_map.proofs.buckets.put_pairs.Given as goal

abbrev pub invariant-loop-pair : goal.invariant-loop-pair
invariant-loop-pair l = l.out.items ≡ l.initial.out.items ++ flat_map pair_text (map {B = List ℕ × List ℕ} (λ p. (p.0.now, p.1.now)) (take l.pair-index l.pairs))
