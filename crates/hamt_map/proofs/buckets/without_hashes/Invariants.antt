use Rattle.std.proofs.Common.{◌≡◌, ℕ, List, map, take}
use Rattle.hamt_map.proofs.buckets.without_hashes.Given as goal

abbrev pub invariant-loop-pair : goal.invariant-loop-pair
invariant-loop-pair l = map {B = List ℕ × List ℕ} (λ p. (p.0.now, p.1.now)) l.texts.items ≡ map {B = List ℕ × List ℕ} (λ p. (p.key.now, p.spelling.now)) (take l.pair-index l.pairs)
