use Rattle.std.proofs.Common.{◌≡◌, ℕ, List, map, take}
use Rattle.amt_map.proofs.nodes.lent.Given as goal

abbrev pub invariant-loop-pair : goal.invariant-loop-pair
invariant-loop-pair l = map {B = ℕ × List ℕ} (λ p. (p.0, p.1.now)) l.lent.items ≡ map {B = ℕ × List ℕ} (λ p. (p.0, p.1.items)) (take l.pair-index l.pairs)
