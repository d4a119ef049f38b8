use Rattle.std.proofs.Common.{◌≡◌, ◌++◌, ℕ, List, map}
use Rattle.amt_map.proofs.Spellings.{view}
use Rattle.amt_map.proofs.pairs.Spelled.spellings.Given as goal

abbrev pub invariant-loop-index : goal.invariant-loop-index
invariant-loop-index l = l.self ≡ map {B = ℕ × List ℕ} (λ p. (p.0, p.1.now)) l.pairs.items ++ view l.index-iterator
