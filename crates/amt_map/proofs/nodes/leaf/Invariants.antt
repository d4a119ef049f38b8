use Rattle.std.proofs.Common.{ℕ, List, map, drop}
use Rattle.amt_map.specs.Node.{groups}
use Rattle.amt_map.specs.NodeText.{values_of}
use Rattle.amt_map.proofs.SlotSteps.{SlotsSoFar}
use Rattle.amt_map.proofs.nodes.leaf.Given as goal

abbrev pub invariant-loop-pair : goal.invariant-loop-pair
invariant-loop-pair l =
    SlotsSoFar values_of (groups 0 (map {B = ℕ × List ℕ} (λ p. (p.0, p.1.now)) l.pairs)) (groups 0 (drop l.pair-index (map {B = ℕ × List ℕ} (λ p. (p.0, p.1.now)) l.pairs))) l.values.bitmap l.values.count l.values.spellings.items
