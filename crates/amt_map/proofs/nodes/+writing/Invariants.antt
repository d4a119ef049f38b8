use Rattle.std.proofs.Common.{◌≡◌, ◌≤◌, ◌+◌, ◌*◌, ◌-◌, ◌++◌, ℕ, suc, List, map, drop, length}
use Rattle.std.specs.List.{flat_map}
use Rattle.amt_map.specs.Node.{groups}
use Rattle.amt_map.specs.NodeText.{blocks_of, links_of}
use Rattle.amt_map.proofs.SlotSteps.{SlotsSoFar}
use Rattle.amt_map.proofs.nodes.+writing.Given as goal

abbrev pub invariant-put_children-loop-done : goal.invariant-put_children-loop-done
invariant-put_children-loop-done l = record {
  bound : l.done ≤ length l.pairs;
  links : SlotsSoFar (links_of l.below) (groups (suc l.below) (map {B = ℕ × List ℕ} (λ p. (p.0, p.1.now)) l.pairs))
      (groups (suc l.below) (drop l.done (map {B = ℕ × List ℕ} (λ p. (p.0, p.1.now)) l.pairs))) l.links.bitmap l.links.count l.links.spellings.items;
  under : l.blocks.items ++ flat_map (λ g. blocks_of l.below g.1) (groups (suc l.below) (drop l.done (map {B = ℕ × List ℕ} (λ p. (p.0, p.1.now)) l.pairs)))
      ≡ l.initial.blocks.items ++ flat_map (λ g. blocks_of l.below g.1) (groups (suc l.below) (map {B = ℕ × List ℕ} (λ p. (p.0, p.1.now)) l.pairs));
}

abbrev pub decreases-put_children-loop-done : goal.decreases-put_children-loop-done
decreases-put_children-loop-done l = length l.pairs - l.done

abbrev pub decreases-write_node : goal.decreases-write_node
decreases-write_node l = 3 * l.height + 1

abbrev pub decreases-put_children : goal.decreases-put_children
decreases-put_children l = 3 * l.below + 3

abbrev pub decreases-put_child : goal.decreases-put_child
decreases-put_child l = 3 * l.height + 2
