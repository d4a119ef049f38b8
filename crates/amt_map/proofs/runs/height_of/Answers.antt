use Rattle.std.proofs.Common.{ℕ, List, map, subst, sym, ◌∙◌}
use Rattle.amt_map.specs.OneNode.{IsOneNode}
use Rattle.amt_map.proofs.Heights.{no_height, node_at_height, tree_height}
use Rattle.amt_map.proofs.runs.height_of.Goals as goal

pub returns-in-None-clause-value : goal.returns-in-None-clause-value
returns-in-None-clause-value c = no_height (λ p. (p.0, p.1.now)) c.args.pairs.now c.in-None.ensures.value

pub returns-in-None-clause-node : goal.returns-in-None-clause-node
returns-in-None-clause-node c =
    subst (λ (h : ℕ). IsOneNode h 0 (map {B = ℕ × List ℕ} (λ p. (p.0, p.1.now)) c.args.pairs.now)) (sym (no_height (λ p. (p.0, p.1.now)) c.args.pairs.now c.in-None.ensures.value))
    (node_at_height (map {B = ℕ × List ℕ} (λ p. (p.0, p.1.now)) c.args.pairs.now) c.requires)

pub returns-in-Some-clause-value : goal.returns-in-Some-clause-value
returns-in-Some-clause-value c = c.height_of_index.ensures.value ∙ sym (tree_height (λ p. (p.0, p.1.now)) c.args.pairs.now c.in-Some.pair.now c.requires c.in-Some.ensures.value)

pub returns-in-Some-clause-node : goal.returns-in-Some-clause-node
returns-in-Some-clause-node c =
    subst (λ (h : ℕ). IsOneNode h 0 (map {B = ℕ × List ℕ} (λ p. (p.0, p.1.now)) c.args.pairs.now)) (sym (c.height_of_index.ensures.value ∙ sym (tree_height (λ p. (p.0, p.1.now)) c.args.pairs.now c.in-Some.pair.now c.requires c.in-Some.ensures.value)))
    (node_at_height (map {B = ℕ × List ℕ} (λ p. (p.0, p.1.now)) c.args.pairs.now) c.requires)
