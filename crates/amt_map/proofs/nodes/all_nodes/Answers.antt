use Rattle.std.proofs.Common.{ℕ, List, ◌≡◌, ◌∷◌, [], ◌++◌, ap, map, subst, sym, ◌∙◌}
use Rattle.std.specs.Prelude.{All}
use Rattle.cid_core.specs.BlockParts.{BlockParts, block_of}
use Rattle.tree_blocks.specs.NewBlocks.{IsNodeBlock}
use Rattle.amt_map.specs.Node.{height_of}
use Rattle.amt_map.specs.NodeText.{blocks_under, root_text}
use Rattle.amt_map.proofs.NodeTexts.{root_block_is, tree_is, tree_own}
use Rattle.amt_map.proofs.nodes.all_nodes.Goals as goal
use Rattle.amt_map.proofs.nodes.all_nodes.Goals.{After-drop-spelled-2}

root : (c : After-drop-spelled-2) → c.in_ok-root.root ≡ block_of 0x71 (root_text c.args.pairs.now)
root c =
    c.in_ok-root.ensures
    ∙ ap (block_of 0x71) (c.of.ensures ∙ c.in_ok-bytes.ensures.text ∙ ap (λ ss. root_text (map {B = ℕ × List ℕ} (λ p. (p.0, p.1.now)) ss)) c.as_slice.ensures.value ∙ ap root_text c.in_ok-spelled.ensures.same)

all : (c : After-drop-spelled-2) → c.push.new.self.items ≡ blocks_under (height_of c.args.pairs.now) c.args.pairs.now ++ (block_of 0x71 (root_text c.args.pairs.now) ∷ [])
all c =
    let shown = ap (λ ss. map {B = ℕ × List ℕ} (λ p. (p.0, p.1.now)) ss) c.as_slice.ensures.value ∙ c.in_ok-spelled.ensures.same in
    let under = c.in_ok-bytes.ensures.under ∙ (λ i. c.new-blocks.ensures.items i ++ blocks_under (height_of (shown i)) (shown i)) in
    c.in_ok-push.ensures.items ∙ (λ i. under i ++ root c i ∷ [])

pub returns-clause-root : goal.returns-clause-root
returns-clause-root c = λ m held. c.in_ok-cid.ensures ∙ c.cid.ensures.value ∙ ap (λ (b : BlockParts). b.cid) (root c ∙ root_block_is c.args.pairs.now m held)

pub returns-clause-nodes : goal.returns-clause-nodes
returns-clause-nodes c = λ m held. all c ∙ tree_is c.args.pairs.now m held

pub returns-clause-own : goal.returns-clause-own
returns-clause-own c = subst (All IsNodeBlock) (sym (all c)) (tree_own c.args.pairs.now)
