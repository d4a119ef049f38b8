use Rattle.std.proofs.Common.{◌≡◌, ◌∷◌, [], ◌++◌, ap, map, subst, sym, ◌∙◌}
use Rattle.std.specs.Prelude.{All}
use Rattle.std.specs.FinMap.{entries}
use Rattle.cid_core.specs.BlockParts.{BlockParts}
use Rattle.tree_blocks.specs.NewBlocks.{IsNodeBlock}
use Rattle.hamt_map.specs.Groups.{nodes_under}
use Rattle.hamt_map.specs.HashOrder.{AreLent}
use Rattle.hamt_map.specs.Holds.{Holds}
use Rattle.hamt_map.specs.Lent.{lent_of}
use Rattle.hamt_map.specs.Node.{node_block, nodes}
use Rattle.hamt_map.specs.Pairs.{Map}
use Rattle.hamt_map.proofs.NodeBlocks.{nodes_own}
use Rattle.hamt_map.proofs.NodeParts.{nodes_are}
use Rattle.hamt_map.proofs.nodes.all_nodes.Goals as goal
use Rattle.hamt_map.proofs.nodes.all_nodes.Goals.{After-drop-hashed-2}

block : (c : After-drop-hashed-2) (m : Map) → Holds c.args.pairs.now m → c.in_ok-root.root ≡ node_block 50 (entries m)
block c m held =
    let lent = c.in_ok-hashed.ensures.lent m held in
    c.in_ok-root.ensures.block lent.pairs (subst (λ es. AreLent 50 (map lent_of es) lent.pairs) (sym c.as_slice.ensures.value) lent.are) ∙ ap (node_block 50) lent.same

all : (c : After-drop-hashed-2) (m : Map) → Holds c.args.pairs.now m → c.push.new.self.items ≡ nodes 50 (entries m)
all c m held =
    let lent = c.in_ok-hashed.ensures.lent m held in
    let under = c.in_ok-root.ensures.under lent.pairs (subst (λ es. AreLent 50 (map lent_of es) lent.pairs) (sym c.as_slice.ensures.value) lent.are) ∙ ap (λ ps. c.new-nodes.result.items ++ nodes_under 50 ps) lent.same in
    c.in_ok-push.ensures.items ∙ (λ i. under i ++ block c m held i ∷ []) ∙ ap (λ bs. (bs ++ nodes_under 50 (entries m)) ++ node_block 50 (entries m) ∷ []) c.new-nodes.ensures.items ∙ sym (nodes_are 50 (entries m))

pub returns-clause-root : goal.returns-clause-root
returns-clause-root c = λ m held. c.in_ok-cid.ensures ∙ c.cid.ensures.value ∙ ap (λ (b : BlockParts). b.cid) (block c m held)

pub returns-clause-nodes : goal.returns-clause-nodes
returns-clause-nodes c = λ m held. all c m held

pub returns-clause-cids : goal.returns-clause-cids
returns-clause-cids c = let held = c.in_ok-hashed.ensures.held in subst (All IsNodeBlock) (sym (all c held.0 held.1)) (nodes_own 50 (entries held.0))
