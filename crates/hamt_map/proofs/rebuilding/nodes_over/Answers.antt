use Rattle.std.proofs.Common.{ap, map, subst, sym, ◌∙◌}
use Rattle.std.proofs.lemmas.List.Elements.{All-nil, All-push}
use Rattle.std.specs.Prelude.{All}
use Rattle.std.specs.FinMap.{entries}
use Rattle.cid_core.specs.BlockParts.{BlockParts}
use Rattle.tree_blocks.specs.NewBlocks.{IsNodeBlock}
use Rattle.hamt_map.specs.Groups.{nodes_under}
use Rattle.hamt_map.specs.HashOrder.{AreLent}
use Rattle.hamt_map.specs.Kept.{over}
use Rattle.hamt_map.specs.Lent.{lent_of}
use Rattle.hamt_map.specs.Node.{node_block}
use Rattle.hamt_map.specs.Omitted.{Adds}
use Rattle.hamt_map.specs.Pairs.{Map}
use Rattle.hamt_map.proofs.OverTrees.{kept_root, over_same, tree_omits}
use Rattle.hamt_map.proofs.rebuilding.nodes_over.Goals as goal

pub returns-clause-root : goal.returns-clause-root
returns-clause-root g c = λ own kept held is.
    let lent = c.in_ok-hashed.ensures.lent own held in
    let root = kept_root (g.B.BlockSource.blocks c.args.base.now) c.args.root.now kept c.in-Some.kept.now c.bytes.result.now is c.in-Some.ensures c.bytes.ensures.value in
    let block = c.in_ok-top.ensures.block lent.pairs (entries kept) (subst (λ es. AreLent 50 (map lent_of es) lent.pairs) (sym c.as_slice.ensures.value) lent.are) root
    ∙ ap (λ (m : Map). node_block 50 (entries m)) (over_same own kept lent.pairs lent.same) in
    c.in_ok-cid.ensures ∙ c.cid.ensures.value ∙ ap (λ (b : BlockParts). b.cid) block

pub returns-clause-nodes : goal.returns-clause-nodes
returns-clause-nodes g c = λ own kept held is.
    let lent = c.in_ok-hashed.ensures.lent own held in
    let root = kept_root (g.B.BlockSource.blocks c.args.base.now) c.args.root.now kept c.in-Some.kept.now c.bytes.result.now is c.in-Some.ensures c.bytes.ensures.value in
    let are = subst (λ es. AreLent 50 (map lent_of es) lent.pairs) (sym c.as_slice.ensures.value) lent.are in
    let same = over_same own kept lent.pairs lent.same in
    let block = c.in_ok-top.ensures.block lent.pairs (entries kept) are root ∙ ap (λ (m : Map). node_block 50 (entries m)) same in
    let under = subst (λ (m : Map). Adds (g.B.BlockSource.blocks c.args.base.now) c.new-nodes.result.items c.put_over.new.nodes.items (nodes_under 50 (entries m))) same (c.in_ok-top.ensures.under lent.pairs (entries kept) are root) in
    tree_omits (g.B.BlockSource.blocks c.args.base.now) c.put_over.new.nodes.items c.push.new.self.items (entries (over own kept)) c.in_ok-top.top
    (subst (λ bs. Adds (g.B.BlockSource.blocks c.args.base.now) bs c.put_over.new.nodes.items (nodes_under 50 (entries (over own kept)))) c.new-nodes.ensures.items under) block c.in_ok-push.ensures.items

pub returns-clause-cids : goal.returns-clause-cids
returns-clause-cids g c =
    subst (All IsNodeBlock) (sym c.in_ok-push.ensures.items) (All-push IsNodeBlock c.put_over.new.nodes.items c.in_ok-top.top
    (c.in_ok-top.ensures.cids (subst (All IsNodeBlock) (sym c.new-nodes.ensures.items) (All-nil IsNodeBlock))) c.in_ok-top.ensures.own)
