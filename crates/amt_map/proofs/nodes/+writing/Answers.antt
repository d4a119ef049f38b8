use Rattle.std.proofs.Common.{ℕ, suc, List, ◌≡◌, ◌+◌, ◌-◌, ◌<◌, ◌++◌, [], ap, length, map, refl, sym, ◌∙◌, arith, rules}
use Rattle.std.proofs.lemmas.List.{append-nil, drop-map, length-map}
use Rattle.std.proofs.lemmas.Result.{IfOk-weaker}
use Rattle.std.specs.List.{flat_map}
use Rattle.cid_core.specs.BlockParts.{BlockParts, block_of}
use Rattle.dag_cbor.specs.Spelling.{spelled, spelled_layer}
use Rattle.dag_cbor.specs.declared.value.Value.TheOpen as layer
use Rattle.dag_cbor.specs.declared.value.Value.TheVariants as v
use Rattle.dag_cbor.proofs.Equations.{spelled-Link}
use Rattle.amt_map.specs.Node.{groups}
use Rattle.amt_map.specs.NodeText.{Spellings, blocks_of, links_of, node_text, text_at}
use Rattle.amt_map.proofs.SlotSteps.{bit_fits, few_links, inner_is, nothing_under, slot_fits, slots_end, slots_more}
use Rattle.amt_map.proofs.Writing.{next_group, node_left, none_left, under_end, under_is, under_more}
use Rattle.amt_map.proofs.nodes.+writing.Goals as goal

pub put_child-returns-clause-link : goal.put_child-returns-clause-link
put_child-returns-clause-link t c =
    c.of-3.ensures ∙ c.in_ok-put_link.ensures ∙ ap (λ (xs : List ℕ). xs ++ spelled_layer (layer.Link c.cid.result.now)) c.in_ok-link.ensures.items
    ∙ sym (spelled-Link c.cid.result.now)
    ∙ ap (λ cid. spelled (v.Link cid)) (c.cid.ensures.value ∙ ap (λ (b : BlockParts). b.cid) (c.in_ok-block.ensures ∙ ap (block_of 0x71) (c.of.ensures ∙ c.in_ok-bytes.ensures.text)))

pub put_children-first_run-run-requires-clause-node : goal.put_children-first_run-run-requires-clause-node
put_children-first_run-run-requires-clause-node t c =
    (c.requires.node.0, node_left (λ p. (p.0, p.1.now)) (suc c.args.below) (c.args.below + 1) c.requires.node.0 c.loop-done.done c.args.pairs.now c.split_at.result.1.now (omega arith) c.requires.node.1 c.split_at.ensures.back)

pub put_children-put_child-requires : goal.put_children-put_child-requires
put_children-put_child-requires t c = (search rules, (c.requires.height, c.first_run-run.ensures.below c.args.below (omega arith)))

pub put_children-put-requires-clause-bitmap : goal.put_children-put-requires-clause-bitmap
put_children-put-requires-clause-bitmap t c =
    let at = c.loop-done in
    let run = c.first_run-run in
    let ss : Spellings = map (λ p. (p.0, p.1.now)) c.args.pairs.now in
    bit_fits (links_of c.args.below) (suc c.args.below) ss _ _ at.links.bitmap at.links.count at.links.spellings.items (run.result.digit, _) at.invariant.links
    (next_group c.args.below (c.args.below + 1) at.done (length run.result.pairs.now) run.result.digit ss (map (λ p. (p.0, p.1.now)) c.split_at.result.1.now) _ (omega arith)
    (ap (map {B = ℕ × List ℕ} (λ p. (p.0, p.1.now))) c.split_at.ensures.back ∙ sym (drop-map (λ p. (p.0, p.1.now)) at.done c.args.pairs.now)) run.ensures.groups)

pub put_children-put-requires-clause-count : goal.put_children-put-requires-clause-count
put_children-put-requires-clause-count t c =
    let at = c.loop-done in
    let run = c.first_run-run in
    let ss : Spellings = map (λ p. (p.0, p.1.now)) c.args.pairs.now in
    slot_fits (links_of c.args.below) (groups (suc c.args.below) ss) _ _ at.links.bitmap at.links.count at.links.spellings.items (run.result.digit, _) _ at.invariant.links
    (next_group c.args.below (c.args.below + 1) at.done (length run.result.pairs.now) run.result.digit ss (map (λ p. (p.0, p.1.now)) c.split_at.result.1.now) _ (omega arith)
    (ap (map {B = ℕ × List ℕ} (λ p. (p.0, p.1.now))) c.split_at.ensures.back ∙ sym (drop-map (λ p. (p.0, p.1.now)) at.done c.args.pairs.now)) run.ensures.groups)
    refl (few_links c.args.below (suc c.args.below) ss)

pub put_children-loop-done-preserved : goal.put_children-loop-done-preserved
put_children-loop-done-preserved t c =
    let at = c.loop-done in
    let run = c.first_run-run in
    let ss : Spellings = map (λ p. (p.0, p.1.now)) c.args.pairs.now in
    let is = next_group c.args.below (c.args.below + 1) at.done (length run.result.pairs.now) run.result.digit ss (map (λ p. (p.0, p.1.now)) c.split_at.result.1.now) _ (omega arith)
    (ap (map {B = ℕ × List ℕ} (λ p. (p.0, p.1.now))) c.split_at.ensures.back ∙ sym (drop-map (λ p. (p.0, p.1.now)) at.done c.args.pairs.now)) run.ensures.groups in
    record {
      bound = let behind = c.split_at.ensures.back_len in let within = run.ensures.within in omega (arith, behind, within);
      links = slots_more (links_of c.args.below) (groups (suc c.args.below) ss) _ _ at.links.bitmap at.links.count at.links.spellings.items
          c.put.new.self.bitmap c.put.new.self.count c.put.new.self.spellings.items (run.result.digit, _) _ at.invariant.links is refl
          c.in_ok-put.ensures.bitmap c.in_ok-put.ensures.count (c.in_ok-put.ensures.spellings ∙ ap (λ (t : List ℕ). at.links.spellings.items ++ t) (c.as_slice.ensures ∙ c.in_ok-link.ensures.link));
      under = under_more (λ g. blocks_of c.args.below g.1) c.args.blocks.now.items at.blocks.items _ (groups (suc c.args.below) ss) _ _ _ at.invariant.under is c.in_ok-link.ensures.under;
    }

pub put_children-returns-clause-links : goal.put_children-returns-clause-links
put_children-returns-clause-links t c =
    let at = c.loop-done in
    let ss : Spellings = map (λ p. (p.0, p.1.now)) c.args.pairs.now in
    slots_end (links_of c.args.below) (groups (suc c.args.below) ss) _ at.links.bitmap at.links.count at.links.spellings.items at.invariant.links
    (none_left (suc c.args.below) at.done ss (omega (arith, c.loop-done-test.false, length-map {B = ℕ × List ℕ} c.args.pairs.now (λ p. (p.0, p.1.now)))))

pub put_children-returns-clause-under : goal.put_children-returns-clause-under
put_children-returns-clause-under t c =
    let at = c.loop-done in
    let ss : Spellings = map (λ p. (p.0, p.1.now)) c.args.pairs.now in
    under_is c.args.below ss c.args.blocks.now.items at.blocks.items (under_end (λ g. blocks_of c.args.below g.1) c.args.blocks.now.items at.blocks.items (groups (suc c.args.below) ss) _ at.invariant.under
    (none_left (suc c.args.below) at.done ss (omega (arith, c.loop-done-test.false, length-map {B = ℕ × List ℕ} c.args.pairs.now (λ p. (p.0, p.1.now))))))

pub write_node-returns-then-height-eq0-clause-under : goal.write_node-returns-then-height-eq0-clause-under
write_node-returns-then-height-eq0-clause-under t c =
    let ss : Spellings = map (λ p. (p.0, p.1.now)) c.args.pairs.now in
    let none = ap (λ bs. c.args.blocks.now.items ++ bs) (nothing_under c.args.height ss c.if-height-eq0.true) ∙ append-nil c.args.blocks.now.items in
    IfOk-weaker c.leaf.result (λ bytes. bytes.items ≡ text_at 0 ss) _ (λ bytes is. sym none) c.leaf.ensures

pub write_node-inner_node-requires : goal.write_node-inner_node-requires
write_node-inner_node-requires t c =
    let ss : Spellings = map (λ p. (p.0, p.1.now)) c.args.pairs.now in
    omega (arith, c.in_ok-links.ensures.links.count_is, few_links (c.args.height - 1) (suc (c.args.height - 1)) ss)

pub write_node-returns-clause-text : goal.write_node-returns-clause-text
write_node-returns-clause-text t c =
    let ss : Spellings = map (λ p. (p.0, p.1.now)) c.args.pairs.now in
    let links = c.in_ok-links.links in
    let are = c.in_ok-links.ensures.links in
    let some : 0 < c.args.height = omega (arith, c.if-height-eq0.false) in
    let texts = flat_map (links_of (c.args.height - 1)) (groups (suc (c.args.height - 1)) ss) in
    IfOk-weaker c.inner_node.result (λ bytes. bytes.items ≡ node_text links.bitmap texts []) (λ bytes. bytes.items ≡ text_at c.args.height ss)
    (λ bytes is. is ∙ inner_is c.args.height ss links.bitmap links.count links.spellings.items some are) (c.inner_node.ensures texts are.count_is are.items_are)
