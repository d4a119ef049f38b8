use Rattle.std.proofs.Common.{◌≡◌, ℕ, List, ◌+◌, ◌-◌, ◌^◌, ◌<◌, ◌||◌, cond, ◌++◌, ap, length, map, take, drop, sym, subst, ◌∙◌, arith}
use Rattle.std.proofs.lemmas.Bool.{eqb-true}
use Rattle.std.proofs.lemmas.List.Elements.{All-push}
use Rattle.std.proofs.lemmas.Result.{IfOk-weaker, on_ok_weaker}
use Rattle.std.specs.Prelude.{All, is_some, nat_lt}
use Rattle.std.specs.FinMap.{entries}
use Rattle.std.specs.Int.Digits.{digits_of}
use Rattle.std.specs.List.{flat_map}
use Rattle.std.specs.Option.{option_map}
use Rattle.cid_core.specs.BlockParts.{block_of}
use Rattle.dag_cbor.specs.Spelling.{joined, spelled}
use Rattle.dag_cbor.specs.declared.value.Value.TheVariants as v
use Rattle.dag_cbor.proofs.Equations.{spelled-Link}
use Rattle.tree_blocks.specs.NewBlocks.{IsNodeBlock}
use Rattle.hamt_map.specs.Ahead.{AreAhead}
use Rattle.hamt_map.specs.Canonical.{map_of, node_of}
use Rattle.hamt_map.specs.Groups.{by_place, nodes_of, pointer_to, pointers_of}
use Rattle.hamt_map.specs.Node.{node_block}
use Rattle.hamt_map.specs.Pairs.{Pairs, at_place}
use Rattle.hamt_map.proofs.AheadSteps.{is_cid}
use Rattle.hamt_map.proofs.GroupSteps.{bits_fit, count_fits}
use Rattle.hamt_map.proofs.LentPairs.{run_of}
use Rattle.hamt_map.proofs.NodeBlocks.{on_ok_from, own_node}
use Rattle.hamt_map.proofs.NodeParts.{node_is}
use Rattle.hamt_map.proofs.Omitting.{adds_all}
use Rattle.hamt_map.proofs.OverGroups.{copied_text, copied_under, kept_bucket, kept_child, kept_link, lent_size, link_text, link_under, new_group, over_begin, over_end, over_more, over_text, over_under_end}
use Rattle.hamt_map.proofs.OverPlaces.{full_over, kept_at, next_group, some_group}
use Rattle.hamt_map.proofs.rebuilding.+rebuilding.Goals as goal

-- ---- put_link_over

pub put_link_over-returns-clause-text : goal.put_link_over-returns-clause-text
put_link_over-returns-clause-text g t c = λ ps old are kept great is.
    let held = g.B.BlockSource.blocks c.args.base.now in
    let some : 0 < c.args.below = let apart = c.if-below-eq0.false in omega (arith, apart) in
    let cid = c.in_ok-child.ensures (node_block (c.args.below - 1) old).cid (is_cid (c.args.below - 1) old) is in
    let child = kept_child held c.args.below old c.in_ok-child.child c.in-Some.kept.now c.bytes.result.now kept some great cid c.in-Some.ensures c.bytes.ensures.value in
    link_text held c.args.below ps old c.args.out.now.items c.put_link.new.out.items c.in_ok-block.block kept some great (c.in_ok-block.ensures.block ps old are child)
    (c.in_ok-put_link.ensures ∙ ap (λ (t : List ℕ). c.args.out.now.items ++ t) (sym (spelled-Link c.cid.result.now)) ∙ ap (λ cid. c.args.out.now.items ++ spelled (v.Link cid)) c.cid.ensures.value)

pub put_link_over-returns-clause-under : goal.put_link_over-returns-clause-under
put_link_over-returns-clause-under g t c = λ ps old are kept great is.
    let held = g.B.BlockSource.blocks c.args.base.now in
    let some : 0 < c.args.below = let apart = c.if-below-eq0.false in omega (arith, apart) in
    let cid = c.in_ok-child.ensures (node_block (c.args.below - 1) old).cid (is_cid (c.args.below - 1) old) is in
    let child = kept_child held c.args.below old c.in_ok-child.child c.in-Some.kept.now c.bytes.result.now kept some great cid c.in-Some.ensures c.bytes.ensures.value in
    link_under held c.args.below ps old c.args.nodes.now.items c.put_over.new.nodes.items c.push.new.self.items c.in_ok-block.block kept some great
    (c.in_ok-block.ensures.block ps old are child) (c.in_ok-block.ensures.under ps old are child) c.in_ok-push.ensures.items

-- ---- put_pointer_over

pub put_pointer_over-returns-then-is_link-clause-text : goal.put_pointer_over-returns-then-is_link-clause-text
put_pointer_over-returns-then-is_link-clause-text g t c = λ ps old are kept is.
    let link = kept_link c.args.below old c.args.pointer.now c.is_link.result c.is_link.ensures.bucket c.if-is_link.true is in
    c.put_link_over.ensures.text ps old are kept link.0 link.1

pub put_pointer_over-returns-then-is_link-clause-under : goal.put_pointer_over-returns-then-is_link-clause-under
put_pointer_over-returns-then-is_link-clause-under g t c = λ ps old are kept is.
    let link = kept_link c.args.below old c.args.pointer.now c.is_link.result c.is_link.ensures.bucket c.if-is_link.true is in
    c.put_link_over.ensures.under ps old are kept link.0 link.1

pub put_pointer_over-returns-else-is_link-clause-text : goal.put_pointer_over-returns-else-is_link-clause-text
put_pointer_over-returns-else-is_link-clause-text g t c = λ ps old are kept is.
    c.put_bucket_over.ensures.text ps old are kept.fit kept.sorted (kept_bucket c.args.below old c.args.pointer.now c.is_link.result c.is_link.ensures.link c.if-is_link.false is)

pub put_pointer_over-returns-else-is_link-clause-under : goal.put_pointer_over-returns-else-is_link-clause-under
put_pointer_over-returns-else-is_link-clause-under g t c = λ ps old are kept is.
    on_ok_weaker c.put_bucket_over.result (λ now. adds_all (g.B.BlockSource.blocks c.args.base.now) c.args.nodes.now.items c.put_bucket_over.new.nodes.items (nodes_of c.args.below (entries (map_of (ps ++ old)))) now)
    (c.put_bucket_over.ensures.under ps old are kept.fit kept.sorted (kept_bucket c.args.below old c.args.pointer.now c.is_link.result c.is_link.ensures.link c.if-is_link.false is))

-- ---- put_place

pub put_place-returns-in_default-clause-bits : goal.put_place-returns-in_default-clause-bits
put_place-returns-in_default-clause-bits g t c =
    on_ok_weaker c.put_group.result (λ is. is ∙ ap (λ o. c.args.pointers.now.bits + cond (is_some o || nat_lt 0 (length c.args.group.now)) (2 ^ c.args.place) 0) (sym c.in_default.is)) c.put_group.ensures.bits

pub put_place-returns-in_default-clause-count : goal.put_place-returns-in_default-clause-count
put_place-returns-in_default-clause-count g t c =
    on_ok_weaker c.put_group.result (λ is. is ∙ ap (λ o. c.args.pointers.now.count + cond (is_some o || nat_lt 0 (length c.args.group.now)) 1 0) (sym c.in_default.is)) c.put_group.ensures.count

pub put_place-returns-in_default-clause-spellings : goal.put_place-returns-in_default-clause-spellings
put_place-returns-in_default-clause-spellings g t c = λ ps old are kept shows.
    on_ok_weaker c.put_group.result (λ is. is ∙ ap (λ (qs : Pairs). c.args.pointers.now.spellings.items ++ joined (map spelled (pointers_of c.args.below (entries (map_of qs))))) (new_group c.args.below ps old (sym (ap (option_map (λ p. p.now)) c.in_default.is) ∙ shows)))
    (c.put_group.ensures.spellings ps are)

pub put_place-returns-in_default-clause-under : goal.put_place-returns-in_default-clause-under
put_place-returns-in_default-clause-under g t c = λ ps old are kept shows.
    on_ok_weaker c.put_group.result (λ is. adds_all (g.B.BlockSource.blocks c.args.base.now) c.args.nodes.now.items c.put_group.new.nodes.items (nodes_of c.args.below (entries (map_of (ps ++ old))))
    (is ∙ ap (λ (qs : Pairs). c.args.nodes.now.items ++ nodes_of c.args.below (entries (map_of qs))) (new_group c.args.below ps old (sym (ap (option_map (λ p. p.now)) c.in_default.is) ∙ shows))))
    (c.put_group.ensures.under ps are)

pub put_place-returns-then-is_empty-clause-bits : goal.put_place-returns-then-is_empty-clause-bits
put_place-returns-then-is_empty-clause-bits g t c =
    c.add.ensures.bits ∙ ap (λ o. c.args.pointers.now.bits + cond (is_some o || nat_lt 0 (length c.args.group.now)) (2 ^ c.args.place) 0) (sym c.in-Some.is)

pub put_place-returns-then-is_empty-clause-count : goal.put_place-returns-then-is_empty-clause-count
put_place-returns-then-is_empty-clause-count g t c =
    c.add.ensures.count ∙ ap (λ o. c.args.pointers.now.count + cond (is_some o || nat_lt 0 (length c.args.group.now)) 1 0) (sym c.in-Some.is)

pub put_place-returns-then-is_empty-clause-spellings : goal.put_place-returns-then-is_empty-clause-spellings
put_place-returns-then-is_empty-clause-spellings g t c = λ ps old are kept shows.
    copied_text (g.B.BlockSource.blocks c.args.base.now) c.args.below c.args.group.now ps old c.in-Some.pointer.now c.args.pointers.now.spellings.items c.extend_from_slice.new.self.items are (omega (arith, eqb-true _ _ (sym c.if-is_empty.ensures))) kept
    (sym (ap (option_map (λ p. p.now)) c.in-Some.is) ∙ shows) (c.in_ok-extend_from_slice.ensures.items ∙ ap (λ v. v.items ++ c.in-Some.pointer.now) c.add.ensures.spellings)

pub put_place-returns-then-is_empty-clause-under : goal.put_place-returns-then-is_empty-clause-under
put_place-returns-then-is_empty-clause-under g t c = λ ps old are kept shows.
    copied_under (g.B.BlockSource.blocks c.args.base.now) c.args.below c.args.group.now ps old c.args.nodes.now.items are (omega (arith, eqb-true _ _ (sym c.if-is_empty.ensures))) kept

pub put_place-returns-clause-bits : goal.put_place-returns-clause-bits
put_place-returns-clause-bits g t c =
    on_ok_from c.put_pointer_over.result (c.add.ensures.bits ∙ ap (λ o. c.args.pointers.now.bits + cond (is_some o || nat_lt 0 (length c.args.group.now)) (2 ^ c.args.place) 0) (sym c.in-Some.is))

pub put_place-returns-clause-count : goal.put_place-returns-clause-count
put_place-returns-clause-count g t c =
    on_ok_from c.put_pointer_over.result (c.add.ensures.count ∙ ap (λ o. c.args.pointers.now.count + cond (is_some o || nat_lt 0 (length c.args.group.now)) 1 0) (sym c.in-Some.is))

pub put_place-returns-clause-spellings : goal.put_place-returns-clause-spellings
put_place-returns-clause-spellings g t c = λ ps old are kept shows.
    let text = sym (ap (option_map (λ p. p.now)) c.in-Some.is) ∙ shows in
    on_ok_weaker c.put_pointer_over.result (λ is. over_text (g.B.BlockSource.blocks c.args.base.now) c.args.below ps old c.in-Some.pointer.now c.args.pointers.now.spellings.items c.put_pointer_over.new.out.items kept text
    (is ∙ ap (λ v. v.items ++ spelled (pointer_to c.args.below (entries (map_of (ps ++ old))))) c.add.ensures.spellings)) (c.put_pointer_over.ensures.text ps old are kept (some_group c.args.below old c.in-Some.pointer.now text).1)

pub put_place-returns-clause-under : goal.put_place-returns-clause-under
put_place-returns-clause-under g t c = λ ps old are kept shows.
    c.put_pointer_over.ensures.under ps old are kept (some_group c.args.below old c.in-Some.pointer.now (sym (ap (option_map (λ p. p.now)) c.in-Some.is) ∙ shows)).1

-- ---- put_pointers

pub put_pointers-loop-place-init : goal.put_pointers-loop-place-init
put_pointers-loop-place-init g t c = record {
  done = omega arith;
  bits = omega (arith, c.in_ok-pointers.ensures.bits);
  count = omega (arith, c.in_ok-pointers.ensures.count);
  cids = λ all. all;
  written = λ ps old are kept.
      over_begin (g.B.BlockSource.blocks c.args.base.now) c.args.below ps old _ _ _ _ _ c.args.nodes.now.items (c.in-Some.ensures c.args.below old kept.spells kept.fit) c.in_ok-pointers.ensures.bits c.in_ok-pointers.ensures.count c.in_ok-pointers.ensures.spellings;
}

pub put_pointers-loop-place-preserved : goal.put_pointers-loop-place-preserved
put_pointers-loop-place-preserved g t c =
    let at = c.loop-place in
    let held = g.B.BlockSource.blocks c.args.base.now in
    let run = c.first_run-run.result.now in
    let after = c.put_place.new in
    record {
      done = let behind = c.split_at.ensures.back_len in let within = c.first_run-run.ensures.within in omega (arith, behind, within);
      bits = bits_fit at.place at.pointers.bits after.pointers.bits _ at.invariant.bits c.in_ok-put_place.ensures.bits;
      count = count_fits at.place at.pointers.count after.pointers.count _ at.invariant.count c.in_ok-put_place.ensures.count;
      cids = λ all. c.in_ok-put_place.ensures.cids (at.invariant.cids all);
      written = λ ps old are kept.
          let so_far = at.invariant.written ps old are kept in
          let group = run_of c.args.below at.place at.done c.args.pairs.now c.split_at.result.1.now run ps c.requires c.split_at.ensures.back c.first_run-run.ensures.front c.first_run-run.ensures.run c.first_run-run.ensures.stop are so_far.swept in
          let own = kept_at held c.args.below at.place c.args.bytes.now old c.loop-place-test.true kept in
          let next = next_group (51 - c.args.below) at.place old c.loop-place-test.true in
          let stepped = c.in-Some-step.ensures c.args.below (at_place (51 - c.args.below) at.place old) (drop (at.place + 1) (by_place (51 - c.args.below) old)) (subst (λ gs. AreAhead c.args.below gs at.ahead.bits at.ahead.pointers.now) next so_far.ahead) in
          over_more held c.args.below ps old at.place at.done (length run) at.ahead.bits at.ahead.pointers.now at.pointers.bits at.pointers.count at.pointers.spellings.items c.args.nodes.now.items at.nodes.items _ _ after.pointers.bits after.pointers.count after.pointers.spellings.items after.nodes.items
          _ c.loop-place-test.true so_far group.at
          (full_over (λ p. p.now) c.args.below _ (take (length run) (drop at.done ps)) (at_place (51 - c.args.below) at.place old) (length run) stepped.0 (lent_size _ _ _ group.lent) own.sorted) stepped.1
          c.in_ok-put_place.ensures.bits c.in_ok-put_place.ensures.count (c.in_ok-put_place.ensures.spellings _ _ group.lent own stepped.0) (c.in_ok-put_place.ensures.under _ _ group.lent own stepped.0);
    }

pub put_pointers-returns-clause-pointers : goal.put_pointers-returns-clause-pointers
put_pointers-returns-clause-pointers g t c = λ ps old are kept.
    let at = c.loop-place in
    over_end (g.B.BlockSource.blocks c.args.base.now) c.args.below ps old at.place at.done at.ahead.bits at.ahead.pointers.now at.pointers.bits at.pointers.count at.pointers.spellings.items c.args.nodes.now.items at.nodes.items (omega (arith, c.loop-place-test.false, at.auto.place-end)) (at.invariant.written ps old are kept)

pub put_pointers-returns-clause-under : goal.put_pointers-returns-clause-under
put_pointers-returns-clause-under g t c = λ ps old are kept.
    let at = c.loop-place in
    over_under_end (g.B.BlockSource.blocks c.args.base.now) c.args.below ps old at.place at.done at.ahead.bits at.ahead.pointers.now at.pointers.bits at.pointers.count at.pointers.spellings.items c.args.nodes.now.items at.nodes.items (omega (arith, c.loop-place-test.false, at.auto.place-end)) (at.invariant.written ps old are kept)

-- ---- put_over

pub put_over-returns-clause-block : goal.put_over-returns-clause-block
put_over-returns-clause-block g t c = λ ps old are kept.
    let es : Pairs = entries (map_of (ps ++ old)) in
    let all = c.in_ok-pointers.ensures.pointers ps old are kept in
    let bytes = c.of.ensures ∙ c.in_ok-bytes.ensures (flat_map (pointers_of c.args.below) (by_place (51 - c.args.below) es)) all.count_is all.spellings_are
    ∙ ap (λ (bits : ℕ). spelled (node_of (digits_of 256 bits) (flat_map (pointers_of c.args.below) (by_place (51 - c.args.below) es)))) all.bits_are ∙ ap spelled (sym (node_is c.args.below es)) in
    IfOk-weaker c.of-2.result (λ block. block ≡ block_of 0x71 c.of.result) (λ block. block ≡ node_block c.args.below es) (λ block is. is ∙ ap (block_of 0x71) bytes) c.of-2.ensures

pub put_over-returns-clause-under : goal.put_over-returns-clause-under
put_over-returns-clause-under g t c = λ ps old are kept.
    IfOk-weaker c.of-2.result (λ block. block ≡ block_of 0x71 c.of.result) _ (λ block is. c.in_ok-pointers.ensures.under ps old are kept) c.of-2.ensures

-- ---- the CIDs of nodes

pub put_link_over-returns-clause-cids : goal.put_link_over-returns-clause-cids
put_link_over-returns-clause-cids g t c = λ all. subst (All IsNodeBlock) (sym c.in_ok-push.ensures.items) (All-push IsNodeBlock c.put_over.new.nodes.items c.in_ok-block.block (c.in_ok-block.ensures.cids all) c.in_ok-block.ensures.own)

pub put_pointers-returns-clause-cids : goal.put_pointers-returns-clause-cids
put_pointers-returns-clause-cids g t c = λ all. c.loop-place.invariant.cids all

pub put_over-returns-clause-cids : goal.put_over-returns-clause-cids
put_over-returns-clause-cids g t c = λ all. on_ok_from c.of-2.result (c.in_ok-pointers.ensures.cids all)

pub put_over-returns-clause-own : goal.put_over-returns-clause-own
put_over-returns-clause-own g t c = IfOk-weaker c.of-2.result (λ block. block ≡ block_of 0x71 c.of.result) IsNodeBlock (λ block is. own_node block c.of.result is) c.of-2.ensures
