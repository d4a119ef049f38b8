use Rattle.std.proofs.Common.{◌≡◌, ℕ, List, ◌-◌, ◌≢◌, ◌++◌, ap, length, refl, subst, sym, ◌∙◌, arith}
use Rattle.std.proofs.lemmas.Bool.{eqb-false, eqb-true}
use Rattle.std.proofs.lemmas.List.Elements.{All-push}
use Rattle.std.proofs.lemmas.Result.{IfOk-weaker, on_ok_weaker}
use Rattle.std.specs.Prelude.{All, nat_lt}
use Rattle.std.specs.FinMap.{entries}
use Rattle.std.specs.Int.Digits.{digits_of}
use Rattle.std.specs.List.{flat_map}
use Rattle.cid_core.specs.BlockParts.{block_of}
use Rattle.dag_cbor.specs.Spelling.{spelled}
use Rattle.dag_cbor.specs.declared.value.Value.TheVariants as v
use Rattle.dag_cbor.proofs.Equations.{spelled-Link}
use Rattle.tree_blocks.specs.NewBlocks.{IsNodeBlock}
use Rattle.hamt_map.specs.Canonical.{map_of, node_of}
use Rattle.hamt_map.specs.Groups.{by_place, pointer_to, pointers_of}
use Rattle.hamt_map.specs.Node.{node_block}
use Rattle.hamt_map.specs.Pairs.{Pairs}
use Rattle.hamt_map.proofs.GroupSteps.{bits_fit, bucket_text, bucket_under, count_fits, empty_text, empty_under, link_text, link_under, one_text}
use Rattle.hamt_map.proofs.LentPairs.{run_of}
use Rattle.hamt_map.proofs.NodeBlocks.{on_ok_from, own_node}
use Rattle.hamt_map.proofs.NodeParts.{node_is, put_below}
use Rattle.hamt_map.proofs.PointerSteps.{under_end, written_begin, written_end, written_more}
use Rattle.hamt_map.proofs.nodes.+building.Goals as goal

-- put_pointer

pub put_pointer-returns-then-stands_in_bucket-clause-text : goal.put_pointer-returns-then-stands_in_bucket-clause-text
put_pointer-returns-then-stands_in_bucket-clause-text t c = λ ps are.
    on_ok_weaker c.put_bucket.result (λ is. bucket_text c.args.below c.args.group.now ps c.args.out.now.items c.put_bucket.new.out.items are (sym c.stands_in_bucket.ensures ∙ c.if-stands_in_bucket.true) is) (c.put_bucket.ensures (c.args.below - 1) ps are)

pub put_pointer-returns-then-stands_in_bucket-clause-under : goal.put_pointer-returns-then-stands_in_bucket-clause-under
put_pointer-returns-then-stands_in_bucket-clause-under t c = λ ps are.
    on_ok_weaker c.put_bucket.result (λ is. bucket_under c.args.below c.args.group.now ps c.args.nodes.now.items are (sym c.stands_in_bucket.ensures ∙ c.if-stands_in_bucket.true)) (c.put_bucket.ensures (c.args.below - 1) ps are)

pub put_pointer-returns-clause-text : goal.put_pointer-returns-clause-text
put_pointer-returns-clause-text t c = λ ps are.
    link_text c.args.below c.args.group.now ps c.args.out.now.items c.put_link.new.out.items c.in_ok-block.block are (sym c.stands_in_bucket.ensures ∙ c.if-stands_in_bucket.false) (c.in_ok-block.ensures.block ps are)
    (c.in_ok-put_link.ensures ∙ ap (λ (t : List ℕ). c.args.out.now.items ++ t) (sym (spelled-Link c.cid.result.now)) ∙ ap (λ cid. c.args.out.now.items ++ spelled (v.Link cid)) c.cid.ensures.value)

pub put_pointer-returns-clause-under : goal.put_pointer-returns-clause-under
put_pointer-returns-clause-under t c = λ ps are.
    link_under c.args.below c.args.group.now ps c.args.nodes.now.items c.put_under.new.nodes.items c.push.new.self.items c.in_ok-block.block are (sym c.stands_in_bucket.ensures ∙ c.if-stands_in_bucket.false)
    (c.in_ok-block.ensures.block ps are) (c.in_ok-block.ensures.under ps are) c.in_ok-push.ensures.items

-- put_group

pub put_group-returns-then-is_empty-clause-spellings : goal.put_group-returns-then-is_empty-clause-spellings
put_group-returns-then-is_empty-clause-spellings t c = λ ps are.
    empty_text c.args.below c.args.group.now ps c.args.pointers.now.spellings.items are (omega (arith, eqb-true _ _ (sym c.if-is_empty.ensures)))

pub put_group-returns-then-is_empty-clause-under : goal.put_group-returns-then-is_empty-clause-under
put_group-returns-then-is_empty-clause-under t c = λ ps are.
    empty_under c.args.below c.args.group.now ps c.args.nodes.now.items are (omega (arith, eqb-true _ _ (sym c.if-is_empty.ensures)))

pub put_group-returns-clause-spellings : goal.put_group-returns-clause-spellings
put_group-returns-clause-spellings t c = λ ps are.
    let apart : length c.args.group.now ≢ 0 = eqb-false _ _ (sym c.if-is_empty.ensures) in
    on_ok_weaker c.put_pointer.result (λ is. one_text c.args.below c.args.group.now ps c.args.pointers.now.spellings.items c.put_pointer.new.out.items are (omega (arith, apart))
    (is ∙ ap (λ v. v.items ++ spelled (pointer_to c.args.below (entries (map_of ps)))) c.add.ensures.spellings)) (c.put_pointer.ensures.text ps are)

-- put_pointers

pub put_pointers-loop-place-init : goal.put_pointers-loop-place-init
put_pointers-loop-place-init t c = record {
  done = omega arith;
  bits = omega (arith, c.in_ok-pointers.ensures.bits);
  count = omega (arith, c.in_ok-pointers.ensures.count);
  cids = λ all. all;
  written = λ ps are. written_begin c.args.below ps _ _ _ c.args.nodes.now.items c.args.nodes.now.items c.in_ok-pointers.ensures.bits c.in_ok-pointers.ensures.count c.in_ok-pointers.ensures.spellings refl;
}

pub put_pointers-loop-place-preserved : goal.put_pointers-loop-place-preserved
put_pointers-loop-place-preserved t c =
    let at = c.loop-place in
    let run = c.first_run-run.result.now in
    let after = c.put_group.new in
    record {
      done = let behind = c.split_at.ensures.back_len in let within = c.first_run-run.ensures.within in omega (arith, behind, within);
      bits = bits_fit at.place at.pointers.bits after.pointers.bits (nat_lt 0 (length run)) at.invariant.bits c.in_ok-put_group.ensures.bits;
      count = count_fits at.place at.pointers.count after.pointers.count (nat_lt 0 (length run)) at.invariant.count c.in_ok-put_group.ensures.count;
      cids = λ all. c.in_ok-put_group.ensures.cids (at.invariant.cids all);
      written = λ ps are.
          let so_far = at.invariant.written ps are in
          let group = run_of c.args.below at.place at.done c.args.pairs.now c.split_at.result.1.now run ps c.requires c.split_at.ensures.back c.first_run-run.ensures.front c.first_run-run.ensures.run c.first_run-run.ensures.stop are so_far.swept in
          written_more c.args.below ps at.place at.done (length run) at.pointers.bits at.pointers.count at.pointers.spellings.items c.args.nodes.now.items at.nodes.items after.pointers.bits after.pointers.count after.pointers.spellings.items after.nodes.items
          (nat_lt 0 (length run)) c.loop-place-test.true so_far group.at group.full c.in_ok-put_group.ensures.bits c.in_ok-put_group.ensures.count
          (c.in_ok-put_group.ensures.spellings _ group.lent) (c.in_ok-put_group.ensures.under _ group.lent);
    }

pub put_pointers-returns-clause-pointers : goal.put_pointers-returns-clause-pointers
put_pointers-returns-clause-pointers t c = λ ps are.
    let at = c.loop-place in
    written_end c.args.below ps at.place at.done at.pointers.bits at.pointers.count at.pointers.spellings.items c.args.nodes.now.items at.nodes.items (omega (arith, c.loop-place-test.false, at.auto.place-end)) (at.invariant.written ps are)

pub put_pointers-returns-clause-under : goal.put_pointers-returns-clause-under
put_pointers-returns-clause-under t c = λ ps are.
    let at = c.loop-place in
    put_below c.args.below (entries (map_of ps)) c.args.nodes.now.items at.nodes.items
    (under_end c.args.below ps at.place at.done at.pointers.bits at.pointers.count at.pointers.spellings.items c.args.nodes.now.items at.nodes.items (omega (arith, c.loop-place-test.false, at.auto.place-end)) (at.invariant.written ps are))

-- put_under

pub put_under-returns-clause-block : goal.put_under-returns-clause-block
put_under-returns-clause-block t c = λ ps are.
    let es : Pairs = entries (map_of ps) in
    let all = c.in_ok-pointers.ensures.pointers ps are in
    let bytes = c.of.ensures ∙ c.in_ok-bytes.ensures (flat_map (pointers_of c.args.below) (by_place (51 - c.args.below) es)) all.count_is all.spellings_are
    ∙ ap (λ (bits : ℕ). spelled (node_of (digits_of 256 bits) (flat_map (pointers_of c.args.below) (by_place (51 - c.args.below) es)))) all.bits_are ∙ ap spelled (sym (node_is c.args.below es)) in
    IfOk-weaker c.of-2.result (λ block. block ≡ block_of 0x71 c.of.result) (λ block. block ≡ node_block c.args.below es) (λ block is. is ∙ ap (block_of 0x71) bytes) c.of-2.ensures

pub put_under-returns-clause-under : goal.put_under-returns-clause-under
put_under-returns-clause-under t c = λ ps are.
    IfOk-weaker c.of-2.result (λ block. block ≡ block_of 0x71 c.of.result) _ (λ block is. c.in_ok-pointers.ensures.under ps are) c.of-2.ensures

-- the CIDs of nodes

pub put_pointer-returns-then-stands_in_bucket-clause-cids : goal.put_pointer-returns-then-stands_in_bucket-clause-cids
put_pointer-returns-then-stands_in_bucket-clause-cids t c = λ all. on_ok_from c.put_bucket.result all

pub put_pointer-returns-clause-cids : goal.put_pointer-returns-clause-cids
put_pointer-returns-clause-cids t c = λ all. subst (All IsNodeBlock) (sym c.in_ok-push.ensures.items) (All-push IsNodeBlock c.put_under.new.nodes.items c.in_ok-block.block (c.in_ok-block.ensures.cids all) c.in_ok-block.ensures.own)

pub put_group-returns-clause-cids : goal.put_group-returns-clause-cids
put_group-returns-clause-cids t c = λ all. c.put_pointer.ensures.cids all

pub put_pointers-returns-clause-cids : goal.put_pointers-returns-clause-cids
put_pointers-returns-clause-cids t c = λ all. c.loop-place.invariant.cids all

pub put_under-returns-clause-cids : goal.put_under-returns-clause-cids
put_under-returns-clause-cids t c = λ all. on_ok_from c.of-2.result (c.in_ok-pointers.ensures.cids all)

pub put_under-returns-clause-own : goal.put_under-returns-clause-own
put_under-returns-clause-own t c = IfOk-weaker c.of-2.result (λ block. block ≡ block_of 0x71 c.of.result) IsNodeBlock (λ block is. own_node block c.of.result is) c.of-2.ensures
