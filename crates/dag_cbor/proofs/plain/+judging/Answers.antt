use Rattle.dag_cbor.specs.Plain.{IsPlain, IsText}
use Rattle.dag_cbor.proofs.JudgeSteps.{judged-zero, judged-Null, judged-Bool, judged-Int, judged-Blob, judged-Text, judged-List, judged-Map, judged-Link, all_more, list_judged, pair_judged, map_judged}
use Rattle.dag_cbor.proofs.plain.+judging.Goals as goal

pub is_plain_within-returns-then-depth-eq0 : goal.is_plain_within-returns-then-depth-eq0
is_plain_within-returns-then-depth-eq0 t c = judged-zero c.args.depth c.args.value.now c.if-depth-eq0.true

pub is_plain_within-returns-in-Null : goal.is_plain_within-returns-in-Null
is_plain_within-returns-in-Null t c = judged-Null c.args.depth c.args.value.now c.if-depth-eq0.false c.in-Null.is

pub is_plain_within-returns-in-Bool : goal.is_plain_within-returns-in-Bool
is_plain_within-returns-in-Bool t c = judged-Bool c.args.depth c.args.value.now c.in-Bool.field-0 c.if-depth-eq0.false c.in-Bool.is

pub is_plain_within-returns-in-Int : goal.is_plain_within-returns-in-Int
is_plain_within-returns-in-Int t c = judged-Int c.args.depth c.args.value.now c.in-Int.integer c.is_integer.result c.if-depth-eq0.false c.in-Int.is c.is_integer.ensures

pub is_plain_within-returns-in-Blob : goal.is_plain_within-returns-in-Blob
is_plain_within-returns-in-Blob t c =
    judged-Blob c.args.depth c.args.value.now c.in-Blob.bytes c.as_slice.result.now c.fits_a_head.result c.if-depth-eq0.false c.in-Blob.is c.as_slice.ensures c.fits_a_head.ensures

pub is_plain_within-returns-in-Text : goal.is_plain_within-returns-in-Text
is_plain_within-returns-in-Text t c =
    judged-Text c.args.depth c.args.value.now c.in-Text.text c.as_slice-in-Text.result.now c.is_text.result c.if-depth-eq0.false c.in-Text.is c.as_slice-in-Text.ensures c.is_text.ensures

pub is_plain_within-returns-in-List : goal.is_plain_within-returns-in-List
is_plain_within-returns-in-List t c =
    judged-List c.args.depth c.args.value.now c.in-List.items c.as_slice-in-List.result.now c.is_plain_list.result c.if-depth-eq0.false c.in-List.is c.as_slice-in-List.ensures c.is_plain_list.ensures

pub is_plain_within-returns-in-Map : goal.is_plain_within-returns-in-Map
is_plain_within-returns-in-Map t c =
    judged-Map c.args.depth c.args.value.now c.in-Map.pairs c.as_slice-in-Map.result.now c.is_plain_map.result c.if-depth-eq0.false c.in-Map.is c.as_slice-in-Map.ensures c.is_plain_map.ensures

pub is_plain_within-returns-in-Link : goal.is_plain_within-returns-in-Link
is_plain_within-returns-in-Link t c = judged-Link c.args.depth c.args.value.now c.in-Link.cid c.is_cid.result c.if-depth-eq0.false c.in-Link.is c.is_cid.ensures

pub is_plain_list-loop-item-preserved : goal.is_plain_list-loop-item-preserved
is_plain_list-loop-item-preserved t c =
    all_more (IsPlain c.args.depth) c.args.items.now c.loop-item.item-index c.item-item.result c.loop-item-test.true c.item-item.is (c.is_plain_within.ensures.0 c.if-not-is_plain_within.false) c.loop-item.invariant

pub is_plain_list-returns : goal.is_plain_list-returns
is_plain_list-returns t c =
    list_judged (IsPlain c.args.depth) c.args.items.now c.loop-item.item-index c.fits_a_head.result c.loop-item-test.false c.loop-item.invariant c.fits_a_head.ensures

pub is_plain_map-loop-key-preserved : goal.is_plain_map-loop-key-preserved
is_plain_map-loop-key-preserved t c =
    pair_judged c.args.depth c.args.pairs.now c.loop-key.key-index c.loop-key-item.result c.as_slice.result.now c.loop-key-test.true c.loop-key-item.is c.as_slice.ensures (c.is_text.ensures.0 c.if-not-is_text.false)
    (c.is_plain_within.ensures.0 c.if-not-is_plain_within.false) c.loop-key.invariant

pub is_plain_map-returns-then-fits_a_head : goal.is_plain_map-returns-then-fits_a_head
is_plain_map-returns-then-fits_a_head t c =
    map_judged (λ p. IsText p.0 × IsPlain c.args.depth p.1) c.args.pairs.now c.loop-key.key-index c.fits_a_head.result c.keys_rise.result c.loop-key-test.false c.loop-key.invariant c.fits_a_head.ensures c.if-fits_a_head.true c.keys_rise.ensures
