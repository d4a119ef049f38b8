use Rattle.std.proofs.Common.{Bor, List, ℕ, [], ◌∷◌, map, ap, sym, ◌∙◌, arith}
use Rattle.std.proofs.lemmas.Bool.{eqb-false, eqb-true}
use Rattle.std.proofs.lemmas.List.{map-append, nil_from_length}
use Rattle.dag_cbor.proofs.ItemTexts.{all_cut, bytes_left, no_front, none_yet, one_more}
use Rattle.dag_cbor.proofs.item_texts.whole_items.Goals as goal

abbrev text : Bor (List ℕ) → List ℕ
text s = s.now

pub loop-init : goal.loop-init
loop-init c = none_yet c.args.count c.args.bytes.now _ (ap (map text) c.new-spellings.ensures.items)

pub returns-in_default-clause-only : goal.returns-in_default-clause-only
returns-in_default-clause-only c = no_front c.args.count c.loop.counter c.args.bytes.now c.loop.rest.now _ c.loop.invariant (omega arith) c.in_default.ensures.only

pub loop-preserved : goal.loop-preserved
loop-preserved c =
    let found = c.in-Some.ensures.found in
    one_more c.args.count c.loop.counter c.args.bytes.now c.loop.rest.now c.in-Some.spelling.now c.in-Some.behind.now found.0 _ _ c.loop.invariant (omega arith) found.1 found.2 found.3
    (ap (map text) c.in_ok-push.ensures.items ∙ map-append text c.loop.spellings.items (c.in-Some.spelling ∷ []))

pub returns-then-is_empty-clause-found : goal.returns-then-is_empty-clause-found
returns-then-is_empty-clause-found c = all_cut c.args.count c.loop.counter c.args.bytes.now c.loop.rest.now _ c.loop.invariant (omega arith) (nil_from_length _ (eqb-true _ _ (sym c.is_empty.ensures ∙ c.if-is_empty.true)))

pub returns-clause-only : goal.returns-clause-only
returns-clause-only c = bytes_left c.args.count c.loop.counter c.args.bytes.now c.loop.rest.now _ c.loop.invariant (omega arith) (eqb-false _ _ (sym c.is_empty.ensures ∙ c.if-is_empty.false))
