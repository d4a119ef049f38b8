use Rattle.std.proofs.Common.{sym, ◌∙◌, arith}
use Rattle.amt_map.specs.ValueBytes.{the_items}
use Rattle.amt_map.proofs.ReadValues.{values_deep, values_end, values_more}
use Rattle.amt_map.proofs.ThreeItems.{items_plain}
use Rattle.amt_map.proofs.node_form.spellings_by_digit.Goals as goal

pub returns-in_default-clause-found : goal.returns-in_default-clause-found
returns-in_default-clause-found c =
    let count = sym (c.len.ensures ∙ c.in_ok-digits.digits.ok.0) ∙ sym c.if-value_count-len.false ∙ c.items_of-value_count.ensures.count in
    values_deep c.args.bits c.in_ok-digits.digits.items (the_items c.args.values.now) c.loop-place.place c.loop-place.spellings.items c.loop-place.rest.now count (items_plain c.args.values.now c.requires)
    (omega (arith, c.loop-place-test.true, c.len-place-end.ensures, c.in_ok-digits.digits.ok.0)) c.in_default.ensures.only c.loop-place.invariant

pub loop-place-preserved : goal.loop-place-preserved
loop-place-preserved c =
    let count = sym (c.len.ensures ∙ c.in_ok-digits.digits.ok.0) ∙ sym c.if-value_count-len.false ∙ c.items_of-value_count.ensures.count in
    let found = c.in-Some.ensures.found in
    values_more c.args.bits c.in_ok-digits.digits.items (the_items c.args.values.now) c.loop-place.place c.loop-place.spellings.items _ c.loop-place.rest.now c.in-Some.item.now c.in-Some.behind.now c.index.result.now found.0 c.in_ok-spelling.spelling
    c.in_ok-digits.ensures count (items_plain c.args.values.now c.requires) (omega (arith, c.loop-place-test.true, c.len-place-end.ensures, c.in_ok-digits.digits.ok.0)) found.1 found.2 found.3 c.index.ensures c.in_ok-spelling.ensures.items
    c.in_ok-push.ensures.items c.loop-place.invariant

pub returns-clause-found : goal.returns-clause-found
returns-clause-found c =
    let count = sym (c.len.ensures ∙ c.in_ok-digits.digits.ok.0) ∙ sym c.if-value_count-len.false ∙ c.items_of-value_count.ensures.count in
    values_end c.args.bits c.in_ok-digits.digits.items (the_items c.args.values.now) c.loop-place.place c.loop-place.spellings.items c.loop-place.rest.now c.in_ok-digits.ensures count
    (omega (arith, c.loop-place-test.false, c.len-place-end.ensures, c.in_ok-digits.digits.ok.0)) c.loop-place.invariant
