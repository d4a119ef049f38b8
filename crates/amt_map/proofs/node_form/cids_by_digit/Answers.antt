use Rattle.std.proofs.Common.{sym, ◌∙◌, arith}
use Rattle.amt_map.specs.ValueBytes.{the_items}
use Rattle.amt_map.proofs.NodeForm.{other_links}
use Rattle.amt_map.proofs.ReadValues.{cut_at, cut_one, front_at, item_at_place, link_none, links_more}
use Rattle.amt_map.proofs.ThreeItems.{items_plain}
use Rattle.amt_map.proofs.node_form.cids_by_digit.Goals as goal

pub returns-then-link_count-len-clause-found : goal.returns-then-link_count-len-clause-found
returns-then-link_count-len-clause-found c =
    other_links c.args.bits c.in_ok-digits.digits.items (the_items c.args.links.now) c.in_ok-digits.ensures (λ same. c.if-link_count-len.true (c.items_of-link_count.ensures.count ∙ same ∙ sym (c.len.ensures ∙ c.in_ok-digits.digits.ok.0)))

pub split_front-requires : goal.split_front-requires
split_front-requires c =
    let count = sym (c.len.ensures ∙ c.in_ok-digits.digits.ok.0) ∙ sym c.if-link_count-len.false ∙ c.items_of-link_count.ensures.count in
    front_at (the_items c.args.links.now) c.loop-place.place c.loop-place.rest.now
    (item_at_place (the_items c.args.links.now) c.loop-place.place (items_plain c.args.links.now c.requires) (omega (arith, c.loop-place-test.true, c.len-place-end.ensures, c.in_ok-digits.digits.ok.0, count))) c.loop-place.invariant.rest_is

pub link_in-requires : goal.link_in-requires
link_in-requires c =
    let count = sym (c.len.ensures ∙ c.in_ok-digits.digits.ok.0) ∙ sym c.if-link_count-len.false ∙ c.items_of-link_count.ensures.count in
    cut_one (the_items c.args.links.now) c.loop-place.place _ c.split_front.result.1.now
    (cut_at (the_items c.args.links.now) c.loop-place.place c.loop-place.rest.now c.split_front.result.0.now c.split_front.result.1.now (items_plain c.args.links.now c.requires)
    (omega (arith, c.loop-place-test.true, c.len-place-end.ensures, c.in_ok-digits.digits.ok.0, count)) c.loop-place.invariant.rest_is c.split_front.ensures)

pub returns-in_default-clause-found : goal.returns-in_default-clause-found
returns-in_default-clause-found c =
    let count = sym (c.len.ensures ∙ c.in_ok-digits.digits.ok.0) ∙ sym c.if-link_count-len.false ∙ c.items_of-link_count.ensures.count in
    link_none c.args.bits c.in_ok-digits.digits.items (the_items c.args.links.now) c.loop-place.place c.split_front.result.0.now c.split_front.result.1.now count (omega (arith, c.loop-place-test.true, c.len-place-end.ensures, c.in_ok-digits.digits.ok.0))
    (cut_at (the_items c.args.links.now) c.loop-place.place c.loop-place.rest.now c.split_front.result.0.now c.split_front.result.1.now (items_plain c.args.links.now c.requires)
    (omega (arith, c.loop-place-test.true, c.len-place-end.ensures, c.in_ok-digits.digits.ok.0, count)) c.loop-place.invariant.rest_is c.split_front.ensures)
    (sym c.in_default.is ∙ c.in_ok-cid.ensures)

pub loop-place-preserved : goal.loop-place-preserved
loop-place-preserved c =
    let count = sym (c.len.ensures ∙ c.in_ok-digits.digits.ok.0) ∙ sym c.if-link_count-len.false ∙ c.items_of-link_count.ensures.count in
    links_more c.args.bits c.in_ok-digits.digits.items (the_items c.args.links.now) c.loop-place.place c.loop-place.cids.items _ c.loop-place.rest.now c.split_front.result.0.now c.split_front.result.1.now c.index.result.now c.in-Some.cid
    c.in_ok-digits.ensures count (omega (arith, c.loop-place-test.true, c.len-place-end.ensures, c.in_ok-digits.digits.ok.0))
    (cut_at (the_items c.args.links.now) c.loop-place.place c.loop-place.rest.now c.split_front.result.0.now c.split_front.result.1.now (items_plain c.args.links.now c.requires)
    (omega (arith, c.loop-place-test.true, c.len-place-end.ensures, c.in_ok-digits.digits.ok.0, count)) c.loop-place.invariant.rest_is c.split_front.ensures)
    (sym c.in-Some.is ∙ c.in_ok-cid.ensures) c.index.ensures c.in_ok-push.ensures.items c.loop-place.invariant
