use Rattle.std.proofs.Common.{◌≡◌, ℕ, ◌<◌, List, get_or, length, sym, ◌∙◌, arith}
use Rattle.hamt_map.proofs.LeafLists.{common_found, common_none, first_is}
use Rattle.hamt_map.proofs.leaf.common_place.Goals as goal

pub returns-then-place : goal.returns-then-place
returns-then-place c =
    let first = first_is c.args.leaves.now c.in_ok-first.field-0.now c.in_ok-first.ensures.value in
    common_none c.args.level c.place-place.result c.args.leaves.now c.in_ok-first.field-0.now c.loop-leaf.leaf-index c.leaf-item.result first.1 c.place-place.ensures c.loop-leaf-test.true c.leaf-item.is
    (λ e. c.if-place.true (c.place.ensures ∙ e))

pub returns : goal.returns
returns c =
    let first = first_is c.args.leaves.now c.in_ok-first.field-0.now c.in_ok-first.ensures.value in
    common_found c.args.level c.place-place.result c.args.leaves.now c.in_ok-first.field-0.now c.loop-leaf.leaf-index first.0 first.1 c.place-place.ensures (omega (arith, c.loop-leaf-test.false)) c.loop-leaf.invariant
