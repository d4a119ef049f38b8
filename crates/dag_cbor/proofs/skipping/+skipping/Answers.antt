use Rattle.std.proofs.Common.{arith}
use Rattle.std.proofs.lemmas.Result.{err_from_is_err_and}
use Rattle.dag_cbor.specs.Reading.{item_at}
use Rattle.dag_cbor.proofs.SkipSteps.{headless, too_deep, list_behind, map_behind, token_behind, item_passed, item_fails, items_passed, pair_passed, key_fails, pair_fails, pairs_passed, no_pairs, first_key_fails, first_pair_fails, first_pair_passed}
use Rattle.dag_cbor.proofs.skipping.+skipping.Goals as goal

pub skip_any_item-returns-in_err-head : goal.skip_any_item-returns-in_err-head
skip_any_item-returns-in_err-head t c =
    let p = err_from_is_err_and c.from_residual.result c.from_residual.ensures.1 in
    rw (p.1, p.2) (headless c.args.depth c.args.bytes.now c.in_err-head.field-0.0 c.in_err-head.ensures)

pub skip_any_item-returns-then-depth-eq0 : goal.skip_any_item-returns-then-depth-eq0
skip_any_item-returns-then-depth-eq0 t c = too_deep c.args.depth c.args.bytes.now (c.in_ok-head.head, c.in_ok-head.after.now) c.in_ok-head.ensures c.if-depth-eq0.true

pub skip_any_item-returns-in-4 : goal.skip_any_item-returns-in-4
skip_any_item-returns-in-4 t c = rw (list_behind c.args.depth c.args.bytes.now c.in_ok-head.head c.in_ok-head.after.now c.in_ok-head.ensures c.if-depth-eq0.false c.in-4.is) c.skip_items.ensures

pub skip_any_item-returns-in-5 : goal.skip_any_item-returns-in-5
skip_any_item-returns-in-5 t c = rw (map_behind c.args.depth c.args.bytes.now c.in_ok-head.head c.in_ok-head.after.now c.in_ok-head.ensures c.if-depth-eq0.false c.in-5.is) c.skip_pairs.ensures

pub skip_any_item-returns-in_default : goal.skip_any_item-returns-in_default
skip_any_item-returns-in_default t c =
    rw (token_behind c.args.depth c.args.bytes.now c.in_ok-head.head c.in_ok-head.after.now c.in_ok-head.ensures c.if-depth-eq0.false (λ is. omega arith) (λ is. omega arith)) c.skip_content.ensures

pub skip_items-returns-in_err-rest : goal.skip_items-returns-in_err-rest
skip_items-returns-in_err-rest t c =
    let p = err_from_is_err_and c.from_residual.result c.from_residual.ensures.1 in
    rw (p.1, p.2) (item_fails (item_at c.args.depth) c.args.count c.loop.counter c.loop.rest.now c.in_err-rest.field-0.0 _ c.loop-test.true c.in_err-rest.ensures c.loop.invariant)

pub skip_items-loop-preserved : goal.skip_items-loop-preserved
skip_items-loop-preserved t c = item_passed (item_at c.args.depth) c.args.count c.loop.counter c.loop.rest.now c.in_ok-rest.rest.now _ c.loop-test.true c.in_ok-rest.ensures c.loop.invariant

pub skip_items-returns : goal.skip_items-returns
skip_items-returns t c = items_passed (item_at c.args.depth) c.args.count c.loop.counter c.loop.rest.now _ c.loop-test.false c.loop.invariant

pub skip_more_pairs-returns-in_err-key : goal.skip_more_pairs-returns-in_err-key
skip_more_pairs-returns-in_err-key t c =
    let p = err_from_is_err_and c.from_residual.result c.from_residual.ensures.1 in
    rw (p.1, p.2) (key_fails c.args.depth (item_at c.args.depth) c.loop.last.now c.args.count c.loop.counter c.loop.rest.now c.in_err-key.field-0.0 _ c.loop-test.true c.in_err-key.ensures c.loop.invariant)

pub skip_more_pairs-returns-in_err-rest : goal.skip_more_pairs-returns-in_err-rest
skip_more_pairs-returns-in_err-rest t c =
    let p = err_from_is_err_and c.from_residual-in_err-rest.result c.from_residual-in_err-rest.ensures.1 in
    rw (p.1, p.2)
    (pair_fails c.args.depth (item_at c.args.depth) c.loop.last.now c.in_ok-key.key.now c.args.count c.loop.counter c.loop.rest.now c.in_ok-key.behind_key.now c.in_err-rest.field-0.0 _ c.loop-test.true c.in_ok-key.ensures c.in_err-rest.ensures c.loop.invariant)

pub skip_more_pairs-loop-preserved : goal.skip_more_pairs-loop-preserved
skip_more_pairs-loop-preserved t c =
    pair_passed c.args.depth (item_at c.args.depth) c.loop.last.now c.in_ok-key.key.now c.args.count c.loop.counter c.loop.rest.now c.in_ok-key.behind_key.now c.in_ok-rest.rest.now _ c.loop-test.true c.in_ok-key.ensures c.in_ok-rest.ensures c.loop.invariant

pub skip_more_pairs-returns : goal.skip_more_pairs-returns
skip_more_pairs-returns t c = pairs_passed c.args.depth (item_at c.args.depth) c.loop.last.now c.args.count c.loop.counter c.loop.rest.now _ c.loop-test.false c.loop.invariant

pub skip_pairs-returns-then-count-eq0 : goal.skip_pairs-returns-then-count-eq0
skip_pairs-returns-then-count-eq0 t c = no_pairs c.args.depth (item_at c.args.depth) c.args.count c.args.bytes.now c.if-count-eq0.true

pub skip_pairs-returns-in_err-first : goal.skip_pairs-returns-in_err-first
skip_pairs-returns-in_err-first t c =
    let p = err_from_is_err_and c.from_residual.result c.from_residual.ensures.1 in
    rw (p.1, p.2) (first_key_fails c.args.depth (item_at c.args.depth) c.args.count c.args.bytes.now c.in_err-first.field-0.0 c.if-count-eq0.false c.in_err-first.ensures)

pub skip_pairs-returns-in_err-rest : goal.skip_pairs-returns-in_err-rest
skip_pairs-returns-in_err-rest t c =
    let p = err_from_is_err_and c.from_residual-in_err-rest.result c.from_residual-in_err-rest.ensures.1 in
    rw (p.1, p.2) (first_pair_fails c.args.depth (item_at c.args.depth) c.args.count c.args.bytes.now c.in_ok-first.first.now c.in_ok-first.behind_key.now c.in_err-rest.field-0.0 c.if-count-eq0.false c.in_ok-first.ensures c.in_err-rest.ensures)

pub skip_pairs-returns : goal.skip_pairs-returns
skip_pairs-returns t c =
    rw (first_pair_passed c.args.depth (item_at c.args.depth) c.args.count c.args.bytes.now c.in_ok-first.first.now c.in_ok-first.behind_key.now c.in_ok-rest.rest.now c.if-count-eq0.false c.in_ok-first.ensures c.in_ok-rest.ensures) c.skip_more_pairs.ensures
