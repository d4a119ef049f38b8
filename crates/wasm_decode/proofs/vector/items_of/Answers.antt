use Rattle.std.proofs.Common.{◌∙◌, ◌-◌, List, ap, arith}
use Rattle.std.proofs.lemmas.Result.{err_from_is_err_and}
use Rattle.wasm_decode.specs.ReadingValues.{items_at}
use Rattle.wasm_decode.proofs.Items.{items_all, items_more, items_failed}
use Rattle.wasm_decode.proofs.vector.items_of.Goals as goal

pub loop-left-preserved : goal.loop-left-preserved
loop-left-preserved g c =
    ap (λ (done : List g.row.T.Denot). items_at g.T.Entry.reading done (c.loop-left.left - 1) c.in_ok-item.behind.now) c.in_ok-push.ensures.items
    ∙ items_more g.row.T.Denot g.T.Entry.reading c.loop-left.done.items c.loop-left.left c.loop-left.rest.now c.in_ok-item.behind.now c.in_ok-item.item _ c.loop-left-test.true c.in_ok-item.ensures c.loop-left.invariant

pub returns : goal.returns
returns g c = items_all g.row.T.Denot g.T.Entry.reading c.loop-left.done.items c.of.result c.loop-left.left c.loop-left.rest.now _ (omega (arith, c.loop-left-test.false)) c.of.ensures c.loop-left.invariant

pub returns-in_err-item : goal.returns-in_err-item
returns-in_err-item g c =
    let p = err_from_is_err_and c.from_residual.result c.from_residual.ensures.1 in
    rw (p.1, p.2) (items_failed g.row.T.Denot g.T.Entry.reading c.loop-left.done.items c.loop-left.left c.loop-left.rest.now c.in_err-item.field-0.0 _ c.loop-left-test.true c.in_err-item.ensures c.loop-left.invariant)
