use Rattle.std.proofs.Common.{◌∙◌, ◌-◌, List, ap, arith}
use Rattle.std.proofs.lemmas.Result.{err_from_is_err_and}
use Rattle.wasm_types.specs.declared.raw_module.Import.{Import}
use Rattle.wasm_decode.specs.ReadingSections.{import_at}
use Rattle.wasm_decode.specs.ReadingValues.{items_at}
use Rattle.wasm_decode.proofs.Items.{items_all, items_more, items_failed}
use Rattle.wasm_decode.proofs.import.all_imports_of.Goals as goal

pub loop-left-preserved : goal.loop-left-preserved
loop-left-preserved c =
    ap (λ (done : List Import). items_at (import_at c.args.types.now) done (c.loop-left.left - 1) c.in_ok-item.behind.now) c.in_ok-push.ensures.items
    ∙ items_more Import (import_at c.args.types.now) c.loop-left.done.items c.loop-left.left c.loop-left.rest.now c.in_ok-item.behind.now c.in_ok-item.item _ c.loop-left-test.true c.in_ok-item.ensures c.loop-left.invariant

pub returns : goal.returns
returns c = items_all Import (import_at c.args.types.now) c.loop-left.done.items c.of.result c.loop-left.left c.loop-left.rest.now _ (omega (arith, c.loop-left-test.false)) c.of.ensures c.loop-left.invariant

pub returns-in_err-item : goal.returns-in_err-item
returns-in_err-item c =
    let p = err_from_is_err_and c.from_residual.result c.from_residual.ensures.1 in
    rw (p.1, p.2) (items_failed Import (import_at c.args.types.now) c.loop-left.done.items c.loop-left.left c.loop-left.rest.now c.in_err-item.field-0.0 _ c.loop-left-test.true c.in_err-item.ensures c.loop-left.invariant)
