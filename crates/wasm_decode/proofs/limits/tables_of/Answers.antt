use Rattle.std.proofs.Common.{◌∙◌, ◌++◌, ◌∷◌, [], List, ap, arith}
use Rattle.std.proofs.lemmas.Result.{err_from_is_err_and}
use Rattle.wasm_types.specs.declared.raw_module.Limits.{Limits}
use Rattle.wasm_decode.specs.ReadingSections.{table_at}
use Rattle.wasm_decode.proofs.Singles.{no_count, no_item, one_item, one_stop}
use Rattle.wasm_decode.proofs.limits.tables_of.Goals as goal

pub returns-then-count-eq0 : goal.returns-then-count-eq0
returns-then-count-eq0 c =
    no_item table_at c.of.result c.args.bytes.now c.in_ok-count.behind.now c.in_ok-count.count c.in_ok-count.ensures.found c.if-count-eq0.true (c.of.ensures ∙ c.new-tables.ensures.items)

pub returns : goal.returns
returns c =
    one_item table_at c.of-2.result c.args.bytes.now c.in_ok-count.behind.now c.in_ok-table.rest.now c.in_ok-count.count c.in_ok-table.table c.in_ok-count.ensures.found c.in_ok-count.ensures.within (omega (arith, c.if-count-eq0.false)) c.in_ok-table.ensures
    (c.of-2.ensures ∙ (c.in_ok-push.ensures.items ∙ ap (λ (xs : List Limits). xs ++ (c.in_ok-table.table ∷ [])) c.new-tables.ensures.items))

pub returns-in_err-table : goal.returns-in_err-table
returns-in_err-table c =
    let p = err_from_is_err_and c.from_residual-in_err-table.result c.from_residual-in_err-table.ensures.1 in
    rw (p.1, p.2) (one_stop table_at c.args.bytes.now c.in_ok-count.behind.now c.in_ok-count.count c.in_err-table.field-0.0 c.in_ok-count.ensures.found c.in_ok-count.ensures.within (omega (arith, c.if-count-eq0.false)) c.in_err-table.ensures)

pub returns-in_err-count : goal.returns-in_err-count
returns-in_err-count c =
    let p = err_from_is_err_and c.from_residual.result c.from_residual.ensures.1 in
    rw (p.1, p.2) (no_count table_at c.args.bytes.now c.in_err-count.field-0.0 c.in_err-count.ensures.found)
