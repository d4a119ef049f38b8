use Rattle.std.proofs.Common.{◌∙◌, []}
use Rattle.wasm_decode.specs.ReadingSections.{single_at, table_at}
use Rattle.std.proofs.lemmas.Result.{err_from_is_err_and}
use Rattle.wasm_decode.proofs.Sections.{absent_is, begun_is, section_stops}
use Rattle.wasm_decode.proofs.single_section.table_section_of.Goals as goal

pub returns-in-Absent : goal.returns-in-Absent
returns-in-Absent c =
    absent_is 4 [] c.of.result (single_at table_at) c.args.bytes.now c.in_ok-opening.opening c.in-Absent.rest c.in_ok-opening.ensures c.in-Absent.is (c.of.ensures ∙ c.new.ensures.items)

pub returns-in-Begun : goal.returns-in-Begun
returns-in-Begun c =
    rw (begun_is 4 [] (single_at table_at) c.args.bytes.now c.in_ok-opening.opening c.in-Begun.part c.in_ok-opening.ensures c.in-Begun.is)
    (c.close.ensures ((single_at table_at) c.in-Begun.part.content.now) c.tables_of.ensures)

pub returns-in_err-opening : goal.returns-in_err-opening
returns-in_err-opening c =
    let p = err_from_is_err_and c.from_residual.result c.from_residual.ensures.1 in
    rw (p.1, p.2) (section_stops 4 [] (single_at table_at) c.args.bytes.now c.in_err-opening.field-0.0 c.in_err-opening.ensures)
