use Rattle.std.proofs.Common.{◌∙◌, []}
use Rattle.wasm_decode.specs.ReadingValues.{vector_at}
use Rattle.std.proofs.lemmas.Result.{err_from_is_err_and}
use Rattle.wasm_decode.proofs.Sections.{absent_is, begun_is, section_stops}
use Rattle.wasm_decode.proofs.section.rows_of.Goals as goal

pub returns-in-Absent : goal.returns-in-Absent
returns-in-Absent g c =
    absent_is c.args.number [] c.of.result (vector_at c.args.most g.T.Entry.reading) c.args.bytes.now c.in_ok-opening.opening c.in-Absent.rest c.in_ok-opening.ensures c.in-Absent.is (c.of.ensures ∙ c.new.ensures.items)

pub returns-in-Begun : goal.returns-in-Begun
returns-in-Begun g c =
    rw (begun_is c.args.number [] (vector_at c.args.most g.T.Entry.reading) c.args.bytes.now c.in_ok-opening.opening c.in-Begun.part c.in_ok-opening.ensures c.in-Begun.is)
    (c.close.ensures ((vector_at c.args.most g.T.Entry.reading) c.in-Begun.part.content.now) c.vector_of.ensures)

pub returns-in_err-opening : goal.returns-in_err-opening
returns-in_err-opening g c =
    let p = err_from_is_err_and c.from_residual.result c.from_residual.ensures.1 in
    rw (p.1, p.2) (section_stops c.args.number [] (vector_at c.args.most g.T.Entry.reading) c.args.bytes.now c.in_err-opening.field-0.0 c.in_err-opening.ensures)
