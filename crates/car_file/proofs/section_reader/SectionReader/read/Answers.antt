use Rattle.std.proofs.lemmas.Result.{err_from_is_err_and}
use Rattle.car_file.proofs.SectionLemmas.{none_found, read_fault, read_more, stand_for}
use Rattle.car_file.proofs.section_reader.SectionReader.read.Goals as goal

pub returns-in_err-block-clause-fault : goal.returns-in_err-block-clause-fault
returns-in_err-block-clause-fault c = λ front given read.
    let p = err_from_is_err_and c.from_residual.result c.from_residual.ensures.1 in
    rw (p.1, p.2) (read_fault front given _ _ _ _ (c.loop-blocks.invariant front given read) c.in_err-block.ensures.fault)

pub loop-blocks-preserved : goal.loop-blocks-preserved
loop-blocks-preserved c = λ front given read.
    rw c.in_ok-push.ensures.items (read_more front given _ _ _ _ _ _ (c.loop-blocks.invariant front given read) (rw c.in-Some.is at c.in_ok-block.ensures.found) c.saturating_add-end.ensures)

pub returns-clause-found : goal.returns-clause-found
returns-clause-found c = λ front given read.
    stand_for front given _ c.loop-blocks.rest.now c.in_ok-begun.ensures.items (c.loop-blocks.invariant front given read) (none_found c.in_ok-block.field-0 _ c.in_default.not-Some c.in_ok-block.ensures.cut)
