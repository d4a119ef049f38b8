use Rattle.std.proofs.Common.{sym, ◌∙◌}
use Rattle.std.proofs.lemmas.Result.{err_from_is_err_and}
use Rattle.car_file.proofs.SectionRuns.{begun_fault, begun_whole, fault_joined, stand_joined}
use Rattle.car_file.proofs.section_reader.SectionReader.feed_begun.Goals as goal

pub returns-in_err-block-clause-fault : goal.returns-in_err-block-clause-fault
returns-in_err-block-clause-fault c = λ front given stand.
    let p = err_from_is_err_and c.from_residual-in_err-block.result c.from_residual-in_err-block.ensures.1 in
    rw (p.1, p.2) (begun_fault front given c.args.piece.now c.args.self.now c.fill.new.begun.items c.as_slice.result.now c.in_ok-rest.rest.now _ stand c.as_slice.ensures.value c.in_ok-rest.ensures.all c.in_err-block.ensures.fault)

pub returns-in_err-next-clause-fault : goal.returns-in_err-next-clause-fault
returns-in_err-next-clause-fault c = λ front given stand.
    let p = err_from_is_err_and c.from_residual-in_err-next.result c.from_residual-in_err-next.ensures.1 in
    let read = begun_whole front given c.args.piece.now c.args.self.now c.fill.new.begun.items c.as_slice.result.now c.in_ok-rest.rest.now c.in-Some.field-0-1.now c.in-Some.block c.push.new.self.items c.len.result c.saturating_add-end.result stand c.as_slice.ensures.value c.in_ok-rest.ensures.all (c.in_ok-rest.ensures.just stand.cut) (rw c.in-Some.is at c.in_ok-block.ensures.found) (rw c.new-blocks.ensures.items at c.in_ok-push.ensures.items) (c.as_slice.ensures.len ∙ sym c.len.ensures) c.saturating_add-end.ensures in
    rw (p.1, p.2) (fault_joined front given _ _ _ _ _ stand.read (c.in_err-next.ensures.fault _ _ read))

pub returns-clause-taken : goal.returns-clause-taken
returns-clause-taken c = λ front given stand.
    let read = begun_whole front given c.args.piece.now c.args.self.now c.fill.new.begun.items c.as_slice.result.now c.in_ok-rest.rest.now c.in-Some.field-0-1.now c.in-Some.block c.push.new.self.items c.len.result c.saturating_add-end.result stand c.as_slice.ensures.value c.in_ok-rest.ensures.all (c.in_ok-rest.ensures.just stand.cut) (rw c.in-Some.is at c.in_ok-block.ensures.found) (rw c.new-blocks.ensures.items at c.in_ok-push.ensures.items) (c.as_slice.ensures.len ∙ sym c.len.ensures) c.saturating_add-end.ensures in
    stand_joined front given _ c.args.self.now c.in_ok-next.next c.join.new.self stand (c.in_ok-next.ensures.found _ _ read) c.in_ok-join.ensures.joined
