use Rattle.std.proofs.Common.{sym, ◌∙◌}
use Rattle.std.proofs.lemmas.Result.{err_from_is_err_and}
use Rattle.car_file.proofs.CarReading.{behind_header, front_fault, header_whole}
use Rattle.car_file.proofs.reader.fill_header.Goals as goal

pub returns-in_err-root-clause-fault : goal.returns-in_err-root-clause-fault
returns-in_err-root-clause-fault c = λ cut.
    let p = err_from_is_err_and c.from_residual-in_err-root.result c.from_residual-in_err-root.ensures.1 in
    rw (p.1, p.2) (front_fault c.as_slice.result.now c.in_ok-rest.rest.now _ _ (rw c.as_slice.ensures.value (sym c.in_ok-rest.ensures.all)) c.in_err-root.ensures.fault)

pub returns-in_err-sections-clause-fault : goal.returns-in_err-sections-clause-fault
returns-in_err-sections-clause-fault c = λ cut.
    let found = rw c.in-Some.is at c.in_ok-root.ensures.found in
    let read = header_whole c.in-Some.root c.args.header.now.items c.fill.new.begun.items c.as_slice.result.now c.in_ok-rest.rest.now found.0 c.args.piece.now c.len-end.result c.new.result.items c.as_slice.ensures.value c.in_ok-rest.ensures.all (c.in_ok-rest.ensures.just cut) found.1 c.len-end.type_inv (c.as_slice.ensures.len ∙ sym c.len-end.ensures) c.new.ensures.items in
    let p = err_from_is_err_and c.from_residual-in_err-sections.result c.from_residual-in_err-sections.ensures.1 in
    rw (p.1, p.2) (behind_header c.in-Some.root _ _ (rw c.in-Some.is at c.in_ok-root.ensures.cid) (c.in_err-sections.ensures.fault _ _ read))

pub returns-clause-whole : goal.returns-clause-whole
returns-clause-whole c = λ cut.
    let found = rw c.in-Some.is at c.in_ok-root.ensures.found in
    let read = header_whole c.in-Some.root c.args.header.now.items c.fill.new.begun.items c.as_slice.result.now c.in_ok-rest.rest.now found.0 c.args.piece.now c.len-end.result c.new.result.items c.as_slice.ensures.value c.in_ok-rest.ensures.all (c.in_ok-rest.ensures.just cut) found.1 c.len-end.type_inv (c.as_slice.ensures.len ∙ sym c.len-end.ensures) c.new.ensures.items in
    (rw c.in-Some.is at c.in_ok-root.ensures.cid, c.in_ok-sections.ensures.found _ _ read)
