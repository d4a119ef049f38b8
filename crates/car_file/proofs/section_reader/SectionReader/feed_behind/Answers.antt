use Rattle.std.proofs.lemmas.Result.{err_from_is_err_and}
use Rattle.car_file.proofs.SectionRuns.{behind_none, fault_joined, stand_joined}
use Rattle.car_file.proofs.section_reader.SectionReader.feed_behind.Goals as goal

pub returns-in_err-next-clause-fault : goal.returns-in_err-next-clause-fault
returns-in_err-next-clause-fault c = λ front given stand none.
    let p = err_from_is_err_and c.from_residual.result c.from_residual.ensures.1 in
    rw (p.1, p.2) (fault_joined front given _ _ _ _ _ stand.read (c.in_err-next.ensures.fault _ _ (behind_none front given c.args.piece.now c.args.self.now _ stand none c.new.ensures.items)))

pub returns-clause-taken : goal.returns-clause-taken
returns-clause-taken c = λ front given stand none.
    stand_joined front given _ c.args.self.now c.in_ok-next.next c.join.new.self stand (c.in_ok-next.ensures.found _ _ (behind_none front given c.args.piece.now c.args.self.now _ stand none c.new.ensures.items)) c.in_ok-join.ensures.joined
