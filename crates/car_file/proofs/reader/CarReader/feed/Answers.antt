use Rattle.car_file.specs.Reader.{Stands}
use Rattle.car_file.proofs.CarReading.{kept_taken, kept_unchanged}
use Rattle.car_file.proofs.reader.CarReader.feed.Goals as goal

pub returns-in-Ok-clause-taken : goal.returns-in-Ok-clause-taken
unfolding Stands
returns-in-Ok-clause-taken c = λ given stands took. c.in-Ok.ensures.taken given stands

pub returns-in-Ok-clause-fine : goal.returns-in-Ok-clause-fine
unfolding Stands
returns-in-Ok-clause-fine c = λ given stands. c.in-Ok.ensures.fine given stands

pub returns-in-Err-clause-taken : goal.returns-in-Err-clause-taken
unfolding Stands
returns-in-Err-clause-taken c = λ given stands took.
    kept_taken c.in-Err.failure c.keep.result _ _ _ c.keep.ensures.same c.keep.ensures.kept (c.in-Err.ensures.fault given stands) took

pub returns-in-Err-clause-unchanged : goal.returns-in-Err-clause-unchanged
unfolding Stands
returns-in-Err-clause-unchanged c = λ given stands none.
    kept_unchanged c.in-Err.failure c.keep.result _ _ given c.keep.ensures.same c.keep.ensures.kept (cc) (λ e. c.in-Err.ensures.unchanged given stands (cc))

pub returns-in-Err-clause-fault : goal.returns-in-Err-clause-fault
unfolding Stands
returns-in-Err-clause-fault c = λ given stands. rw c.keep.ensures.same (c.in-Err.ensures.fault given stands)
