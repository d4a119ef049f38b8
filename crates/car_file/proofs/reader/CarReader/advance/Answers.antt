use Rattle.std.proofs.Common.{◌++◌, ◌∙◌, List, ℕ, ap, subst, sym}
use Rattle.car_file.specs.CarFault.{IsCarFault, IsCut}
use Rattle.car_file.specs.Sections.{HasRead}
use Rattle.std.proofs.lemmas.Result.{IfErr-weaker, on_ok_weaker}
use Rattle.car_file.proofs.Archives.{fault_stays}
use Rattle.car_file.proofs.CarReading.{behind_header, fine_behind, fine_in_front, front_of}
use Rattle.car_file.proofs.SectionLemmas.{none_found}
use Rattle.car_file.proofs.reader.CarReader.advance.Goals as goal

pub returns-in-Sections-clause-taken : goal.returns-in-Sections-clause-taken
returns-in-Sections-clause-taken c = λ given stands.
    let both = rw c.in-Sections.is at stands in
    on_ok_weaker c.feed.result (λ read. (both.0, read)) (c.feed.ensures.taken _ given both.1)

pub returns-in-Sections-clause-unchanged : goal.returns-in-Sections-clause-unchanged
returns-in-Sections-clause-unchanged c = λ given stands none.
    let both = rw c.in-Sections.is at stands in
    (both.0, c.feed.ensures.unchanged _ given both.1 none)

pub returns-in-Sections-clause-fine : goal.returns-in-Sections-clause-fine
returns-in-Sections-clause-fine c = λ given stands.
    let both = rw c.in-Sections.is at stands in
    on_ok_weaker c.feed.result (λ read fault is. fine_behind _ _ _ _ _ fault both.0 read.read read.cut is) (c.feed.ensures.taken _ given both.1)

pub returns-in-Sections-clause-fault : goal.returns-in-Sections-clause-fault
returns-in-Sections-clause-fault c = λ given stands.
    let both = rw c.in-Sections.is at stands in
    IfErr-weaker c.feed.result _ _ (λ failure fault. behind_header c.in-Sections.field-0 _ failure both.0 fault) (c.feed.ensures.fault _ given both.1)

pub returns-in-Failed-clause-fault : goal.returns-in-Failed-clause-fault
returns-in-Failed-clause-fault c = λ given stands.
    let both = rw c.in-Failed.is at stands in
    (fault_stays given c.args.piece.now c.in-Failed.fault both.1 both.0, both.1)

pub returns-in-Some-clause-taken : goal.returns-in-Some-clause-taken
returns-in-Some-clause-taken c = λ given stands.
    let both = rw c.in-Header.is at stands in
    let found = rw c.in-Some.is at c.in_ok-root-in-Header.ensures.whole (subst IsCut (sym both.0) both.1) in
    (found.0, subst (λ (g : List ℕ). HasRead (front_of c.in-Some.root) c.in-Some.sections (g ++ c.args.piece.now)) both.0 found.1)

pub returns-in-Some-clause-fine : goal.returns-in-Some-clause-fine
returns-in-Some-clause-fine c = λ given stands fault is.
    let both = rw c.in-Header.is at stands in
    let found = rw c.in-Some.is at c.in_ok-root-in-Header.ensures.whole (subst IsCut (sym both.0) both.1) in
    fine_behind c.in-Some.root _ _ _ _ fault found.0 found.1.read found.1.cut (subst (λ (g : List ℕ). IsCarFault (g ++ c.args.piece.now) fault) (sym both.0) is)

pub returns-in_default-clause-fine : goal.returns-in_default-clause-fine
returns-in_default-clause-fine c = λ given stands fault is.
    let both = rw c.in-Header.is at stands in
    let still = none_found c.in_ok-root-in-Header.field-0 _ c.in_default.not-Some (c.in_ok-root-in-Header.ensures.still (subst IsCut (sym both.0) both.1)) in
    fine_in_front (given ++ c.args.piece.now) fault (subst IsCut (still.0 ∙ ap (λ (g : List ℕ). g ++ c.args.piece.now) both.0) still.1) is
