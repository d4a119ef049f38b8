use Rattle.std.proofs.Common.{◌∙◌}
use Rattle.car_file.specs.Reader.{Stands}
use Rattle.car_file.proofs.CarReading.{cut_behind, cut_header, is_car, car_spelled}
use Rattle.car_file.proofs.reader.CarReader.finish.Goals as goal

pub returns-in-Header-clause-fault : goal.returns-in-Header-clause-fault
unfolding Stands
returns-in-Header-clause-fault c = λ given stands.
    let both = rw c.in-Header.is at stands in
    cut_header c.in-Header.header.items given c.len.result both.0 both.1 (c.len.ensures ∙ c.in-Header.header.ok.0) c.len.type_inv

pub returns-in-Ok-clause-found : goal.returns-in-Ok-clause-found
unfolding Stands
returns-in-Ok-clause-found c = λ given stands.
    let both = rw c.in-Sections.is at stands in
    let found = c.in-Ok.ensures.found _ given both.1 in
    (is_car _ _ _ _ given both.0 found.1, car_spelled _ _ _ given found.1)

pub returns-in-Err-clause-fault : goal.returns-in-Err-clause-fault
unfolding Stands
returns-in-Err-clause-fault c = λ given stands.
    let both = rw c.in-Sections.is at stands in
    cut_behind c.in-Sections.root given c.in-Err.fault both.0 (c.in-Err.ensures.fault _ given both.1)

pub returns-in-Failed-clause-fault : goal.returns-in-Failed-clause-fault
unfolding Stands
returns-in-Failed-clause-fault c = λ given stands. (rw c.in-Failed.is at stands).0
