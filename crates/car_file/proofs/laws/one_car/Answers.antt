use Rattle.car_file.proofs.Archives.{archive_has_no_fault, one_car}
use Rattle.car_file.proofs.laws.one_car.Goals as goal

pub returns-clause-one : goal.returns-clause-one
returns-clause-one c = one_car

pub returns-clause-accepted : goal.returns-clause-accepted
returns-clause-accepted c = archive_has_no_fault
