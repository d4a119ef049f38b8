use Rattle.car_file.proofs.Archives.{fault_stays, one_fault}
use Rattle.car_file.proofs.laws.one_car_fault.Goals as goal

pub returns-clause-one : goal.returns-clause-one
returns-clause-one c = one_fault

pub returns-clause-stays : goal.returns-clause-stays
returns-clause-stays c = fault_stays
