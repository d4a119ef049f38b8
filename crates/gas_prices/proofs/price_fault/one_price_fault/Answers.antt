use Rattle.gas_prices.proofs.OneFault.{one_fault, no_fault}
use Rattle.gas_prices.proofs.price_fault.one_price_fault.Goals as goal

pub returns-clause-one : goal.returns-clause-one
returns-clause-one c = one_fault

pub returns-clause-none : goal.returns-clause-none
returns-clause-none c = no_fault
