use Rattle.std.proofs.Common.{◌<◌}
use Rattle.gas_prices.specs.declared.price.Price.{Price}
use Rattle.gas_prices.specs.Prices.{number_of, IsInRange}
use Rattle.gas_prices.proofs.price_list.judge.Given as goal

abbrev pub invariant-loop-i : goal.invariant-loop-i
invariant-loop-i l = (other : Price) → number_of other < l.i → IsInRange l.prices other
