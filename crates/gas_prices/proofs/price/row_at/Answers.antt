use Rattle.gas_prices.proofs.Table.{table_row}
use Rattle.gas_prices.proofs.price.row_at.Goals as goal

pub returns-clause-number : goal.returns-clause-number
returns-clause-number c = (table_row c.args.number _ c.requires).0

pub returns-clause-least : goal.returns-clause-least
returns-clause-least c = (table_row c.args.number _ c.requires).1
