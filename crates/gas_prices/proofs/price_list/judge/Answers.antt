use Rattle.std.proofs.Common.{arith}
use Rattle.gas_prices.proofs.Table.{in_range_more, row_bounds}
use Rattle.gas_prices.proofs.price_list.judge.Goals as goal

pub loop-i-preserved : goal.loop-i-preserved
loop-i-preserved c =
    let row = c.row_at-least in
    in_range_more c.args.prices.now c.loop-i.i row.result.0 row.result.1 c.loop-i.invariant row.ensures.number row.ensures.least (omega arith) (omega arith)

pub returns-clause-found : goal.returns-clause-found
returns-clause-found c = record {
  count = omega arith;
  in_range = λ price. c.loop-i.invariant price (omega (arith, (row_bounds price).0));
}
