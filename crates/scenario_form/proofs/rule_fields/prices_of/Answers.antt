use Rattle.std.proofs.Common.{arith, rules, sym}
use Rattle.scenario_form.proofs.PriceReads.{price_fault, price_more}
use Rattle.scenario_form.proofs.rule_fields.prices_of.Goals as goal

pub loop-i-preserved : goal.loop-i-preserved
loop-i-preserved c =
    price_more c.args.values.now c.loop-i.i c.in-Ok.price c.loop-i.prices.items _ (omega arith) (sym c.in-Ok.ensures) c.loop-i.invariant (search rules)

pub returns-in-Err-clause-fault : goal.returns-in-Err-clause-fault
returns-in-Err-clause-fault c = price_fault c.args.values.now c.loop-i.i c.loop-i.prices.items _ (omega arith) (sym c.in-Err.ensures) c.loop-i.invariant
