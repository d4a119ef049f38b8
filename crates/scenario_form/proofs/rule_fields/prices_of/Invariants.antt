use Rattle.scenario_form.proofs.PriceReads.{price_read}
use Rattle.scenario_form.proofs.Steps.{SoFar}
use Rattle.scenario_form.proofs.rule_fields.prices_of.Given as goal

abbrev pub invariant-loop-i : goal.invariant-loop-i
invariant-loop-i l = SoFar price_read l.values l.i l.prices.items
