use Rattle.std.proofs.Common.{sym}
use Rattle.scenario_form.specs.Reading.{rules_read}
use Rattle.fil_message.proofs.ReadSteps.{then_fault}
use Rattle.scenario_form.proofs.Exits.{part_exit}
use Rattle.scenario_form.proofs.RuleReads.{codes_refused, limits_refused, prices_refused, rules_found}
use Rattle.scenario_form.proofs.rule_fields.rules_of.Goals as goal

pub returns-in-Err-clause-fault : goal.returns-in-Err-clause-fault
unfolding rules_read
returns-in-Err-clause-fault c = then_fault _ _ _ c.in-Err.ensures.fault

pub returns-in_err-prices-clause-fault : goal.returns-in_err-prices-clause-fault
returns-in_err-prices-clause-fault c =
    part_exit _ _ _ c.from_residual.result c.from_residual.ensures.1 c.in_err-prices.ensures.fault (λ fault refused. prices_refused c.args.value.now c.in-Ok.items.now fault c.in-Ok.ensures.found refused)

pub returns-in-Err-limits_at-clause-fault : goal.returns-in-Err-limits_at-clause-fault
returns-in-Err-limits_at-clause-fault c =
    limits_refused c.args.value.now c.in-Ok.items.now _ _ c.in-Ok.ensures.found c.in_ok-prices.ensures.found (sym c.in-Err-limits_at.ensures)

pub returns-in_err-codes-clause-fault : goal.returns-in_err-codes-clause-fault
returns-in_err-codes-clause-fault c =
    part_exit _ _ _ c.from_residual-in_err-codes.result c.from_residual-in_err-codes.ensures.1 c.in_err-codes.ensures.fault
    (λ fault refused. codes_refused c.args.value.now c.in-Ok.items.now _ _ fault c.in-Ok.ensures.found c.in_ok-prices.ensures.found (sym c.in-Ok-limits_at.ensures) refused)

pub returns-clause-found : goal.returns-clause-found
returns-clause-found c =
    rules_found c.args.value.now c.in-Ok.items.now _ c.in-Ok-limits_at.limits _ c.in-Ok.ensures.found c.in_ok-prices.ensures.found (sym c.in-Ok-limits_at.ensures) c.in_ok-codes.ensures.found
