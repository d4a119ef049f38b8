use Rattle.std.proofs.Common.{subst, sym, ◌∙◌}
use Rattle.gas_prices.specs.Prices.{IsPriceList}
use Rattle.scenario_form.specs.Outlines.{raw_scenario}
use Rattle.scenario_form.proofs.KeptTipsets.{same_limit}
use Rattle.scenario_form.proofs.Prices.{price_refused}
use Rattle.scenario_form.proofs.judging.judge_rules.Goals as goal

pub returns-in_err-prices-clause-fault : goal.returns-in_err-prices-clause-fault
returns-in_err-prices-clause-fault c = λ blocks root tipsets are parts.
    price_refused c.from_residual.result (raw_scenario c.args.outline.now tipsets) c.as_slice.result.now _ c.from_residual.ensures.1 c.as_slice.ensures c.in_err-prices.ensures.fault blocks root parts

pub returns-in-Some-clause-fault : goal.returns-in-Some-clause-fault
returns-in-Some-clause-fault c = λ blocks root tipsets are parts.
    let prices = subst IsPriceList c.as_slice.ensures c.in_ok-prices.ensures.found.1 in
    (raw_scenario c.args.outline.now tipsets, (parts, prices), sym (same_limit c.args.outline.now tipsets are) ∙ sym c.exceeded_limit.ensures ∙ c.in-Some.is)

pub returns-then-have_equal-clause-fault : goal.returns-then-have_equal-clause-fault
returns-then-have_equal-clause-fault c = λ blocks root tipsets are parts.
    let prices = subst IsPriceList c.as_slice.ensures c.in_ok-prices.ensures.found.1 in
    (raw_scenario c.args.outline.now tipsets, ((parts, prices), sym (same_limit c.args.outline.now tipsets are) ∙ sym c.exceeded_limit.ensures ∙ c.in_default.is), sym c.have_equal.ensures ∙ c.if-have_equal.true)

pub returns-clause-found : goal.returns-clause-found
returns-clause-found c = λ blocks root tipsets are parts.
    let prices = subst IsPriceList c.as_slice.ensures c.in_ok-prices.ensures.found.1 in
    (((parts, prices), sym (same_limit c.args.outline.now tipsets are) ∙ sym c.exceeded_limit.ensures ∙ c.in_default.is), sym c.have_equal.ensures ∙ c.if-have_equal.false)
