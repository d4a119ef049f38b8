use Rattle.scenario_form.specs.Answer.{IsScenarioFault}
use Rattle.scenario_form.specs.Outlines.{raw_scenario}
use Rattle.scenario_form.proofs.Ends.{codes_within, stays, tipset_refused}
use Rattle.std.proofs.Common.{refl}
use Rattle.scenario_form.proofs.Exits.{fault_exit, part_exit}
use Rattle.scenario_form.proofs.KeptTipsets.{kept_blocks_few, kept_few, kept_judged}
use Rattle.scenario_form.proofs.reading.judge_scenario.Goals as goal

pub judge_rules-requires : goal.judge_rules-requires
judge_rules-requires c = c.in_ok-outline.ensures.found.2.prices

pub returns-in_err-prices-clause-fault : goal.returns-in_err-prices-clause-fault
returns-in_err-prices-clause-fault c =
    let found = c.in_ok-outline.ensures.found in
    fault_exit (IsScenarioFault c.args.base.now c.args.root.now) _ c.from_residual-in_err-prices.result c.from_residual-in_err-prices.ensures.1
    (c.in_err-prices.ensures.fault c.args.base.now c.args.root.now found.0 found.1.outlines found.3)

pub judge_states-requires-clause-few : goal.judge_states-requires-clause-few
judge_states-requires-clause-few c =
    let found = c.in_ok-outline.ensures.found in
    let codes = c.in_ok-prices.ensures.found c.args.base.now c.args.root.now found.0 found.1.outlines found.3 in
    let within = codes_within c.args.base.now c.args.root.now (raw_scenario c.in_ok-outline.outline found.0) found.2 codes in
    kept_few c.in_ok-outline.outline.kept found.0 c.as_slice.result.now c.as_slice.ensures.value found.1.outlines within.count

pub judge_states-requires-clause-blocks : goal.judge_states-requires-clause-blocks
judge_states-requires-clause-blocks c =
    let found = c.in_ok-outline.ensures.found in
    let codes = c.in_ok-prices.ensures.found c.args.base.now c.args.root.now found.0 found.1.outlines found.3 in
    let within = codes_within c.args.base.now c.args.root.now (raw_scenario c.in_ok-outline.outline found.0) found.2 codes in
    kept_blocks_few c.in_ok-outline.outline.kept found.0 c.as_slice.result.now c.as_slice.ensures.value found.1.outlines within.tipsets

pub returns-in_err-judge_states-clause-fault : goal.returns-in_err-judge_states-clause-fault
returns-in_err-judge_states-clause-fault c =
    let found = c.in_ok-outline.ensures.found in
    let o = c.in_ok-outline.outline in
    let codes = c.in_ok-prices.ensures.found c.args.base.now c.args.root.now found.0 found.1.outlines found.3 in
    part_exit _ (IsScenarioFault c.args.base.now c.args.root.now) _ c.from_residual-in_err-judge_states.result c.from_residual-in_err-judge_states.ensures.1 c.in_err-judge_states.ensures.fault
    (λ fault judged.
    tipset_refused c.args.base.now c.args.root.now (raw_scenario o found.0) found.0 fault codes refl
    (kept_judged c.args.base.now o.rules.codes o.kept found.0 c.as_slice.result.now _ c.as_slice.ensures.value found.1.outlines judged))

pub spelled_of-requires-clause-depth : goal.spelled_of-requires-clause-depth
spelled_of-requires-clause-depth c =
    let found = c.in_ok-outline.ensures.found in
    let codes = c.in_ok-prices.ensures.found c.args.base.now c.args.root.now found.0 found.1.outlines found.3 in
    (codes_within c.args.base.now c.args.root.now (raw_scenario c.in_ok-outline.outline found.0) found.2 codes).depth

pub spelled_of-requires-clause-pages : goal.spelled_of-requires-clause-pages
spelled_of-requires-clause-pages c =
    let found = c.in_ok-outline.ensures.found in
    let codes = c.in_ok-prices.ensures.found c.args.base.now c.args.root.now found.0 found.1.outlines found.3 in
    (codes_within c.args.base.now c.args.root.now (raw_scenario c.in_ok-outline.outline found.0) found.2 codes).pages

pub returns-clause-found : goal.returns-clause-found
returns-clause-found c =
    let found = c.in_ok-outline.ensures.found in
    let o = c.in_ok-outline.outline in
    let codes = c.in_ok-prices.ensures.found c.args.base.now c.args.root.now found.0 found.1.outlines found.3 in (
      found.0,
      stays c.args.base.now c.args.root.now o found.0 c.spelled_of.result found.1 found.2 codes
          (kept_judged c.args.base.now o.rules.codes o.kept found.0 c.as_slice.result.now _ c.as_slice.ensures.value found.1.outlines c.in_ok-judge_states.ensures.found) c.spelled_of.ensures,
    )
