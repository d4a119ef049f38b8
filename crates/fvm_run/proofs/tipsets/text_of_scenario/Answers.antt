use Rattle.std.proofs.Common.{sym, ◌∙◌}
use Rattle.scenario_form.specs.Judged.{scenario_with}
use Rattle.fvm_run.proofs.States.{each_is_built, few_tipsets, told, unbuilt}
use Rattle.fvm_run.proofs.tipsets.text_of_scenario.Goals as goal

pub first_not_built-requires : goal.first_not_built-requires
first_not_built-requires c =
    let given = c.requires in
    (given.1, given.2.spelled, few_tipsets c.args.base.now given.0 (scenario_with c.args.scenario.now given.1) given.2.scenario)

pub returns-in-Some-clause-refused : goal.returns-in-Some-clause-refused
returns-in-Some-clause-refused c = λ root tipsets is.
    unbuilt c.args.base.now root (scenario_with c.args.scenario.now tipsets) c.in-Some.place is.scenario (is.rules, is.tipsets)
    (λ pairs have. sym c.in-Some.is ∙ c.in_ok-place.ensures tipsets pairs is.spelled have)

pub text_of_all-requires : goal.text_of_all-requires
text_of_all-requires c =
    let given = c.requires in
    let is = given.2 in (
      given.1,
      is.spelled,
      each_is_built c.args.base.now given.0 (scenario_with c.args.scenario.now given.1) is.scenario (is.rules, is.tipsets)
          (λ pairs have. sym c.in_default.is ∙ c.in_ok-place.ensures given.1 pairs is.spelled have),
    )

pub returns-clause-text : goal.returns-clause-text
returns-clause-text c = λ root tipsets is.
    told c.args.base.now root (scenario_with c.args.scenario.now tipsets) c.in_ok-text_of_all.field-0 is.scenario (is.rules, is.tipsets)
    (λ pairs have. sym c.in_default.is ∙ c.in_ok-place.ensures tipsets pairs is.spelled have)
    (λ pairs have. c.in_ok-text_of_all.ensures tipsets pairs is.spelled have)
