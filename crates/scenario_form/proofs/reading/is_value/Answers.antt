use Rattle.std.proofs.Common.{[], sym, ◌∙◌}
use Rattle.std.proofs.lemmas.Bool.{eqb-false}
use Rattle.scenario_form.proofs.PartTexts.{more_behind, with_nothing}
use Rattle.scenario_form.proofs.reading.is_value.Goals as goal

pub returns-in-Some-clause-only : goal.returns-in-Some-clause-only
returns-in-Some-clause-only c =
    let found = c.in-Some.ensures.found in
    λ no value plain is. more_behind c.args.bytes.now c.in-Some.field-0-0.now c.in-Some.rest.now found.0 value found.1 plain found.2 found.3 is (eqb-false _ _ (sym c.is_empty.ensures ∙ no))

pub returns-in-None-clause-only : goal.returns-in-None-clause-only
returns-in-None-clause-only c = λ no value plain is. c.in-None.ensures.only value [] plain (with_nothing c.args.bytes.now value is)
