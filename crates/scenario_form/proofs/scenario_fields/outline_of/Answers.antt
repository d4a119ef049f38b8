use Rattle.std.proofs.Common.{Bor, List, ℕ, ap, sym, ◌∙◌}
use Rattle.scenario_form.specs.Reading.{each_read, tipset_read}
use Rattle.scenario_form.specs.Spelled.{the_value, the_values}
use Rattle.scenario_form.proofs.Exits.{part_exit}
use Rattle.scenario_form.proofs.PartTexts.{texts_of}
use Rattle.scenario_form.proofs.TipsetReads.{scenario_found, scenario_refused, tipset_of_it_refused}
use Rattle.scenario_form.proofs.scenario_fields.outline_of.Goals as goal

pub returns-in-Err-clause-fault : goal.returns-in-Err-clause-fault
returns-in-Err-clause-fault c = scenario_refused (the_value c.args.bytes.now) _ _ _ c.in-Err.ensures.fault c.failed_at.ensures c.scenario.ensures

pub returns-in_err-kept-clause-fault : goal.returns-in_err-kept-clause-fault
returns-in_err-kept-clause-fault c =
    part_exit _ _ _ c.from_residual.result c.from_residual.ensures.1 c.in_err-kept.ensures.fault
    (λ fault refused. tipset_of_it_refused (the_value c.args.bytes.now) _ fault c.in-Ok.ensures.found (ap (λ (list : List (Bor (List ℕ))). each_read tipset_read 0 (the_values (texts_of list))) (sym c.as_slice.ensures.value) ∙ refused))

pub returns-clause-found : goal.returns-clause-found
returns-clause-found c =
    let kept = c.in_ok-kept.ensures.found in
    let read = ap (λ (list : List (Bor (List ℕ))). each_read tipset_read 0 (the_values (texts_of list))) (sym c.as_slice.ensures.value) ∙ kept.1 in
    (kept.0, record { parts = c.in-Ok.ensures.parts; read = read; outlines = kept.2 }, scenario_found (the_value c.args.bytes.now) _ kept.0 c.in-Ok.ensures.found read)
