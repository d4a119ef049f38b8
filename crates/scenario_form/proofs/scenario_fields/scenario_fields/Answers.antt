use Rattle.std.proofs.Common.{Bor, List, ℕ, ap, sym, take, ◌∙◌}
use Rattle.cbor_fields.specs.Fields.{field}
use Rattle.cbor_fields.specs.Readers.{items_of}
use Rattle.scenario_form.specs.Reading.{scenario_front}
use Rattle.scenario_form.specs.Spelled.{the_value, the_values}
use Rattle.scenario_form.proofs.Exits.{part_exit}
use Rattle.scenario_form.proofs.FieldSteps.{front_parts, front_texts, last_fails, scenario_front_is}
use Rattle.scenario_form.proofs.PartTexts.{texts_of}
use Rattle.scenario_form.proofs.scenario_fields.scenario_fields.Goals as goal

pub values_of-requires : goal.values_of-requires
values_of-requires c = front_texts 2 c.in_ok-items.items.items _ c.in_ok-items.ensures.parts (ap (take 2) c.deref.ensures.value)

pub scenario_front-requires : goal.scenario_front-requires
scenario_front-requires c =
    front_parts (texts_of (take 2 c.deref.result.now)) _ (front_texts 2 c.in_ok-items.items.items _ c.in_ok-items.ensures.parts (ap (take 2) c.deref.ensures.value)) (c.as_slice.ensures.value ∙ c.in_ok-front.ensures)

pub returns-in_err-tipsets-clause-fault : goal.returns-in_err-tipsets-clause-fault
returns-in_err-tipsets-clause-fault c =
    part_exit _ _ _ c.from_residual-in_err-tipsets.result c.from_residual-in_err-tipsets.ensures.1 c.in_err-tipsets.ensures.fault
    (λ fault refused.
    last_fails (the_value c.args.bytes.now) 3 scenario_front (λ items. field items_of items 2) _ (the_values (texts_of c.in_ok-items.items.items)) c.as_slice.result.now _ fault c.in_ok-items.ensures.found
    (scenario_front_is c.in_ok-items.items.items (take 2 c.deref.result.now) c.as_slice.result.now (ap (take 2) c.deref.ensures.value) (c.as_slice.ensures.value ∙ c.in_ok-front.ensures)) c.in_ok-rules.ensures.found
    (ap (λ (list : List (Bor (List ℕ))). field items_of (the_values (texts_of list)) 2) (sym c.as_slice-2.ensures.value) ∙ refused))
