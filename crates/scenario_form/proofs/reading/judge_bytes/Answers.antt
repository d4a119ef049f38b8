use Rattle.std.proofs.Common.{◌<◌, arith}
use Rattle.std.proofs.lemmas.List.Elements.{All-from_get_or}
use Rattle.scenario_form.proofs.Parts.{whole_part}
use Rattle.scenario_form.proofs.PartTexts.{text_of_part, text_spells}
use Rattle.scenario_form.proofs.reading.judge_bytes.Goals as goal

pub returns-then-is_value-clause-spelled : goal.returns-then-is_value-clause-spelled
returns-then-is_value-clause-spelled c = let found = c.is_value.ensures.found c.if-is_value.true in text_spells c.args.bytes.now found.0 found.1 found.2

pub returns-then-is_value-clause-part : goal.returns-then-is_value-clause-part
returns-then-is_value-clause-part c =
    let found = c.is_value.ensures.found c.if-is_value.true in
    let below = All-from_get_or (λ byte. byte < 256) c.args.bytes.now 0 (λ i within. omega (arith, c.type_inv.bytes i)) in
    text_of_part c.args.bytes.now found.0 (whole_part c.args.bytes.now found.0 found.1 found.2 below c.requires) found.2

pub unreachable-requires : goal.unreachable-requires
unreachable-requires c = c.is_value.ensures.only c.if-is_value.false c.in-Ok.field-0 c.in-Ok.ensures.found.0 c.in-Ok.ensures.found.1
