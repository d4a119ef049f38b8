use Rattle.scenario_form.proofs.Parts.{list_parts, parts_few}
use Rattle.scenario_form.proofs.rule_fields.prices_at.Goals as goal

pub prices_of-requires : goal.prices_of-requires
prices_of-requires c = parts_few c.in-Ok.values.now (list_parts c.args.items.now c.args.at c.in-Ok.values.now c.requires.parts c.in-Ok.ensures.found)
