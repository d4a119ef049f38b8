use Rattle.scenario_form.proofs.Parts.{value_there}
use Rattle.scenario_form.proofs.rule_fields.rules_at.Goals as goal

pub rules_of-requires : goal.rules_of-requires
rules_of-requires c = value_there c.args.items.now c.args.at c.in-Ok.value.now c.requires.parts c.in-Ok.ensures.found
