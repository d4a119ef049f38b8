use Rattle.std.proofs.Common.{ap, take}
use Rattle.scenario_form.proofs.FieldSteps.{front_texts}
use Rattle.scenario_form.proofs.tipset_fields.tipset_fields.Goals as goal

pub values_of-requires : goal.values_of-requires
values_of-requires c = front_texts 3 c.in_ok-items.items.items _ c.in_ok-items.ensures.parts (ap (take 3) c.deref.ensures.value)
