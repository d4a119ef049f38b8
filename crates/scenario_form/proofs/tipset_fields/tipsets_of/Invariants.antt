use Rattle.scenario_form.specs.Reading.{tipset_read}
use Rattle.scenario_form.specs.Spelled.{the_values}
use Rattle.scenario_form.proofs.PartTexts.{texts_of}
use Rattle.scenario_form.proofs.Steps.{SoFar}
use Rattle.scenario_form.proofs.tipset_fields.tipsets_of.Given as goal

abbrev pub invariant-loop-i : goal.invariant-loop-i
invariant-loop-i l = SoFar tipset_read (the_values (texts_of l.list)) l.i l.tipsets.items
