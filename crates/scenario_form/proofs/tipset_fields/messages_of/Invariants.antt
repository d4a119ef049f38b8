use Rattle.scenario_form.specs.Reading.{message_read}
use Rattle.scenario_form.specs.Spelled.{the_values}
use Rattle.scenario_form.proofs.PartTexts.{texts_of}
use Rattle.scenario_form.proofs.Steps.{SoFar}
use Rattle.scenario_form.proofs.tipset_fields.messages_of.Given as goal

abbrev pub invariant-loop-i : goal.invariant-loop-i
invariant-loop-i l = SoFar (message_read l.tipset l.block) (the_values (texts_of l.list)) l.i l.messages.items
