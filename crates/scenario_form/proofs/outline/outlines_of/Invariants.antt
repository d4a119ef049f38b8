use Rattle.scenario_form.specs.Spelled.{the_values}
use Rattle.scenario_form.proofs.KeptTipsets.{KeptSoFar}
use Rattle.scenario_form.proofs.PartTexts.{texts_of}
use Rattle.scenario_form.proofs.outline.outlines_of.Given as goal

abbrev pub invariant-loop-i : goal.invariant-loop-i
invariant-loop-i l = KeptSoFar (the_values (texts_of l.list)) l.i l.kept
