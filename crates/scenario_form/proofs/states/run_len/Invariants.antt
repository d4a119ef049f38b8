use Rattle.std.proofs.Common.{take}
use Rattle.std.specs.Prelude.{All}
use Rattle.fil_message.specs.declared.tipset.Tipset.{Tipset}
use Rattle.scenario_form.proofs.Runs.{HasRoot}
use Rattle.scenario_form.proofs.states.run_len.Given as goal

abbrev pub invariant-loop-i : goal.invariant-loop-i
invariant-loop-i l = (d : Tipset) → All (HasRoot l.tipsets d) (take l.i l.tipsets)
