use Rattle.std.proofs.Common.{take}
use Rattle.state_model.specs.State.{State}
use Rattle.tipset_exec.specs.Progress.{StandsFor}
use Rattle.tipset_exec.specs.Stands.{Stands}
use Rattle.tipset_exec.specs.Tipsets.{begun, with_blocks}
use Rattle.tipset_exec.proofs.tipset.run_tipset.Given as goal

abbrev pub invariant-loop-i : goal.invariant-loop-i
invariant-loop-i l =
    (s : State) → Stands l.fn.ledger l.base s → StandsFor l.progress l.base (with_blocks l.rules l.tipset (begun s) 0 (take l.i l.blocks))
