use Rattle.std.proofs.Common.{take}
use Rattle.tipset_exec.specs.Progress.{StandsFor}
use Rattle.tipset_exec.specs.Tipsets.{Run, with_messages}
use Rattle.tipset_exec.proofs.tipset.run_messages.Given as goal

abbrev pub invariant-loop-i : goal.invariant-loop-i
invariant-loop-i l =
    (run : Run) → StandsFor l.fn.progress l.base run → StandsFor l.progress l.base (with_messages l.rules l.tipset l.block run 0 (take l.i l.messages))
