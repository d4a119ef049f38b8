use Rattle.std.proofs.Common.{take}
use Rattle.amt_map.specs.Stands.{Stands}
use Rattle.tipset_exec.specs.Alone.{receipts_of}
use Rattle.tipset_exec.proofs.receipts.receipts_tree.Given as goal

abbrev pub invariant-loop-i : goal.invariant-loop-i
invariant-loop-i l = Stands l.tree l.base (receipts_of (take l.i l.lines))
