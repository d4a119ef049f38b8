use Rattle.std.proofs.Common.{[], take}
use Rattle.std.specs.FinMap.{empty, from_entries}
use Rattle.fil_base.specs.CidParts.{CidParts}
use Rattle.state_tree.specs.Stands.{Stands}
use Rattle.state_tree.proofs.state_tree.StateTree.put_all.Given as goal

abbrev pub invariant-loop-id : goal.invariant-loop-id
invariant-loop-id l = (info : CidParts) → Stands l.fn.self [] empty info → Stands l.self [] (from_entries (take l.id-index l.actors)) info
