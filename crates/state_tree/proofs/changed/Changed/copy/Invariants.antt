use Rattle.std.proofs.Common.{◌≡◌}
use Rattle.std.specs.FinMap.{from_entries}
use Rattle.state_tree.specs.Over.{over}
use Rattle.state_tree.proofs.Overlay.{LeftOf}
use Rattle.state_tree.proofs.changed.Changed.copy.Given as goal

abbrev pub invariant-loop-id : goal.invariant-loop-id
invariant-loop-id l = LeftOf l.self l.id-iterator × (over (from_entries l.id-iterator) l.copy ≡ l.self)
