use Rattle.state_tree.proofs.Overlay.{entries_none, shown_none}
use Rattle.state_tree.proofs.changed.Changed.none.Goals as goal

pub invariant_of-result : goal.invariant_of-result
invariant_of-result c = entries_none _ c.new.ensures.empty

pub returns : goal.returns
returns c = shown_none _ c.new.ensures.empty
