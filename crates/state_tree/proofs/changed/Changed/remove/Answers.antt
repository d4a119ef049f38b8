use Rattle.state_tree.proofs.Overlay.{entries_removed, shown_removed}
use Rattle.state_tree.proofs.changed.Changed.remove.Goals as goal

pub invariant_of-self : goal.invariant_of-self
invariant_of-self c = entries_removed c.self.inside.inner.entries _ c.args.id c.self.invariant c.remove.ensures.entries

pub returns : goal.returns
returns c = shown_removed c.self.inside.inner.entries _ c.args.self.now c.args.id c.self.invariant c.self.view_is c.remove.ensures.entries
