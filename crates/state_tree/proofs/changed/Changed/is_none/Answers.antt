use Rattle.state_tree.proofs.Overlay.{shown_of_length}
use Rattle.state_tree.proofs.changed.Changed.is_none.Goals as goal

pub returns : goal.returns
returns c = λ none. shown_of_length c.self.inside.inner.entries c.args.self.now c.self.view_is (c.is_empty.ensures.0 none)
