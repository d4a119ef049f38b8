use Rattle.std.proofs.Common.{Some, ap, ◌∙◌}
use Rattle.state_tree.proofs.Overlay.{get-shown}
use Rattle.state_tree.proofs.changed.Changed.actor.Goals as goal

pub returns-in-None : goal.returns-in-None
returns-in-None c = c.in-None.ensures.value ∙ get-shown c.args.id c.self.inside.inner.entries c.args.self.now c.self.view_is

pub returns-in_ok-actor-in-Some : goal.returns-in_ok-actor-in-Some
returns-in_ok-actor-in-Some c = ap Some c.in_ok-actor-in-Some.ensures ∙ c.in-Some.ensures.value ∙ get-shown c.args.id c.self.inside.inner.entries c.args.self.now c.self.view_is
