use Rattle.state_tree.proofs.Calls.{changed_found, written_found}
use Rattle.state_tree.proofs.state_tree.StateTree.actor_at.Goals as goal

pub returns-in-Some : goal.returns-in-Some
returns-in-Some g c = λ actors info stands.
    changed_found c.args.self.now _ actors info c.args.id c.in_ok-actor.field-0 c.in-Some.actor stands c.in_ok-actor.ensures c.in-Some.is

pub returns-in-None : goal.returns-in-None
returns-in-None g c = λ actors info stands.
    written_found c.args.self.now _ actors info c.args.id c.in_ok-actor.field-0 c.written_actor.result stands c.in_ok-actor.ensures c.in-None.is c.written_actor.ensures
