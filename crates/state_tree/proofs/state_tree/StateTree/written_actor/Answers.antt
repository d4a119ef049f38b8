use Rattle.std.proofs.Common.{ap, ◌∙◌}
use Rattle.std.specs.FinMap.{get}
use Rattle.state_tree.specs.Actors.{records}
use Rattle.state_tree.proofs.Calls.{actor_found, actor_missing}
use Rattle.state_tree.proofs.state_tree.StateTree.written_actor.Goals as goal

pub returns-in-Some : goal.returns-in-Some
returns-in-Some g c = λ kept are stands.
    actor_found kept c.args.id c.deref.result.now c.in_ok-value.field-0 c.in-Some.value c.actor_in.result are c.requires (c.deref.ensures.value ∙ c.in_ok-key.ensures)
    (c.in_ok-value.ensures (records kept) stands) c.in-Some.is c.actor_in.ensures

pub returns : goal.returns
returns g c = λ kept are stands.
    actor_missing kept c.args.id c.deref.result.now c.in_ok-value.field-0 are c.requires (c.deref.ensures.value ∙ c.in_ok-key.ensures) (c.in_ok-value.ensures (records kept) stands) c.in-None.is
