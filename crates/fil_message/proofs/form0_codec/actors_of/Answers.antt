use Rattle.std.proofs.Common.{arith, rules, sym}
use Rattle.fil_message.specs.Form0Reading.{actor_of}
use Rattle.fil_message.proofs.ReadSteps.{all_none, in_form_ok, item_fault, item_more, memory_exit}
use Rattle.fil_message.proofs.form0_codec.actors_of.Goals as goal

pub loop-item-init : goal.loop-item-init
loop-item-init c = all_none actor_of c.args.items.now _ (search rules)

pub loop-item-preserved : goal.loop-item-preserved
loop-item-preserved c =
    item_more actor_of c.args.items.now c.loop-item.item-index c.item-item.result c.loop-item.actors.items _ _ (omega arith) c.item-item.is (in_form_ok (actor_of c.item-item.result) _ c.in_ok-actor.ensures) c.loop-item.invariant (search rules)

pub returns-in_err-actor-clause-fault : goal.returns-in_err-actor-clause-fault
returns-in_err-actor-clause-fault c =
    memory_exit c.from_residual-in_err-actor.result _ _ c.from_residual-in_err-actor.ensures.1
    (item_fault actor_of c.args.items.now c.loop-item.item-index c.item-item.result c.loop-item.actors.items _ (omega arith) c.item-item.is (sym c.in_err-actor.ensures) c.loop-item.invariant)
