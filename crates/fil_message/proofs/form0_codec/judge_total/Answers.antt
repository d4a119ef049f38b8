use Rattle.std.proofs.Common.{arith, refl}
use Rattle.fil_message.proofs.Order.{too_much}
use Rattle.fil_message.proofs.form0_codec.judge_total.Goals as goal

pub returns-then-total-gt-GREATEST_AMOUNT-clause-fault : goal.returns-then-total-gt-GREATEST_AMOUNT-clause-fault
returns-then-total-gt-GREATEST_AMOUNT-clause-fault c =
    (too_much c.args.actors.now c.loop-actor.actor-index c.loop-actor.total c.actor-item.result (omega arith) c.actor-item.is c.loop-actor.invariant.0 (omega arith), refl)
