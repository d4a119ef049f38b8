use Rattle.std.proofs.Common.{arith, ap}
use Rattle.std.proofs.lemmas.Bool.{false≢true}
use Rattle.fil_message.specs.declared.form_fault.FormFault.TheVariants.{Order}
use Rattle.fil_message.proofs.Order.{not_rising, rising_all, rising_more}
use Rattle.fil_message.proofs.form0_codec.judge_order.Goals as goal

pub returns-then-not-is_before-clause-fault : goal.returns-then-not-is_before-clause-fault
returns-then-not-is_before-clause-fault c = (
  c.loop-i.i,
  not_rising c.args.actors.now c.loop-i.i _ _ (omega arith) (omega arith) c.index-actors-i.is c.index-actors-i-in-loop-i.is
      (λ less. false≢true (c.if-not-is_before.ensures.1 less)) c.loop-i.invariant,
  ap Order c.place_of.ensures,
)

pub loop-i-preserved : goal.loop-i-preserved
loop-i-preserved c =
    rising_more c.args.actors.now c.loop-i.i _ _ (omega arith) (omega arith) c.index-actors-i.is c.index-actors-i-in-loop-i.is
    (c.is_before.ensures.0 c.if-not-is_before.false) c.loop-i.invariant

pub returns-clause-found : goal.returns-clause-found
returns-clause-found c = rising_all c.args.actors.now c.loop-i.i (omega arith) (omega arith) c.loop-i.invariant
