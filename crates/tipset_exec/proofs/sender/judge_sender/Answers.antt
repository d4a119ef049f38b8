use Rattle.tipset_exec.proofs.EndSteps.{judged_fault, judged_sender}
use Rattle.tipset_exec.proofs.sender.judge_sender.Goals as goal

pub returns-in-Some-sender_fault : goal.returns-in-Some-sender_fault
returns-in-Some-sender_fault c = λ s stands.
    judged_fault c.args.rules.now s c.args.message.now c.in_ok-id.field-0 c.in_ok-actor.field-0 c.in-Some.id c.in-Some-2.actor c.sender_fault.result c.in-Some-sender_fault.exit (c.in_ok-id.ensures s stands) c.in-Some.is
    (c.in_ok-actor.ensures s stands) c.in-Some-2.is c.sender_fault.ensures c.in-Some-sender_fault.is

pub returns-in-None : goal.returns-in-None
returns-in-None c = λ s stands.
    judged_sender c.args.rules.now s c.args.message.now c.in_ok-id.field-0 c.in_ok-actor.field-0 c.in-Some.id c.in-Some-2.actor c.sender_fault.result (c.in_ok-id.ensures s stands) c.in-Some.is
    (c.in_ok-actor.ensures s stands) c.in-Some-2.is c.sender_fault.ensures c.in-None.is
