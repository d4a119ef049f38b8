use Rattle.std.proofs.Common.{◌≡◌, ◌∙◌, take_at, arith}
use Rattle.tipset_exec.proofs.Outcome.{report_is}
use Rattle.tipset_exec.proofs.running.run_form0.Goals as goal

-- the vector is a copy of the form's actors, and then holds what the run of the messages left
pub returns : goal.returns
returns c =
    let run = c.in_ok-exits.ensures in
    let copied = c.deref_mut.ensures.value ∙ (c.in_ok-actors.ensures.items ∙ c.as_slice.ensures) in
    let kept : c.of-2.result ≡ c.run_messages.new.actors = c.of-2.ensures ∙ take_at c.run_messages.new.actors _ _ (omega (arith, c.run_messages.auto.actors, c.deref_mut.ensures.len)) in
    rw kept (report_is c.args.form.now _ _ _ _ copied c.as_slice-2.ensures run.ledger run.ids run.after (c.of.ensures ∙ run.exits))
