use Rattle.std.proofs.Common.{Some, sym, ap, ◌∙◌}
use Rattle.std.specs.Io.KnownBytes.{Appends}
use Rattle.fvm_run.specs.Writing.{TakesPrefix}
use Rattle.fvm_run.specs.declared.command.Command.TheVariants.{Run, Check}
use Rattle.fvm_run.specs.declared.status.Status.TheVariants as status
use Rattle.fvm_run.proofs.Ends.{calm_of, complete_of, refused_of, text_of, words_calm, words_complete, words_text}
use Rattle.fvm_run.proofs.answering.answer.Goals as goal

pub returns-in-Some-Run-clause-done : goal.returns-in-Some-Run-clause-done
returns-in-Some-Run-clause-done g c = λ ended.
    text_of _ Run _ _ c.run_text.result (λ text. Appends (g.K.Sink.taken c.args.out.now) (g.K.Sink.taken c.finish.new.out) text)
    (sym c.command_of.ensures ∙ (c.in-Some-Run.is ∙ ap Some c.in-Some-Run.field-0-is))
    c.run_text.ensures.text c.run_text.ensures.at_end (c.finish.ensures.done ended)

pub returns-in-Some-Run-clause-written : goal.returns-in-Some-Run-clause-written
returns-in-Some-Run-clause-written g c = λ ended.
    text_of _ Run _ _ c.run_text.result (TakesPrefix (g.K.Sink.taken c.args.out.now) (g.K.Sink.taken c.finish.new.out))
    (sym c.command_of.ensures ∙ (c.in-Some-Run.is ∙ ap Some c.in-Some-Run.field-0-is))
    c.run_text.ensures.text c.run_text.ensures.at_end (c.finish.ensures.written ended)

pub returns-in-Some-Run-clause-refused : goal.returns-in-Some-Run-clause-refused
returns-in-Some-Run-clause-refused g c =
    refused_of _ Run _ _ _ _ c.run_text.result _ (sym c.command_of.ensures ∙ (c.in-Some-Run.is ∙ ap Some c.in-Some-Run.field-0-is))
    c.run_text.ensures.stop c.finish.ensures.ok c.finish.ensures.err

pub returns-in-Some-Run-clause-complete : goal.returns-in-Some-Run-clause-complete
returns-in-Some-Run-clause-complete g c =
    complete_of _ Run _ _ _ _ _ _ _ (sym c.command_of.ensures ∙ (c.in-Some-Run.is ∙ ap Some c.in-Some-Run.field-0-is))
    c.run_text.ensures.text c.run_text.ensures.stop c.finish.ensures.ok c.finish.ensures.err c.finish.ensures.write_fault

pub returns-in-Some-Run-clause-calm : goal.returns-in-Some-Run-clause-calm
returns-in-Some-Run-clause-calm g c =
    calm_of _ Run _ _ _ _ _ _ (sym c.command_of.ensures ∙ (c.in-Some-Run.is ∙ ap Some c.in-Some-Run.field-0-is))
    c.run_text.ensures.text c.run_text.ensures.at_end c.finish.ensures.calm c.finish.ensures.calm_stop

pub returns-in-Some-Check-clause-done : goal.returns-in-Some-Check-clause-done
returns-in-Some-Check-clause-done g c =
    words_text _ Check _ _ (λ text. Appends (g.K.Sink.taken c.args.out.now) (g.K.Sink.taken c.run_plain.new.out) text) _ _ status.Done
    (sym c.command_of.ensures ∙ (c.in-Some-Check.is ∙ ap Some c.in-Some-Check.field-0-is))
    c.no_cid-in-Some-Check.ensures.status c.run_plain.ensures.done

pub returns-in-Some-Check-clause-written : goal.returns-in-Some-Check-clause-written
returns-in-Some-Check-clause-written g c =
    words_text _ Check _ _ (TakesPrefix (g.K.Sink.taken c.args.out.now) (g.K.Sink.taken c.run_plain.new.out)) _ _ status.WriteFault
    (sym c.command_of.ensures ∙ (c.in-Some-Check.is ∙ ap Some c.in-Some-Check.field-0-is))
    c.no_cid-in-Some-Check.ensures.status c.run_plain.ensures.written

pub returns-in-Some-Check-clause-complete : goal.returns-in-Some-Check-clause-complete
returns-in-Some-Check-clause-complete g c =
    words_complete _ Check _ _ _ _ _ (sym c.command_of.ensures ∙ (c.in-Some-Check.is ∙ ap Some c.in-Some-Check.field-0-is))
    c.no_cid-in-Some-Check.ensures.status c.run_plain.ensures.complete

pub returns-in-Some-Check-clause-calm : goal.returns-in-Some-Check-clause-calm
returns-in-Some-Check-clause-calm g c =
    words_calm _ Check _ _ _ _ _ (sym c.command_of.ensures ∙ (c.in-Some-Check.is ∙ ap Some c.in-Some-Check.field-0-is)) c.run_plain.ensures.calm
