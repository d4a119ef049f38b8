use Rattle.std.proofs.Common.{Some, ap}
use Rattle.std.specs.Io.KnownBytes.{Appends}
use Rattle.fvm_run.specs.Writing.{TakesPrefix}
use Rattle.fvm_run.specs.declared.command.Command.TheVariants.{Check}
use Rattle.fvm_run.proofs.Ends.{calm_of, complete_of, text_of}
use Rattle.fvm_run.proofs.plain.run_plain.Goals as goal

pub returns-clause-done : goal.returns-clause-done
returns-clause-done g c = λ ended.
    text_of (Some c.args.command.now) Check _ _ c.check_text.result
    (λ text. Appends (g.K.Sink.taken c.args.out.now) (g.K.Sink.taken c.finish-status.new.out) text)
    (ap Some c.in-Check.is) c.check_text.ensures.text c.check_text.ensures.at_end (c.finish-status.ensures.done ended)

pub returns-clause-written : goal.returns-clause-written
returns-clause-written g c = λ ended.
    text_of (Some c.args.command.now) Check _ _ c.check_text.result
    (TakesPrefix (g.K.Sink.taken c.args.out.now) (g.K.Sink.taken c.finish-status.new.out))
    (ap Some c.in-Check.is) c.check_text.ensures.text c.check_text.ensures.at_end (c.finish-status.ensures.written ended)

pub returns-clause-complete : goal.returns-clause-complete
returns-clause-complete g c =
    complete_of (Some c.args.command.now) Check _ _ _ _ _ _ _ (ap Some c.in-Check.is)
    c.check_text.ensures.text c.check_text.ensures.stop c.finish-status.ensures.ok c.finish-status.ensures.err c.finish-status.ensures.write_fault

pub returns-clause-calm : goal.returns-clause-calm
returns-clause-calm g c =
    calm_of (Some c.args.command.now) Check _ _ _ _ _ _ (ap Some c.in-Check.is)
    c.check_text.ensures.text c.check_text.ensures.at_end c.finish-status.ensures.calm c.finish-status.ensures.calm_stop
