use Rattle.std.proofs.Common.{take, List, subst, sym, arith}
use Rattle.std.proofs.lemmas.List.{take_all}
use Rattle.fil_message.specs.Tipsets.{IsShortMessage}
use Rattle.fil_message.specs.declared.message.Message.{Message}
use Rattle.tipset_exec.specs.Progress.{StandsFor}
use Rattle.tipset_exec.specs.Tipsets.{with_messages}
use Rattle.tipset_exec.proofs.RunSteps.{messages_funded, messages_more, no_messages}
use Rattle.tipset_exec.proofs.tipset.run_messages.Goals as goal

pub loop-i-init : goal.loop-i-init
loop-i-init c = λ run stands. subst (StandsFor c.args.progress.now c.args.base.now) (sym (no_messages c.args.rules.now c.args.tipset.now c.args.block run 0)) stands

pub run_message-requires-clause-funded : goal.run_message-requires-clause-funded
run_message-requires-clause-funded c =
    let r = c.requires.funded in
    let front = take c.loop-i.i c.args.messages.now in (
      with_messages c.args.rules.now c.args.tipset.now c.args.block r.0 0 front,
      r.1,
      c.loop-i.invariant r.0 r.2,
      messages_funded c.args.rules.now c.args.tipset.now c.args.block r.0 0 front r.1 r.3,
    )

pub run_message-requires-clause-message : goal.run_message-requires-clause-message
run_message-requires-clause-message c = subst IsShortMessage (sym c.index-messages-i.is) (c.requires.messages c.loop-i.i c.index-messages-i.result c.loop-i-test.true)

pub loop-i-preserved : goal.loop-i-preserved
loop-i-preserved c = λ run stands.
    let ms = c.args.messages.now in
    let front = with_messages c.args.rules.now c.args.tipset.now c.args.block run 0 (take c.loop-i.i ms) in
    subst (StandsFor c.run_message.new.progress c.args.base.now) (sym (messages_more c.args.rules.now c.args.tipset.now c.args.block run ms c.loop-i.i c.index-messages-i.result c.loop-i-test.true c.index-messages-i.is))
    (c.in_ok-run_message.ensures front (c.loop-i.invariant run stands))

pub returns : goal.returns
returns c = λ run stands.
    let ms = c.args.messages.now in
    let all = take_all c.loop-i.i ms (omega (arith, c.loop-i-test.false)) in
    subst (λ (front : List Message). StandsFor c.loop-i.progress c.args.base.now (with_messages c.args.rules.now c.args.tipset.now c.args.block run 0 front)) all (c.loop-i.invariant run stands)
