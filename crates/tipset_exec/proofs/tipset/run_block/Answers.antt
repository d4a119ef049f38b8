use Rattle.std.proofs.Common.{ℕ, ◌+◌, List, subst, sym}
use Rattle.std.proofs.lemmas.Result.{on_ok_weaker}
use Rattle.fil_message.specs.declared.message.Message.{Message}
use Rattle.tipset_exec.specs.Funds.{IsFunded}
use Rattle.tipset_exec.specs.Progress.{StandsFor}
use Rattle.tipset_exec.specs.Tipsets.{Run, with_messages}
use Rattle.tipset_exec.proofs.ProgressSteps.{awarded_stands, reset_stands}
use Rattle.tipset_exec.proofs.RunSteps.{messages_funded}
use Rattle.tipset_exec.proofs.tipset.run_block.Goals as goal

pub run_messages-requires-clause-funded : goal.run_messages-requires-clause-funded
run_messages-requires-clause-funded c =
    let r = c.requires.funded in
    let start : Run = record r.0 { tips = 0; penalties = 0 } in
    (start, c.args.block.now.award + r.1, reset_stands c.args.progress.now c.args.base.now r.0 r.2, r.3)

pub pay_award-requires : goal.pay_award-requires
pay_award-requires c =
    let r = c.requires.funded in
    let rules = c.args.rules.now in
    let t = c.args.tipset.now in
    let start : Run = record r.0 { tips = 0; penalties = 0 } in
    let ms = c.as_slice.result.now in
    let end = with_messages rules t c.args.place start 0 ms in
    let due = c.args.block.now.award + r.1 in
    let stands = c.in_ok-run_messages.ensures start (reset_stands c.args.progress.now c.args.base.now r.0 r.2) in
    let funded = messages_funded rules t c.args.place start 0 ms due r.3 in
    (rules.codes.account, end.state, r.1, stands.ledger, subst (λ (tips : ℕ). IsFunded rules.codes.account end.state 0 due tips) (sym stands.tips) funded)

pub returns : goal.returns
returns c = λ run stands.
    let rules = c.args.rules.now in
    let t = c.args.tipset.now in
    let start : Run = record run { tips = 0; penalties = 0 } in
    let ended : StandsFor c.run_messages.new.progress c.args.base.now (with_messages rules t c.args.place start 0 c.args.block.now.messages) =
    subst (λ (ms : List Message). StandsFor c.run_messages.new.progress c.args.base.now (with_messages rules t c.args.place start 0 ms)) c.as_slice.ensures
    (c.in_ok-run_messages.ensures start (reset_stands c.args.progress.now c.args.base.now run stands)) in
    let end = with_messages rules t c.args.place start 0 c.args.block.now.messages in
    on_ok_weaker c.pay_award.result (awarded_stands c.run_messages.new.progress c.pay_award.new.ledger c.args.base.now end c.args.block.now ended) (c.pay_award.ensures end.state ended.ledger)
