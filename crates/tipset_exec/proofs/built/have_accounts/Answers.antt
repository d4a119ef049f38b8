use Rattle.std.proofs.Common.{◌≡◌, Bool, true, false, sym, ap, ◌∙◌, arith}
use Rattle.std.proofs.lemmas.Bool.{and_from}
use Rattle.std.proofs.lemmas.List.{take_all}
use Rattle.std.proofs.lemmas.List.Folds.{list_all_at, list_all_more}
use Rattle.std.specs.List.{list_all}
use Rattle.fil_message.specs.declared.message.Message.{Message}
use Rattle.tipset_exec.specs.Alone.{has_account}
use Rattle.tipset_exec.proofs.built.have_accounts.Goals as goal

pub returns-then-not-branch : goal.returns-then-not-branch
returns-then-not-branch c = λ s stands.
    let p : Message → Bool = λ m. has_account s m.to in
    let none : p c.message-item.result ≡ false = sym (c.in_ok-has_account.ensures s stands) ∙ c.if-not-branch.true in
    sym (list_all_at p c.args.messages.now c.loop-message.message-index c.message-item.result c.loop-message-test.true (ap p (sym c.message-item.is) ∙ none))

pub loop-message-preserved : goal.loop-message-preserved
loop-message-preserved c = λ s stands.
    let p : Message → Bool = λ m. has_account s m.to in
    let has : p c.message-item.result ≡ true = sym (c.in_ok-has_account.ensures s stands) ∙ c.if-not-branch.false in
    list_all_more p c.args.messages.now c.loop-message.message-index c.message-item.result c.loop-message-test.true
    ∙ and_from _ _ (c.loop-message.invariant s stands) (ap p (sym c.message-item.is) ∙ has)

pub returns : goal.returns
returns c = λ s stands.
    let p : Message → Bool = λ m. has_account s m.to in
    sym (ap (list_all p) (sym (take_all c.loop-message.message-index c.args.messages.now (omega (arith, c.loop-message-test.false)))) ∙ c.loop-message.invariant s stands)
