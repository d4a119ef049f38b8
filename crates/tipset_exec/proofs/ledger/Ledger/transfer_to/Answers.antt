use Rattle.std.proofs.Common.{◌≡◌, ℕ, false, eqb, OnOk, subst, sym, ap, ◌∙◌}
use Rattle.std.proofs.lemmas.Bool.{eqb-false}
use Rattle.state_model.specs.State.{State}
use Rattle.tipset_exec.specs.Balances.{burnt_funds_id, with_less}
use Rattle.tipset_exec.specs.Funds.{IsWithin}
use Rattle.tipset_exec.specs.Stands.{Stands}
use Rattle.tipset_exec.proofs.Changes.{other_actor}
use Rattle.tipset_exec.proofs.LedgerSteps.{paid_given}
use Rattle.tipset_exec.proofs.ledger.Ledger.transfer_to.Goals as goal

pub give_to-requires : goal.give_to-requires
give_to-requires c =
    let r = c.requires in
    let less = with_less r.0 c.args.from c.args.amount in
    let burnt : eqb c.args.to.0 burnt_funds_id ≡ false = sym (ap (λ (n : ℕ). eqb c.args.to.0 n) c.burnt_funds.ensures) ∙ sym c.eq-else-eq.ensures ∙ c.if-eq-2.false in
    (less, c.in_ok-take.ensures r.0 r.1, other_actor r.0 c.args.from c.args.to.0 _ (eqb-false c.args.to.0 c.args.from (sym c.eq.ensures ∙ c.if-eq.false)) ∙ r.2, subst IsWithin (paid_given less c.args.to.0 c.args.amount burnt) r.4)

pub returns : goal.returns
returns c = λ s stands there.
    let less = with_less s c.args.from c.args.amount in
    let burnt : eqb c.args.to.0 burnt_funds_id ≡ false = sym (ap (λ (n : ℕ). eqb c.args.to.0 n) c.burnt_funds.ensures) ∙ sym c.eq-else-eq.ensures ∙ c.if-eq-2.false in
    subst (λ (t : State). OnOk c.give_to.result (Stands c.give_to.new.self c.args.base.now t)) (sym (paid_given less c.args.to.0 c.args.amount burnt))
    (c.give_to.ensures less (c.in_ok-take.ensures s stands) (other_actor s c.args.from c.args.to.0 _ (eqb-false c.args.to.0 c.args.from (sym c.eq.ensures ∙ c.if-eq.false)) ∙ there))
