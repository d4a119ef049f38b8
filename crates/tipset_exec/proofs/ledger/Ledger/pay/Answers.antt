use Rattle.std.proofs.Common.{ℕ, eqb, OnOk, subst, sym, ap, ◌∙◌}
use Rattle.state_model.specs.State.{State}
use Rattle.tipset_exec.specs.Funds.{IsWithin}
use Rattle.tipset_exec.specs.Stands.{Stands}
use Rattle.tipset_exec.proofs.LedgerSteps.{paid_burned, paid_given}
use Rattle.tipset_exec.proofs.ledger.Ledger.pay.Goals as goal

pub burn-requires : goal.burn-requires
burn-requires c =
    let r = c.requires in
    (r.0, r.1, subst IsWithin (paid_burned r.0 c.args.id c.args.amount (sym (ap (λ (n : ℕ). eqb c.args.id n) c.burnt_funds.ensures) ∙ sym c.eq.ensures ∙ c.if-eq.true)) r.2)

pub returns-then-eq : goal.returns-then-eq
returns-then-eq c = λ s stands. subst (λ (t : State). OnOk c.burn.result (Stands c.burn.new.self c.args.base.now t)) (sym (paid_burned s c.args.id c.args.amount (sym (ap (λ (n : ℕ). eqb c.args.id n) c.burnt_funds.ensures) ∙ sym c.eq.ensures ∙ c.if-eq.true))) (c.burn.ensures s stands)

pub give-requires : goal.give-requires
give-requires c =
    let r = c.requires in
    (r.0, r.1, subst IsWithin (paid_given r.0 c.args.id c.args.amount (sym (ap (λ (n : ℕ). eqb c.args.id n) c.burnt_funds.ensures) ∙ sym c.eq.ensures ∙ c.if-eq.false)) r.2)

pub returns-else-eq : goal.returns-else-eq
returns-else-eq c = λ s stands. subst (λ (t : State). OnOk c.give.result (Stands c.give.new.self c.args.base.now t)) (sym (paid_given s c.args.id c.args.amount (sym (ap (λ (n : ℕ). eqb c.args.id n) c.burnt_funds.ensures) ∙ sym c.eq.ensures ∙ c.if-eq.false))) (c.give.ensures s stands)
