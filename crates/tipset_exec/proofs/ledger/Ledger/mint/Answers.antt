use Rattle.std.proofs.Common.{ℕ, subst, sym}
use Rattle.tipset_exec.specs.Balances.{with_more}
use Rattle.tipset_exec.specs.Funds.{IsWithin}
use Rattle.tipset_exec.specs.Stands.{Stands}
use Rattle.tipset_exec.proofs.LedgerSteps.{mint_fits, mint_recorded, gift_of_minted}
use Rattle.tipset_exec.proofs.ledger.Ledger.mint.Goals as goal

pub give-requires : goal.give-requires
give-requires c =
    let s = c.requires.0 in
    (s, c.requires.1, subst (λ (id : ℕ). IsWithin (with_more s id c.args.amount)) (sym c.reward.ensures) (gift_of_minted s c.args.amount c.requires.2))

pub sum_of-self-requires : goal.sum_of-self-requires
sum_of-self-requires c =
    let s = c.requires.0 in
    let stands = subst (λ (id : ℕ). Stands c.give.new.self c.args.base.now (with_more s id c.args.amount)) c.reward.ensures (c.in_ok-give.ensures s c.requires.1) in
    mint_fits c.give.new.self c.args.base.now s c.args.amount stands c.requires.2

pub returns : goal.returns
returns c = λ s stands.
    let given = subst (λ (id : ℕ). Stands c.give.new.self c.args.base.now (with_more s id c.args.amount)) c.reward.ensures (c.in_ok-give.ensures s stands) in
    mint_recorded c.give.new.self c.args.base.now s c.args.amount c.sum_of-self.result given c.sum_of-self.ensures
