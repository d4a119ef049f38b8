use Rattle.std.proofs.Common.{◌≡◌, ℕ, ◌+◌, ◌-◌, Some, refl, sym, ap, ◌∙◌, arith}
use Rattle.state_tree.specs.declared.actor.Actor.{Actor}
use Rattle.tipset_exec.specs.Messages.{greatest_cost}
use Rattle.tipset_exec.proofs.LedgerSteps.{put_if_done}
use Rattle.tipset_exec.proofs.ledger.Ledger.set_aside.Goals as goal

pub rest_of-balance-requires : goal.rest_of-balance-requires
rest_of-balance-requires c = omega (arith, c.greatest_cost.ensures, c.requires.balance)

pub with_next_sequence-requires : goal.with_next_sequence-requires
with_next_sequence-requires c = omega (arith, ap (λ (a : Actor). a.sequence) c.with_balance.ensures, c.requires.sequence)

pub returns : goal.returns
returns c = λ s stands there.
    let m = c.args.message.now in
    let changed : Actor → Actor = λ a. record a { sequence = a.sequence + 1; balance = a.balance - greatest_cost m } in
    let balance : c.rest_of-balance.result ≡ c.args.actor.balance - greatest_cost m = c.rest_of-balance.ensures ∙ ap (λ (n : ℕ). c.args.actor.balance - n) c.greatest_cost.ensures in
    let first = c.with_balance.ensures ∙ ap (λ (n : ℕ). record c.args.actor { balance = n }) balance in
    let whole : c.with_next_sequence.result ≡ changed c.args.actor = c.with_next_sequence.ensures ∙ ap (λ (a : Actor). record a { sequence = a.sequence + 1 }) first in
    put_if_done c.put.result c.put.new.self c.args.base.now s c.args.id changed (Some c.args.actor) c.args.actor c.with_next_sequence.result (sym there) refl whole (c.put.ensures s stands)
