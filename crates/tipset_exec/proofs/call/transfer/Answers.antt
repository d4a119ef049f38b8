use Rattle.std.proofs.Common.{◌≤◌, ℕ, subst, sym, arith}
use Rattle.tipset_exec.specs.Balances.{moved}
use Rattle.tipset_exec.specs.Funds.{IsWithin, held}
use Rattle.tipset_exec.specs.Stands.{Stands}
use Rattle.tipset_exec.proofs.EndSteps.{moved_end, no_funds}
use Rattle.tipset_exec.proofs.call.transfer.Goals as goal

pub returns-then-number : goal.returns-then-number
returns-then-number c = λ s gas stands there.
    no_funds s gas c.args.from c.args.to.0 c.args.value c.new.result c.args.ledger.now c.args.base.now (omega (arith, c.in_ok-balance.ensures s stands, c.number.ensures.value, c.number-2.ensures.value, c.if-number.true)) c.new.ensures stands

pub transfer_to-requires : goal.transfer_to-requires
transfer_to-requires c =
    let r = c.requires in
    let n = c.number-3.ensures.value in
    let fits : c.args.value ≤ held r.0 c.args.from = omega (arith, c.in_ok-balance.ensures r.0 r.1, c.number.ensures.value, c.number-2.ensures.value, c.if-number.false) in
    (r.0, r.1, r.2, subst (λ (k : ℕ). k ≤ held r.0 c.args.from) (sym n) fits, subst (λ (k : ℕ). IsWithin (moved r.0 c.args.from c.args.to.0 k)) (sym n) (r.3 fits))

pub returns : goal.returns
returns c = λ s gas stands there.
    let fits : c.args.value ≤ held s c.args.from = omega (arith, c.in_ok-balance.ensures s stands, c.number.ensures.value, c.number-2.ensures.value, c.if-number.false) in
    let after = subst (λ (n : ℕ). Stands c.transfer_to.new.self c.args.base.now (moved s c.args.from c.args.to.0 n)) c.number-3.ensures.value (c.in_ok-transfer_to.ensures s stands there) in
    moved_end s gas c.args.from c.args.to.0 c.args.value c.new-2.result c.transfer_to.new.self c.args.base.now fits c.new-2.ensures after
