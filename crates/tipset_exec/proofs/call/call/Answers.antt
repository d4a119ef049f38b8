use Rattle.std.proofs.Common.{◌≡◌, ◌≤◌, ◌-◌, ℕ, is_err, false, true, sym, ap, ◌∙◌, arith}
use Rattle.std.specs.Option.{option_map}
use Rattle.gas_prices.specs.MeterState.{MeterState}
use Rattle.tipset_exec.proofs.EndSteps.{at_err, at_ok, no_receiver, no_value, not_short, out_of_gas, transferred}
use Rattle.tipset_exec.proofs.call.call.Goals as goal

pub returns-in_default-clause-end : goal.returns-in_default-clause-end
returns-in_default-clause-end c = λ s stands.
    no_receiver c.args.rules.now s c.args.meter.now.left c.args.from c.args.message.now c.new.result c.args.ledger.now c.args.base.now (sym (c.in_ok-receiver.ensures.found s stands) ∙ ap (option_map (λ r. r.0)) c.in_default.is) c.new.ensures stands

pub returns-then-number-eq0-clause-end : goal.returns-then-number-eq0-clause-end
returns-then-number-eq0-clause-end c = λ s stands.
    let there = sym (c.in_ok-receiver.ensures.found s stands) ∙ ap (option_map (λ r. r.0)) c.in-Some.is in
    no_value c.args.rules.now s c.args.meter.now.left c.args.from c.args.message.now c.in-Some.receiver.0 c.new-then-number-eq0.result c.args.ledger.now c.args.base.now there (omega (arith, c.if-number-eq0.true, c.number.ensures.value))
    c.new-then-number-eq0.ensures stands

pub returns-then-is_err-clause-end : goal.returns-then-is_err-clause-end
returns-then-is_err-clause-end c = λ s stands.
    let err : is_err c.charge.result ≡ true = sym c.is_err.ensures.value ∙ c.if-is_err.true in
    let empty = at_err c.charge.result _ err c.charge.ensures.emptied in
    let short = c.charge.ensures.refused.0 err in
    let there = sym (c.in_ok-receiver.ensures.found s stands) ∙ ap (option_map (λ r. r.0)) c.in-Some.is in
    out_of_gas c.args.rules.now s c.args.meter.now.left c.args.from c.args.message.now c.in-Some.receiver.0 c.new-then-is_err.result c.charge.new.self.left c.args.ledger.now c.args.base.now there (omega (arith, c.if-number-eq0.false, c.number.ensures.value))
    (omega (arith, short, c.of.ensures)) c.new-then-is_err.ensures (ap (λ (m : MeterState). m.left) empty) stands

pub transfer-requires : goal.transfer-requires
transfer-requires c =
    let r = c.requires in
    (r.0, r.1, rw c.in-Some.is at c.in_ok-receiver.ensures.actor r.0 r.1, r.2 c.in-Some.receiver.0)

pub returns-clause-end : goal.returns-clause-end
returns-clause-end c = λ s stands.
    let fine : is_err c.charge.result ≡ false = sym c.is_err.ensures.value ∙ c.if-is_err.false in
    let charged = at_ok c.charge.result _ fine c.charge.ensures.charged in
    let fits : c.of.result ≤ c.args.meter.now.left = not_short c.charge.result c.args.meter.now.left c.of.result fine c.charge.ensures.refused in
    let there = sym (c.in_ok-receiver.ensures.found s stands) ∙ ap (option_map (λ r. r.0)) c.in-Some.is in
    transferred c.transfer.result c.args.rules.now s c.args.meter.now.left c.args.from c.args.message.now c.in-Some.receiver.0 c.charge.new.self.left c.transfer.new.ledger c.args.base.now there
    (omega (arith, c.if-number-eq0.false, c.number.ensures.value)) (omega (arith, fits, c.of.ensures)) (ap (λ (m : MeterState). m.left) charged ∙ ap (λ (n : ℕ). c.args.meter.now.left - n) c.of.ensures.value) (c.transfer.ensures s c.charge.new.self.left stands (rw c.in-Some.is at c.in_ok-receiver.ensures.actor s stands))
