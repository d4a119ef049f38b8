use Rattle.std.proofs.Common.{◌≡◌, ℕ, ◌+◌, ◌*◌, ◌≤◌, subst, ap, ◌∙◌, arith}
use Rattle.std.proofs.lemmas.Result.{IfOk-weaker}
use Rattle.gas_prices.specs.declared.price.Price.TheVariants as price
use Rattle.tipset_exec.specs.Calls.{price_of}
use Rattle.tipset_exec.specs.Ends.{IsJudged, IsOutcome}
use Rattle.tipset_exec.specs.Messages.{applied, call_end, ended, inclusion_gas, set_aside}
use Rattle.tipset_exec.proofs.MessageSteps.{ran, refused_fault, refused_short}
use Rattle.tipset_exec.proofs.Senders.{sender_is}
use Rattle.tipset_exec.proofs.message.apply.Goals as goal

pub returns-then-number-inclusion : goal.returns-then-number-inclusion
returns-then-number-inclusion c = λ s stands.
    let rules = c.args.rules.now in
    let m = c.args.message.now in
    let gas : c.inclusion_gas-inclusion.result ≡ inclusion_gas rules m =
    c.inclusion_gas-inclusion.ensures ∙ ap (λ (n : ℕ). price_of rules price.Include + price_of rules price.IncludeByte * n) c.requires.size in
    refused_short rules c.args.tipset.now s m c.inclusion_gas-inclusion.result c.not_run.result c.args.ledger.now c.args.base.now gas (omega (arith, c.if-number-inclusion.true, c.number.ensures)) stands c.not_run.ensures

pub run-requires-clause-inclusion : goal.run-requires-clause-inclusion
run-requires-clause-inclusion c =
    let rules = c.args.rules.now in
    c.inclusion_gas-inclusion.ensures ∙ ap (λ (n : ℕ). price_of rules price.Include + price_of rules price.IncludeByte * n) c.requires.size

pub run-requires-clause-sender : goal.run-requires-clause-sender
run-requires-clause-sender c =
    let r = c.requires.funded in
    let j = subst (IsJudged c.args.rules.now r.0 c.args.message.now) c.in-Ok.is (c.in_ok-exit.ensures r.0 r.3) in
    (r.0, r.1, r.2, r.3, sender_is c.args.rules.now r.0 c.args.message.now c.in-Ok.sender.0 c.in-Ok.sender.1 j.0 j.1, r.4)

pub returns-in-Err : goal.returns-in-Err
returns-in-Err c = λ s stands.
    let rules = c.args.rules.now in
    let m = c.args.message.now in
    let gas : c.inclusion_gas-inclusion.result ≡ inclusion_gas rules m =
    c.inclusion_gas-inclusion.ensures ∙ ap (λ (n : ℕ). price_of rules price.Include + price_of rules price.IncludeByte * n) c.requires.size in
    let fault = subst (IsJudged rules s m) c.in-Err.is (c.in_ok-exit.ensures s stands) in
    refused_fault rules c.args.tipset.now s m c.in-Err.exit c.inclusion_gas-inclusion.result c.not_run-in-Err.result c.args.ledger.now c.args.base.now gas (omega (arith, c.if-number-inclusion.false, c.number.ensures)) fault stands
    c.not_run-in-Err.ensures

pub returns-in-Ok : goal.returns-in-Ok
returns-in-Ok c = λ s stands.
    let rules = c.args.rules.now in
    let t = c.args.tipset.now in
    let m = c.args.message.now in
    let id = c.in-Ok.sender.0 in
    let gas : c.inclusion_gas-inclusion.result ≡ inclusion_gas rules m =
    c.inclusion_gas-inclusion.ensures ∙ ap (λ (n : ℕ). price_of rules price.Include + price_of rules price.IncludeByte * n) c.requires.size in
    let fits : c.inclusion_gas-inclusion.result ≤ m.limit = omega (arith, c.if-number-inclusion.false, c.number.ensures) in
    let j = subst (IsJudged rules s m) c.in-Ok.is (c.in_ok-exit.ensures s stands) in
    IfOk-weaker c.run.result (λ o. IsOutcome o c.run.new.ledger c.args.base.now (ended t id m (call_end rules (set_aside s id m) id m))) (λ o. IsOutcome o c.run.new.ledger c.args.base.now (applied rules t s m))
    (λ o is. ran rules t s m id c.in-Ok.sender.1 c.inclusion_gas-inclusion.result o c.run.new.ledger c.args.base.now gas fits j.0 j.1 is) (c.run.ensures s stands (sender_is rules s m id c.in-Ok.sender.1 j.0 j.1).there)
