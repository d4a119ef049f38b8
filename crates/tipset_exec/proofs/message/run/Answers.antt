use Rattle.std.proofs.Common.{ℕ, ◌-◌, ap, ◌∙◌, arith}
use Rattle.tipset_exec.specs.Messages.{call_end, set_aside}
use Rattle.tipset_exec.proofs.MessageSteps.{call_fits, can_settle, next_fits, outcome_is, same_fees}
use Rattle.tipset_exec.proofs.message.run.Goals as goal

pub set_aside-requires-clause-sequence : goal.set_aside-requires-clause-sequence
set_aside-requires-clause-sequence c = let r = c.requires.sender in next_fits c.args.rules.now r.0 c.args.message.now c.args.sender.0 c.args.sender.1 c.requires.message r.4

pub set_aside-requires-clause-balance : goal.set_aside-requires-clause-balance
set_aside-requires-clause-balance c = c.requires.sender.4.enough

pub run_call-requires-clause-state : goal.run_call-requires-clause-state
run_call-requires-clause-state c =
    let r = c.requires.sender in
    (set_aside r.0 c.args.sender.0 c.args.message.now, c.in_ok-set_aside.ensures r.0 r.3 r.4.there, call_fits c.args.rules.now r.0 c.args.message.now c.args.sender.0 c.args.sender.1 r.1 r.2 r.4 r.5)

pub run_call-requires-clause-limit : goal.run_call-requires-clause-limit
run_call-requires-clause-limit c = c.new-meter.ensures.left

pub outputs-fees-requires-clause-within_limit : goal.outputs-fees-requires-clause-within_limit
outputs-fees-requires-clause-within_limit c = omega (arith, c.used-used.ensures.used, c.in_ok-exit.ensures.limit, c.new-meter.ensures.limit)

pub outputs-fees-requires-clause-within_block : goal.outputs-fees-requires-clause-within_block
outputs-fees-requires-clause-within_block c = c.requires.message.limit

pub settle-requires : goal.settle-requires
settle-requires c =
    let r = c.requires.sender in
    let m = c.args.message.now in
    let s = set_aside r.0 c.args.sender.0 m in
    let end = c.in_ok-exit.ensures.end s (c.in_ok-set_aside.ensures r.0 r.3 r.4.there) in
    let used = c.used-used.ensures.used ∙ ap (λ (n : ℕ). n - c.run_call.new.meter.left) (c.in_ok-exit.ensures.limit ∙ c.new-meter.ensures.limit) in
    let fees = same_fees c.args.tipset.now m (call_end c.args.rules.now s c.args.sender.0 m) c.used-used.result c.run_call.new.meter.left c.outputs-fees.result used end.gas c.outputs-fees.ensures.fees in
    can_settle c.args.rules.now c.args.tipset.now r.0 m c.args.sender.0 c.args.sender.1 r.1 r.2 c.run_call.new.ledger c.args.base.now c.outputs-fees.result r.4 r.5 fees end.state

pub returns : goal.returns
returns c = λ s stands there.
    let m = c.args.message.now in
    let start = set_aside s c.args.sender.0 m in
    let whole = call_end c.args.rules.now start c.args.sender.0 m in
    let end = c.in_ok-exit.ensures.end start (c.in_ok-set_aside.ensures s stands there) in
    let used = c.used-used.ensures.used ∙ ap (λ (n : ℕ). n - c.run_call.new.meter.left) (c.in_ok-exit.ensures.limit ∙ c.new-meter.ensures.limit) in
    let fees = same_fees c.args.tipset.now m whole c.used-used.result c.run_call.new.meter.left c.outputs-fees.result used end.gas c.outputs-fees.ensures.fees in
    outcome_is c.args.tipset.now c.args.sender.0 m whole c.in_ok-exit.exit c.used-used.result c.run_call.new.meter.left c.outputs-fees.result c.settle.new.ledger c.args.base.now end.exit end.returned end.invocations used end.gas fees
    (c.in_ok-settle.ensures whole.state end.state)
