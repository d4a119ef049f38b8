use Rattle.std.proofs.Common.{ℕ, ◌+◌, subst, sym, arith}
use Rattle.tipset_exec.specs.Balances.{burned, with_more}
use Rattle.tipset_exec.specs.Funds.{IsWithin}
use Rattle.tipset_exec.specs.Stands.{Stands}
use Rattle.tipset_exec.proofs.message.settle.Goals as goal

pub overflow_add-fees : goal.overflow_add-fees
overflow_add-fees c = omega (arith, c.requires.2.burned)

pub burn-requires : goal.burn-requires
burn-requires c = (c.requires.0, c.requires.1, c.requires.2)

pub give-requires : goal.give-requires
give-requires c =
    let s = burned c.requires.0 (c.args.fees.now.base_burn + c.args.fees.now.over_burn) in
    (s, c.in_ok-burn.ensures c.requires.0 c.requires.1, subst (λ (id : ℕ). IsWithin (with_more s id c.args.fees.now.tip)) (sym c.reward.ensures) c.requires.3)

pub give-requires-2 : goal.give-requires-2
give-requires-2 c =
    let s = burned c.requires.0 (c.args.fees.now.base_burn + c.args.fees.now.over_burn) in
    let t = with_more s c.reward.result c.args.fees.now.tip in
    (t, c.in_ok-give.ensures s (c.in_ok-burn.ensures c.requires.0 c.requires.1), subst (λ (id : ℕ). IsWithin (with_more (with_more s id c.args.fees.now.tip) c.args.id c.args.fees.now.refund)) (sym c.reward.ensures) c.requires.4)

pub returns : goal.returns
returns c = λ s stands.
    let first = burned s (c.args.fees.now.base_burn + c.args.fees.now.over_burn) in
    let given = subst (λ (id : ℕ). Stands c.give.new.self c.args.base.now (with_more first id c.args.fees.now.tip)) c.reward.ensures (c.in_ok-give.ensures first (c.in_ok-burn.ensures s stands)) in
    c.give-2.ensures _ given
