use Rattle.std.proofs.Common.{◌≡◌, ℕ, ◌+◌, ◌-◌, OnOk, subst, sym, arith}
use Rattle.state_model.specs.State.{State}
use Rattle.tipset_exec.specs.Balances.{burnt_funds_id, minted, moved, reward_id}
use Rattle.tipset_exec.specs.Funds.{IsWithin}
use Rattle.tipset_exec.specs.Stands.{Stands}
use Rattle.tipset_exec.specs.Tipsets.{awarded, payee}
use Rattle.tipset_exec.proofs.Funded.{within_range}
use Rattle.tipset_exec.proofs.LedgerSteps.{can_move, same_move}
use Rattle.tipset_exec.proofs.RunSteps.{award_funded, owed_of}
use Rattle.tipset_exec.proofs.tipset.pay_award.Goals as goal

pub mint-requires : goal.mint-requires
mint-requires c =
    let r = c.requires in
    let f = award_funded r.0 r.1 c.args.block.now c.args.tips c.args.penalties r.2 r.4 in
    (r.1, r.3, subst (λ (n : ℕ). IsWithin (minted r.1 n)) (sym c.number.ensures.value) f.after_minting)

pub overflow_add-earned : goal.overflow_add-earned
overflow_add-earned c =
    let r = c.requires in
    let f = award_funded r.0 r.1 c.args.block.now c.args.tips c.args.penalties r.2 r.4 in
    omega (arith, f.earned, c.number-2.ensures.value)

pub transfer-requires : goal.transfer-requires
transfer-requires c =
    let r = c.requires in
    let b = c.args.block.now in
    let f = award_funded r.0 r.1 b c.args.tips c.args.penalties r.2 r.4 in
    let first = subst (λ (n : ℕ). Stands c.mint.new.self c.args.base.now (minted r.1 n)) c.number.ensures.value (c.in_ok-mint.ensures r.1 r.3) in
    let owed : c.min-owed.result ≡ owed_of b c.args.tips c.args.penalties = omega (arith, c.min-owed.ensures, c.number-2.ensures.value) in
    can_move c.mint.new.self c.args.base.now (minted r.1 b.award) c.reward.result reward_id c.burnt_funds.result burnt_funds_id c.min-owed.result (owed_of b c.args.tips c.args.penalties) c.reward.ensures c.burnt_funds.ensures owed first f.owed f.after_burning

pub overflow_sub-earned : goal.overflow_sub-earned
overflow_sub-earned c = omega (arith, c.min-owed.ensures)

pub transfer-requires-2 : goal.transfer-requires-2
transfer-requires-2 c =
    let r = c.requires in
    let b = c.args.block.now in
    let f = award_funded r.0 r.1 b c.args.tips c.args.penalties r.2 r.4 in
    let first = subst (λ (n : ℕ). Stands c.mint.new.self c.args.base.now (minted r.1 n)) c.number.ensures.value (c.in_ok-mint.ensures r.1 r.3) in
    let owed : c.min-owed.result ≡ owed_of b c.args.tips c.args.penalties = omega (arith, c.min-owed.ensures, c.number-2.ensures.value) in
    let burned = same_move (minted r.1 b.award) c.reward.result reward_id c.burnt_funds.result burnt_funds_id c.min-owed.result (owed_of b c.args.tips c.args.penalties) c.reward.ensures c.burnt_funds.ensures owed in
    let second = subst (Stands c.transfer.new.self c.args.base.now) burned (c.in_ok-transfer.ensures (minted r.1 b.award) first) in
    let rest : c.number-2.result + c.args.tips - c.min-owed.result ≡ b.award + c.args.tips - owed_of b c.args.tips c.args.penalties = omega (arith, owed, c.number-2.ensures.value) in
    can_move c.transfer.new.self c.args.base.now (moved (minted r.1 b.award) reward_id burnt_funds_id (owed_of b c.args.tips c.args.penalties)) c.reward-2.result reward_id c.in_ok-payee.payee (payee r.1 b.miner)
    (c.number-2.result + c.args.tips - c.min-owed.result) (b.award + c.args.tips - owed_of b c.args.tips c.args.penalties) c.reward-2.ensures (c.in_ok-payee.ensures r.1 r.3) rest second f.kept (within_range r.0 (awarded r.1 b c.args.tips c.args.penalties) 0 r.2 0 f.after_all)

pub returns : goal.returns
returns c = λ s stands.
    let b = c.args.block.now in
    let first = subst (λ (n : ℕ). Stands c.mint.new.self c.args.base.now (minted s n)) c.number.ensures.value (c.in_ok-mint.ensures s stands) in
    let owed : c.min-owed.result ≡ owed_of b c.args.tips c.args.penalties = omega (arith, c.min-owed.ensures, c.number-2.ensures.value) in
    let burned = same_move (minted s b.award) c.reward.result reward_id c.burnt_funds.result burnt_funds_id c.min-owed.result (owed_of b c.args.tips c.args.penalties) c.reward.ensures c.burnt_funds.ensures owed in
    let second = subst (Stands c.transfer.new.self c.args.base.now) burned (c.in_ok-transfer.ensures (minted s b.award) first) in
    let rest : c.number-2.result + c.args.tips - c.min-owed.result ≡ b.award + c.args.tips - owed_of b c.args.tips c.args.penalties = omega (arith, owed, c.number-2.ensures.value) in
    let middle = moved (minted s b.award) reward_id burnt_funds_id (owed_of b c.args.tips c.args.penalties) in
    let paid = same_move middle c.reward-2.result reward_id c.in_ok-payee.payee (payee s b.miner) (c.number-2.result + c.args.tips - c.min-owed.result) (b.award + c.args.tips - owed_of b c.args.tips c.args.penalties) c.reward-2.ensures (c.in_ok-payee.ensures s stands) rest in
    subst (λ (t : State). OnOk c.transfer-2.result (Stands c.transfer-2.new.self c.args.base.now t)) paid (c.transfer-2.ensures middle second)
