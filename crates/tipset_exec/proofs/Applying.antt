-- What a message does, case by case, and that it keeps a state funded.
use Rattle.std.proofs.Common.{◌≡◌, ℕ, ◌+◌, ◌-◌, ◌≤◌, [], true, false, Some, None, refl, sym, ap, subst, ◌∙◌, arith}
use Rattle.std.specs.Prelude.{nat_lt}
use Rattle.fee_rules.specs.declared.fees.Fees.{Fees}
use Rattle.fil_base.specs.CidParts.{CidParts}
use Rattle.fil_base.specs.declared.exit_code.TheConstants.{SYS_SENDER_INVALID}
use Rattle.fil_message.specs.declared.message.Message.{Message}
use Rattle.fil_message.specs.declared.tipset.Tipset.{Tipset}
use Rattle.gas_prices.specs.declared.rules.Rules.{Rules}
use Rattle.state_model.specs.State.{State}
use Rattle.state_tree.specs.declared.actor.Actor.{Actor}
use Rattle.tipset_exec.specs.Balances.{burned, reward_id, with_more}
use Rattle.tipset_exec.specs.Calls.{CallEnd}
use Rattle.tipset_exec.specs.Ends.{IsSender}
use Rattle.tipset_exec.specs.Funds.{IsFunded, IsWithin}
use Rattle.tipset_exec.specs.Messages.{Applied, applied, call_end, ended, fees_of, greatest_cost, inclusion_gas, not_run, sender_fault, sender_of, set_aside, settled}
use Rattle.tipset_exec.specs.declared.exit.TheConstants.{SYS_OUT_OF_GAS}
use Rattle.tipset_exec.proofs.CallSteps.{call_funded}
use Rattle.tipset_exec.proofs.Fees.{whole_fees}
use Rattle.tipset_exec.proofs.Funded.{aside_funded, burn_funded, give_funded, tip_funded, with_fewer, within_range}
use Rattle.tipset_exec.proofs.Senders.{no_reward, sender_is}

-- ---- cases

pub applied_short : (rules : Rules) (t : Tipset) (s : State) (m : Message) → nat_lt m.limit (inclusion_gas rules m) ≡ true → applied rules t s m ≡ not_run rules t s m SYS_OUT_OF_GAS
unfolding applied
applied_short rules t s m short = rw short refl

pub applied_fault : (rules : Rules) (t : Tipset) (s : State) (m : Message) (exit : ℕ) → nat_lt m.limit (inclusion_gas rules m) ≡ false → sender_fault rules m (sender_of s m) ≡ Some exit
    → applied rules t s m ≡ not_run rules t s m exit
unfolding applied
applied_fault rules t s m exit enough fault = rw (enough, fault) refl

run_as : (rules : Rules) (t : Tipset) (s : State) (m : Message) (id : ℕ) (actor : Actor) (done : Applied) → nat_lt m.limit (inclusion_gas rules m) ≡ false → sender_of s m ≡ Some (id, actor)
    → sender_fault rules m (Some (id, actor)) ≡ None → ended t id m (call_end rules (set_aside s id m) id m) ≡ done → applied rules t s m ≡ done
unfolding applied
run_as rules t s m id actor done enough found none is = rw (enough, found, none) is

pub applied_run : (rules : Rules) (t : Tipset) (s : State) (m : Message) (id : ℕ) (actor : Actor) → nat_lt m.limit (inclusion_gas rules m) ≡ false → sender_of s m ≡ Some (id, actor)
    → sender_fault rules m (Some (id, actor)) ≡ None → applied rules t s m ≡ ended t id m (call_end rules (set_aside s id m) id m)
applied_run rules t s m id actor enough found none = run_as rules t s m id actor (ended t id m (call_end rules (set_aside s id m) id m)) enough found none refl

-- ---- a message that runs

-- what is burned, the tip, and what is given back
pub record FeesFunded (account : CidParts) (s : State) (id : ℕ) (fees : Fees) (due : ℕ) (tips : ℕ) : Type 0 where
  pub after_burn : IsWithin (burned s (fees.base_burn + fees.over_burn))
  pub after_tip : IsWithin (with_more (burned s (fees.base_burn + fees.over_burn)) reward_id fees.tip)
  pub after_all : IsFunded account (settled s id fees) 0 due (fees.tip + tips)

fees_funded : (account : CidParts) (s : State) (id : ℕ) (fees : Fees) (cost due tips : ℕ) → (fees.base_burn + fees.over_burn) + (fees.tip + fees.refund) ≡ cost → IsFunded account s (cost + 0) due tips
    → FeesFunded account s id fees due tips
fees_funded account s id fees cost due tips whole is =
    let burn = fees.base_burn + fees.over_burn in
    let parts = with_fewer account s (cost + 0) due tips (burn + (fees.tip + (fees.refund + 0))) due tips is (omega (arith, whole)) (omega arith) (omega arith) in
    let first = burn_funded account s burn (fees.tip + (fees.refund + 0)) due tips parts in
    let second = tip_funded account (burned s burn) fees.tip (fees.refund + 0) due tips first in
    record {
      after_burn = within_range account (burned s burn) (fees.tip + (fees.refund + 0)) due tips first;
      after_tip = within_range account (with_more (burned s burn) reward_id fees.tip) (fees.refund + 0) due (fees.tip + tips) second;
      after_all = give_funded account (with_more (burned s burn) reward_id fees.tip) id fees.refund 0 due (fees.tip + tips) second;
    }

-- the call's end is over a funded state, and so is the state once the gas is paid
pub record RunFunded (account : CidParts) (t : Tipset) (id : ℕ) (m : Message) (due : ℕ) (tips : ℕ) (end : CallEnd) : Type 0 where
  pub returned : end.returned ≡ []
  pub invocations : end.invocations ≡ 0
  pub fees : FeesFunded account end.state id (fees_of t m end) due tips

pub run_funded : (rules : Rules) (t : Tipset) (s : State) (m : Message) (id : ℕ) (actor : Actor) (due tips : ℕ) → IsSender rules s m id actor → IsFunded rules.codes.account s 0 due tips
    → RunFunded rules.codes.account t id m due tips (call_end rules (set_aside s id m) id m)
run_funded rules t s m id actor due tips sender is =
    let account = rules.codes.account in
    let no = no_reward rules s m id actor sender is.reward in
    let aside = aside_funded account s id m actor 0 due tips sender.there sender.enough no sender.other is in
    let end = call_end rules (set_aside s id m) id m in
    let over = call_funded account rules (set_aside s id m) id m (greatest_cost m + 0) due tips no sender.other aside in
    let whole = whole_fees (m.limit - end.gas) m.limit t.base_fee m.cap m.premium (omega arith) in
    record {
      returned = over.returned;
      invocations = over.invocations;
      fees = fees_funded account end.state id (fees_of t m end) (greatest_cost m) due tips whole over.state;
    }

-- ---- any message

-- a message returned nothing, ran no code and left a funded state
pub record DoneFunded (account : CidParts) (due : ℕ) (tips : ℕ) (done : Applied) : Type 0 where
  pub returned : done.receipt.returned ≡ []
  pub invocations : done.invocations ≡ 0
  pub state : IsFunded account done.state 0 due (done.tip + tips)

no_one : (rules : Rules) (m : Message) → sender_fault rules m None ≡ Some SYS_SENDER_INVALID
no_one rules m = refl

-- what holds of a message that may not run, and of one that its sender may send, holds of any
pub applied_is : (P : Applied → Type 0) (rules : Rules) (t : Tipset) (s : State) (m : Message) → ((exit : ℕ) → P (not_run rules t s m exit))
    → ((id : ℕ) (actor : Actor) → IsSender rules s m id actor → P (ended t id m (call_end rules (set_aside s id m) id m))) → P (applied rules t s m)
applied_is P rules t s m refused sends =
    elim (nat_lt m.limit (inclusion_gas rules m)) as (λ b. nat_lt m.limit (inclusion_gas rules m) ≡ b → P (applied rules t s m)) [
      | true ↦ λ short. subst P (sym (applied_short rules t s m short)) (refused SYS_OUT_OF_GAS)
      | false ↦ λ enough.
          elim (sender_of s m) as (λ o. sender_of s m ≡ o → P (applied rules t s m)) [
            | None ↦ λ none. subst P (sym (applied_fault rules t s m SYS_SENDER_INVALID enough (ap (sender_fault rules m) none ∙ no_one rules m))) (refused SYS_SENDER_INVALID)
            | (Some found) ↦ λ there.
                elim (sender_fault rules m (Some found)) as (λ f. sender_fault rules m (Some found) ≡ f → P (applied rules t s m)) [
                  | (Some exit) ↦ λ fault. subst P (sym (applied_fault rules t s m exit enough (ap (sender_fault rules m) there ∙ fault))) (refused exit)
                  | None ↦ λ fine.
                      subst P (sym (applied_run rules t s m found.0 found.1 enough there fine)) (sends found.0 found.1 (sender_is rules s m found.0 found.1 there fine))
                ] refl
          ] refl
    ] refl

not_run_funded : (rules : Rules) (t : Tipset) (s : State) (m : Message) (exit due tips : ℕ) → IsFunded rules.codes.account s 0 due tips → DoneFunded rules.codes.account due tips (not_run rules t s m exit)
not_run_funded rules t s m exit due tips is = record {
  returned = refl;
  invocations = refl;
  state = with_fewer rules.codes.account s 0 due tips 0 due (0 + tips) is (omega arith) (omega arith) (omega arith);
}

ended_funded : (rules : Rules) (t : Tipset) (s : State) (m : Message) (id : ℕ) (actor : Actor) (due tips : ℕ) → IsSender rules s m id actor → IsFunded rules.codes.account s 0 due tips
    → DoneFunded rules.codes.account due tips (ended t id m (call_end rules (set_aside s id m) id m))
ended_funded rules t s m id actor due tips sender is =
    let run = run_funded rules t s m id actor due tips sender is in
    record { returned = run.returned; invocations = run.invocations; state = run.fees.after_all }

pub applied_funded : (rules : Rules) (t : Tipset) (s : State) (m : Message) (due tips : ℕ) → IsFunded rules.codes.account s 0 due tips → DoneFunded rules.codes.account due tips (applied rules t s m)
applied_funded rules t s m due tips is =
    applied_is (DoneFunded rules.codes.account due tips) rules t s m (λ exit. not_run_funded rules t s m exit due tips is) (λ id actor sender. ended_funded rules t s m id actor due tips sender is)

pub applied_used : (rules : Rules) (t : Tipset) (s : State) (m : Message) → (applied rules t s m).receipt.used ≤ m.limit
applied_used rules t s m = applied_is (λ done. done.receipt.used ≤ m.limit) rules t s m (λ exit. omega arith) (λ id actor sender. omega arith)
