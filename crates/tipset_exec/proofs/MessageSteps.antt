-- What the steps of running a message give.
use Rattle.std.proofs.Common.{◌≡◌, ℕ, ◌+◌, ◌-◌, ◌*◌, ◌<◌, ◌≤◌, ◌^◌, List, [], Some, None, min, refl, sym, ap, subst, ◌∙◌, arith}
use Rattle.std.proofs.lemmas.Bool.{le-ltb, lt-ltb}
use Rattle.cid_core.specs.BlockParts.{BlockParts}
use Rattle.fee_rules.specs.GasOutputs.{gas_outputs}
use Rattle.fee_rules.specs.declared.fees.Fees.{Fees}
use Rattle.fil_message.specs.Sound.{IsMessage}
use Rattle.fil_message.specs.declared.message.Message.{Message}
use Rattle.fil_message.specs.declared.tipset.Tipset.{Tipset}
use Rattle.gas_prices.specs.declared.rules.Rules.{Rules}
use Rattle.state_model.specs.State.{State}
use Rattle.state_tree.specs.declared.actor.Actor.{Actor}
use Rattle.tipset_exec.specs.Balances.{burned, moved, reward_id, with_more}
use Rattle.tipset_exec.specs.Calls.{CallEnd}
use Rattle.tipset_exec.specs.Ends.{IsOutcome, IsSender}
use Rattle.tipset_exec.specs.Funds.{IsFunded, IsWithin, held}
use Rattle.tipset_exec.specs.Messages.{applied, call_end, ended, fees_of, greatest_cost, inclusion_gas, not_run, sender_fault, sender_of, set_aside, settled}
use Rattle.tipset_exec.specs.Stands.{Stands}
use Rattle.tipset_exec.specs.declared.exit.TheConstants.{SYS_OUT_OF_GAS}
use Rattle.tipset_exec.specs.declared.ledger.Ledger.{Ledger}
use Rattle.tipset_exec.specs.declared.message.Outcome.{Outcome}
use Rattle.tipset_exec.proofs.Applying.{applied_fault, applied_run, applied_short, run_funded}
use Rattle.tipset_exec.proofs.Funded.{aside_funded, send_funded, within_range}
use Rattle.tipset_exec.proofs.Senders.{no_reward}

-- the sender's sequence number has a next one
pub next_fits : (rules : Rules) (s : State) (m : Message) (id : ℕ) (actor : Actor) → IsMessage m → IsSender rules s m id actor → actor.sequence + 1 < 2 ^ 64
next_fits rules s m id actor good is = omega (arith, good.nonce, is.sequence)

-- what the call may move
pub call_fits : (rules : Rules) (s : State) (m : Message) (id : ℕ) (actor : Actor) (due tips : ℕ) → IsSender rules s m id actor → IsFunded rules.codes.account s 0 due tips → (to : ℕ)
    → m.value ≤ held (set_aside s id m) id → IsWithin (moved (set_aside s id m) id to m.value)
call_fits rules s m id actor due tips sender is to enough =
    let account = rules.codes.account in
    let no = no_reward rules s m id actor sender is.reward in
    let aside = aside_funded account s id m actor 0 due tips sender.there sender.enough no sender.other is in
    within_range account (moved (set_aside s id m) id to m.value) (greatest_cost m + 0) due tips
    (send_funded account (set_aside s id m) id to m.value (greatest_cost m + 0) due tips enough no sender.other aside)

-- what paying the gas asks for
abbrev pub CanSettle : Ledger → List BlockParts → ℕ → Fees → Type 0
CanSettle ledger blocks id fees =
    (s : State) × Stands ledger blocks s × IsWithin (burned s (fees.base_burn + fees.over_burn))
    × IsWithin (with_more (burned s (fees.base_burn + fees.over_burn)) reward_id fees.tip) × IsWithin (settled s id fees)

pub can_settle : (rules : Rules) (t : Tipset) (s : State) (m : Message) (id : ℕ) (actor : Actor) (due tips : ℕ) (ledger : Ledger) (blocks : List BlockParts) (fees : Fees) → IsSender rules s m id actor
    → IsFunded rules.codes.account s 0 due tips → fees ≡ fees_of t m (call_end rules (set_aside s id m) id m) → Stands ledger blocks (call_end rules (set_aside s id m) id m).state → CanSettle ledger blocks id fees
can_settle rules t s m id actor due tips ledger blocks fees sender is same stands =
    let end = call_end rules (set_aside s id m) id m in
    let funded = (run_funded rules t s m id actor due tips sender is).fees in
    subst (CanSettle ledger blocks id) (sym same) (
      end.state,
      stands,
      funded.after_burn,
      funded.after_tip,
      within_range rules.codes.account (settled end.state id (fees_of t m end)) 0 due ((fees_of t m end).tip + tips) funded.after_all,
    )

-- the fees are those of the gas that is left
pub same_fees : (t : Tipset) (m : Message) (end : CallEnd) (used left : ℕ) (fees : Fees) → used ≡ m.limit - left → left ≡ end.gas → fees ≡ gas_outputs used m.limit t.base_fee m.cap m.premium → fees ≡ fees_of t m end
same_fees t m end used left fees is gas made = made ∙ ap (λ (n : ℕ). gas_outputs n m.limit t.base_fee m.cap m.premium) (is ∙ ap (λ (n : ℕ). m.limit - n) gas)

pub outcome_is : (t : Tipset) (id : ℕ) (m : Message) (end : CallEnd) (exit used left : ℕ) (fees : Fees) (ledger : Ledger) (blocks : List BlockParts) → exit ≡ end.exit → end.returned ≡ [] → end.invocations ≡ 0
    → used ≡ m.limit - left → left ≡ end.gas → fees ≡ fees_of t m end → Stands ledger blocks (settled end.state id fees)
    → IsOutcome (record { exit = exit; used = used; tip = fees.tip; penalty = fees.penalty }) ledger blocks (ended t id m end)
outcome_is t id m end exit used left fees ledger blocks exit-is returned ran used-is gas same stands = record {
  exit = exit-is;
  returned = returned;
  used = used-is ∙ ap (λ (n : ℕ). m.limit - n) gas;
  state = subst (λ (f : Fees). Stands ledger blocks (settled end.state id f)) same stands;
  tip = ap (λ (f : Fees). f.tip) same;
  penalty = ap (λ (f : Fees). f.penalty) same;
  invocations = ran;
}

-- ---- any message

refused : (rules : Rules) (t : Tipset) (s : State) (m : Message) (exit inclusion : ℕ) (outcome : Outcome) (ledger : Ledger) (blocks : List BlockParts) → inclusion ≡ inclusion_gas rules m → Stands ledger blocks s
    → outcome ≡ record { exit = exit; used = 0; tip = 0; penalty = t.base_fee * min inclusion m.limit } → IsOutcome outcome ledger blocks (not_run rules t s m exit)
refused rules t s m exit inclusion outcome ledger blocks gas stands is = record {
  exit = ap (λ (o : Outcome). o.exit) is;
  returned = refl;
  used = ap (λ (o : Outcome). o.used) is;
  state = stands;
  tip = ap (λ (o : Outcome). o.tip) is;
  penalty = ap (λ (o : Outcome). o.penalty) is ∙ ap (λ (n : ℕ). t.base_fee * min n m.limit) gas;
  invocations = refl;
}

pub refused_short : (rules : Rules) (t : Tipset) (s : State) (m : Message) (inclusion : ℕ) (outcome : Outcome) (ledger : Ledger) (blocks : List BlockParts) → inclusion ≡ inclusion_gas rules m → m.limit < inclusion
    → Stands ledger blocks s → outcome ≡ record { exit = SYS_OUT_OF_GAS; used = 0; tip = 0; penalty = t.base_fee * min inclusion m.limit } → IsOutcome outcome ledger blocks (applied rules t s m)
refused_short rules t s m inclusion outcome ledger blocks gas short stands is =
    subst (IsOutcome outcome ledger blocks) (sym (applied_short rules t s m (lt-ltb m.limit (inclusion_gas rules m) (omega (arith, short, gas))))) (refused rules t s m SYS_OUT_OF_GAS inclusion outcome ledger blocks gas stands is)

pub refused_fault : (rules : Rules) (t : Tipset) (s : State) (m : Message) (exit inclusion : ℕ) (outcome : Outcome) (ledger : Ledger) (blocks : List BlockParts) → inclusion ≡ inclusion_gas rules m → inclusion ≤ m.limit
    → sender_fault rules m (sender_of s m) ≡ Some exit → Stands ledger blocks s → outcome ≡ record { exit = exit; used = 0; tip = 0; penalty = t.base_fee * min inclusion m.limit }
    → IsOutcome outcome ledger blocks (applied rules t s m)
refused_fault rules t s m exit inclusion outcome ledger blocks gas fits fault stands is =
    subst (IsOutcome outcome ledger blocks) (sym (applied_fault rules t s m exit (le-ltb m.limit (inclusion_gas rules m) (omega (arith, fits, gas))) fault)) (refused rules t s m exit inclusion outcome ledger blocks gas stands is)

pub ran : (rules : Rules) (t : Tipset) (s : State) (m : Message) (id : ℕ) (actor : Actor) (inclusion : ℕ) (outcome : Outcome) (ledger : Ledger) (blocks : List BlockParts) → inclusion ≡ inclusion_gas rules m
    → inclusion ≤ m.limit → sender_of s m ≡ Some (id, actor) → sender_fault rules m (Some (id, actor)) ≡ None → IsOutcome outcome ledger blocks (ended t id m (call_end rules (set_aside s id m) id m))
    → IsOutcome outcome ledger blocks (applied rules t s m)
ran rules t s m id actor inclusion outcome ledger blocks gas fits found none is =
    subst (IsOutcome outcome ledger blocks) (sym (applied_run rules t s m id actor (le-ltb m.limit (inclusion_gas rules m) (omega (arith, fits, gas))) found none)) is
