-- What a call gives, case by case.
use Rattle.std.proofs.Common.{◌≡◌, ◌≢◌, ℕ, ◌-◌, ◌*◌, ◌<◌, ◌≤◌, List, [], true, false, cond, eqb, length, Some, None, refl, sym, ap, subst, ◌∙◌, arith}
use Rattle.std.proofs.lemmas.Bool.{cond-false, cond-true, le-ltb, lt-ltb, ltb-false}
use Rattle.std.specs.Prelude.{nat_lt}
use Rattle.fil_base.specs.CidParts.{CidParts}
use Rattle.fil_base.specs.declared.exit_code.TheConstants.{SYS_INVALID_RECEIVER, SYS_INSUFFICIENT_FUNDS}
use Rattle.fil_message.specs.declared.message.Message.{Message}
use Rattle.gas_prices.specs.declared.price.Price.TheVariants as price
use Rattle.gas_prices.specs.declared.rules.Rules.{Rules}
use Rattle.state_model.specs.State.{State}
use Rattle.tipset_exec.specs.Balances.{burnt_funds_id, moved, reward_id}
use Rattle.tipset_exec.specs.Calls.{Call, CallEnd, actor_named, call_of, called, failed, if_charged, price_of, succeeded, transfer}
use Rattle.tipset_exec.specs.Funds.{IsFunded, held}
use Rattle.tipset_exec.specs.Messages.{call_end, call_in, inclusion_gas, with_return_charged}
use Rattle.tipset_exec.specs.declared.exit.TheConstants.{SYS_OUT_OF_GAS}
use Rattle.tipset_exec.proofs.Funded.{send_funded}

-- ---- the receiver

pub called_no_one : (rules : Rules) (s : State) (gas : ℕ) (call : Call) → actor_named s call.to ≡ None → called rules s gas call ≡ failed SYS_INVALID_RECEIVER s gas 0
unfolding called
called_no_one rules s gas call none = rw none refl

pub called_one : (rules : Rules) (s : State) (gas : ℕ) (call : Call) (to : ℕ) → actor_named s call.to ≡ Some to → called rules s gas call ≡ call_of rules s gas call to
unfolding called
called_one rules s gas call to there = rw there refl

-- ---- charges

pub too_little : (s : State) (ran gas amount : ℕ) (next : ℕ → CallEnd) → gas < amount → if_charged s ran gas amount next ≡ failed SYS_OUT_OF_GAS s 0 ran
too_little s ran gas amount next short = cond-true (nat_lt gas amount) (failed SYS_OUT_OF_GAS s 0 ran) (next (gas - amount)) (lt-ltb gas amount short)

pub enough : (s : State) (ran gas amount : ℕ) (next : ℕ → CallEnd) → amount ≤ gas → if_charged s ran gas amount next ≡ next (gas - amount)
enough s ran gas amount next fits = cond-false (nat_lt gas amount) (failed SYS_OUT_OF_GAS s 0 ran) (next (gas - amount)) (le-ltb gas amount fits)

-- a call that returned nothing pays nothing for it
pub free_return : (rules : Rules) (s : State) (end : CallEnd) → end.returned ≡ [] → with_return_charged rules s end ≡ end
free_return rules s end nothing =
    let none : price_of rules price.ReturnByte * length end.returned ≡ 0 = ap (λ (bytes : List ℕ). price_of rules price.ReturnByte * length bytes) nothing ∙ omega arith in
    enough s end.invocations end.gas (price_of rules price.ReturnByte * length end.returned) (λ gas. record end { gas = gas }) (omega (arith, none))
    ∙ ap (λ (gas : ℕ). record end { gas = gas }) (omega (arith, none))

-- ---- what holds of each call's end

-- nothing is returned, no code ran, and of the state P holds
pub record EndsWith (P : State → Type 0) (end : CallEnd) : Type 0 where
  pub returned : end.returned ≡ []
  pub invocations : end.invocations ≡ 0
  pub state : P end.state

module _ (P : State → Type 0) where
  ends_charged : (s : State) (gas amount : ℕ) (next : ℕ → CallEnd) → P s → ((left : ℕ) → EndsWith P (next left)) → EndsWith P (if_charged s 0 gas amount next)
  ends_charged s gas amount next here after =
      elim (nat_lt gas amount) as (λ b. EndsWith P (cond b (failed SYS_OUT_OF_GAS s 0 0) (next (gas - amount)))) [
        | true ↦ record { returned = refl; invocations = refl; state = here }
        | false ↦ after (gas - amount)
      ]

  ends_transfer : (s : State) (gas from to value : ℕ) → P s → (value ≤ held s from → P (moved s from to value)) → EndsWith P (transfer s gas from to value)
  ends_transfer s gas from to value here moves =
      elim (nat_lt (held s from) value) as (λ b. nat_lt (held s from) value ≡ b → EndsWith P (cond b (failed SYS_INSUFFICIENT_FUNDS s gas 0) (succeeded (moved s from to value) gas 0))) [
        | true ↦ λ is. record { returned = refl; invocations = refl; state = here }
        | false ↦ λ is. record { returned = refl; invocations = refl; state = moves (ltb-false (held s from) value is) }
      ] refl

  ends_call_of : (rules : Rules) (s : State) (gas : ℕ) (call : Call) (to : ℕ) → P s → (value_fits : call.value ≤ held s call.from → P (moved s call.from to call.value)) → EndsWith P (call_of rules s gas call to)
  ends_call_of rules s gas call to here moves =
      elim (eqb call.value 0) as (λ b. EndsWith P (cond b (succeeded s gas 0) (if_charged s 0 gas (price_of rules price.Transfer) (λ left. transfer s left call.from to call.value)))) [
        | true ↦ record { returned = refl; invocations = refl; state = here }
        | false ↦ ends_charged s gas (price_of rules price.Transfer) (λ left. transfer s left call.from to call.value) here (λ left. ends_transfer s left call.from to call.value here moves)
      ]

  pub ends_called : (rules : Rules) (s : State) (gas : ℕ) (call : Call) → P s → ((to : ℕ) → call.value ≤ held s call.from → P (moved s call.from to call.value)) → EndsWith P (called rules s gas call)
  ends_called rules s gas call here moves =
      elim (actor_named s call.to) as (λ o. actor_named s call.to ≡ o → EndsWith P (called rules s gas call)) [
        | None ↦ λ none. subst (EndsWith P) (sym (called_no_one rules s gas call none)) (record { returned = refl; invocations = refl; state = here })
        | (Some to) ↦ λ there. subst (EndsWith P) (sym (called_one rules s gas call to there)) (ends_call_of rules s gas call to here (moves to))
      ] refl

  ends_returned : (rules : Rules) (s : State) (end : CallEnd) → EndsWith P end → EndsWith P (with_return_charged rules s end)
  ends_returned rules s end is = subst (EndsWith P) (sym (free_return rules s end is.returned)) is

  pub ends_message : (rules : Rules) (s : State) (id : ℕ) (m : Message) → P s → ((to : ℕ) → m.value ≤ held s id → P (moved s id to m.value)) → EndsWith P (call_end rules s id m)
  ends_message rules s id m here moves =
      let inner : ℕ → CallEnd = λ gas. with_return_charged rules s (called rules s gas (call_in id m)) in
      ends_charged s m.limit (inclusion_gas rules m) (λ gas. if_charged s 0 gas (price_of rules price.Call) inner) here
      (λ gas. ends_charged s gas (price_of rules price.Call) inner here (λ left. ends_returned rules s (called rules s left (call_in id m)) (ends_called rules s left (call_in id m) here moves)))

-- so a call keeps a state funded
pub call_funded : (account : CidParts) (rules : Rules) (s : State) (id : ℕ) (m : Message) (aside due tips : ℕ) → id ≢ reward_id → id ≢ burnt_funds_id → IsFunded account s aside due tips
    → EndsWith (λ t. IsFunded account t aside due tips) (call_end rules s id m)
call_funded account rules s id m aside due tips no_reward no_funds is =
    ends_message (λ t. IsFunded account t aside due tips) rules s id m is (λ to enough. send_funded account s id to m.value aside due tips enough no_reward no_funds is)
