-- What a message does (ref-fvm, "executor"): it is judged, its call runs, and its gas is paid.
use Rattle.std.specs.Prelude.{ℕ, ◌+◌, ◌-◌, ◌*◌, ◌==◌, ◌||◌, not, [], length, min, nat_lt, if◌then◌else◌}
use Rattle.std.specs.FinMap.{get}
use Rattle.std.specs.declared.option.Option.{Option}
use Rattle.std.specs.declared.option.Option.TheVariants.{None, Some}
use Rattle.fil_base.specs.CidEquality.{same_parts}
use Rattle.fil_base.specs.declared.exit_code.TheConstants.{SYS_SENDER_INVALID, SYS_SENDER_STATE_INVALID}
use Rattle.fee_rules.specs.GasOutputs.{gas_outputs}
use Rattle.fee_rules.specs.declared.fees.Fees.{Fees}
use Rattle.fil_message.specs.Layout.{message_spelling}
use Rattle.fil_message.specs.declared.message.Message.{Message}
use Rattle.fil_message.specs.declared.receipt.Receipt.{Receipt}
use Rattle.fil_message.specs.declared.tipset.Tipset.{Tipset}
use Rattle.gas_prices.specs.declared.price.Price.TheVariants as price
use Rattle.gas_prices.specs.declared.rules.Rules.{Rules}
use Rattle.init_names.specs.Resolving.{resolved}
use Rattle.state_model.specs.State.{State}
use Rattle.state_tree.specs.declared.actor.Actor.{Actor}
use Rattle.tree_blocks.specs.Forms.{if_some}
use Rattle.tipset_exec.specs.Balances.{burned, burnt_funds_id, reward_id, with_changed, with_more}
use Rattle.tipset_exec.specs.Calls.{Call, CallEnd, called, if_charged, price_of}
use Rattle.tipset_exec.specs.declared.exit.TheConstants.{SYS_OUT_OF_GAS}

-- the gas for the inclusion of a message: so much, and so much for each byte of its encoding
abbrev pub inclusion_gas : Rules → Message → ℕ
inclusion_gas rules m = price_of rules price.Include + price_of rules price.IncludeByte * length (message_spelling m)

-- the sender with its ID
abbrev pub sender_of : State → Message → Option (ℕ × Actor)
sender_of s m = if_some (resolved s.names m.from) (λ id. if_some (get s.actors id) (λ actor. Some (id, actor)))

-- the most that the gas of a message can cost
abbrev pub greatest_cost : Message → ℕ
greatest_cost m = m.cap * m.limit

-- why a message may not run, as an exit code: its gas limit is too low for its inclusion; its sender is no account, or is
-- the burnt funds; its nonce is not the sender's; the sender has less than the gas can cost
abbrev pub sender_fault : Rules → Message → Option (ℕ × Actor) → Option ℕ
sender_fault rules m None = Some SYS_SENDER_INVALID
sender_fault rules m (Some (id, actor)) =
    if id == burnt_funds_id || not (same_parts actor.code rules.codes.account) then Some SYS_SENDER_INVALID
    else (if not (actor.sequence == m.nonce) then Some SYS_SENDER_STATE_INVALID
    else (if nat_lt actor.balance (greatest_cost m) then Some SYS_SENDER_STATE_INVALID else None))

-- what a message did: its receipt, the state after it, what the miner gets and owes for it, and how many times code ran
pub record Applied : Type 0 where
  pub receipt : Receipt
  pub state : State
  pub tip : ℕ
  pub penalty : ℕ
  pub invocations : ℕ

-- a message that may not run changes nothing, and the miner owes the base fee for its inclusion
abbrev pub not_run : Rules → Tipset → State → Message → ℕ → Applied
not_run rules t s m exit = record {
  receipt = record { exit = exit; returned = []; used = 0 };
  state = s;
  tip = 0;
  penalty = t.base_fee * min (inclusion_gas rules m) m.limit;
  invocations = 0;
}

-- the sender's sequence number rises, and the most that the gas can cost is set aside
abbrev pub set_aside : State → ℕ → Message → State
set_aside s id m =
    with_changed s id (λ actor. record actor { sequence = actor.sequence + 1; balance = actor.balance - greatest_cost m })

-- the call of a message
abbrev pub call_in : ℕ → Message → Call
call_in id m = record { from = id; to = m.to; value = m.value }

-- the call's end, once the bytes that it returned are charged; where there is too little gas, the state is as before it
abbrev pub with_return_charged : Rules → State → CallEnd → CallEnd
with_return_charged rules s end =
    if_charged s end.invocations end.gas (price_of rules price.ReturnByte * length end.returned) (λ gas. record end { gas = gas })

-- the call of a message, behind the gas for its inclusion and for the call itself
abbrev pub call_end : Rules → State → ℕ → Message → CallEnd
call_end rules s id m =
    if_charged s 0 m.limit (inclusion_gas rules m) (λ gas. if_charged s 0 gas (price_of rules price.Call) (λ gas.
    with_return_charged rules s (called rules s gas (call_in id m))))

-- the gas is paid: burned, tipped, and the rest given back to the sender
abbrev pub settled : State → ℕ → Fees → State
settled s id fees = with_more (with_more (burned s (fees.base_burn + fees.over_burn)) reward_id fees.tip) id fees.refund

-- the fees of a message whose call ended so
abbrev pub fees_of : Tipset → Message → CallEnd → Fees
fees_of t m end = gas_outputs (m.limit - end.gas) m.limit t.base_fee m.cap m.premium

-- a message of which the call ended so
abbrev pub ended : Tipset → ℕ → Message → CallEnd → Applied
ended t id m end = record {
  receipt = record { exit = end.exit; returned = end.returned; used = m.limit - end.gas };
  state = settled end.state id (fees_of t m end);
  tip = (fees_of t m end).tip;
  penalty = (fees_of t m end).penalty;
  invocations = end.invocations;
}

-- what a message of a tipset does to a state
unfoldable pub applied : Rules → Tipset → State → Message → Applied
applied rules t s m = if nat_lt m.limit (inclusion_gas rules m) then not_run rules t s m SYS_OUT_OF_GAS
    else of_sender (sender_of s m) (sender_fault rules m (sender_of s m)) where
      of_sender : Option (ℕ × Actor) → Option ℕ → Applied
      of_sender sender (Some exit) = not_run rules t s m exit
      of_sender None None = not_run rules t s m SYS_SENDER_INVALID
      of_sender (Some (id, actor)) None = ended t id m (call_end rules (set_aside s id m) id m)
