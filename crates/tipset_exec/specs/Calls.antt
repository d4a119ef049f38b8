-- A call (ref-fvm, "call manager"). So far no code runs: a call moves a value.
use Rattle.std.specs.Prelude.{ℕ, ◌-◌, ◌==◌, List, [], is_some, nat_lt, slice_index, if◌then◌else◌}
use Rattle.std.specs.FinMap.{get}
use Rattle.std.specs.declared.option.Option.{Option}
use Rattle.std.specs.declared.option.Option.TheVariants.{None, Some}
use Rattle.fil_address.specs.declared.address.Address.{Address}
use Rattle.fil_base.specs.declared.exit_code.TheConstants.{EXIT_OK, SYS_INVALID_RECEIVER, SYS_INSUFFICIENT_FUNDS}
use Rattle.gas_prices.specs.Prices.{number_of}
use Rattle.gas_prices.specs.declared.price.Price.{Price}
use Rattle.gas_prices.specs.declared.price.Price.TheVariants.{Transfer}
use Rattle.gas_prices.specs.declared.rules.Rules.{Rules}
use Rattle.init_names.specs.Resolving.{resolved}
use Rattle.state_model.specs.State.{State}
use Rattle.state_tree.specs.ActorPairs.{balance_of}
use Rattle.tree_blocks.specs.Forms.{if_some}
use Rattle.tipset_exec.specs.Balances.{moved}
use Rattle.tipset_exec.specs.declared.exit.TheConstants.{SYS_OUT_OF_GAS}

-- what a unit of work costs
abbrev pub price_of : Rules → Price → ℕ
price_of rules price = slice_index rules.prices (number_of price)

-- what an actor calls, and the value that it sends
pub record Call : Type 0 where
  pub from : ℕ
  pub to : Address
  pub value : ℕ

-- how a call ended: its exit code, what it returned, the state and the gas that are left, and how many times code ran
pub record CallEnd : Type 0 where
  pub exit : ℕ
  pub returned : List ℕ
  pub state : State
  pub gas : ℕ
  pub invocations : ℕ

-- a call that ended well and returned nothing
abbrev pub succeeded : State → ℕ → ℕ → CallEnd
succeeded s gas ran = record { exit = EXIT_OK; returned = []; state = s; gas = gas; invocations = ran }

-- a call that failed, over the state as it was before it
abbrev pub failed : ℕ → State → ℕ → ℕ → CallEnd
failed exit s gas ran = record { exit = exit; returned = []; state = s; gas = gas; invocations = ran }

-- what follows once an amount of gas is charged; where there is less, no gas is left and the call fails
abbrev pub if_charged : State → ℕ → ℕ → ℕ → (ℕ → CallEnd) → CallEnd
if_charged s ran gas amount next = if nat_lt gas amount then failed SYS_OUT_OF_GAS s 0 ran else next (gas - amount)

-- the actor that an address names
abbrev pub actor_named : State → Address → Option ℕ
actor_named s address = if_some (resolved s.names address) (λ id. if is_some (get s.actors id) then Some id else None)

-- a value moves, if the caller has as much
abbrev pub transfer : State → ℕ → ℕ → ℕ → ℕ → CallEnd
transfer s gas from to value =
    if nat_lt (balance_of (get s.actors from)) value then failed SYS_INSUFFICIENT_FUNDS s gas 0
    else succeeded (moved s from to value) gas 0

-- a call of a receiver
abbrev pub call_of : Rules → State → ℕ → Call → ℕ → CallEnd
call_of rules s gas call to =
    if call.value == 0 then succeeded s gas 0
    else if_charged s 0 gas (price_of rules Transfer) (λ left. transfer s left call.from to call.value)

-- a call, with the gas that it may use
unfoldable pub called : Rules → State → ℕ → Call → CallEnd
called rules s gas call = of_receiver (actor_named s call.to) where
  of_receiver : Option ℕ → CallEnd
  of_receiver None = failed SYS_INVALID_RECEIVER s gas 0
  of_receiver (Some to) = call_of rules s gas call to
