-- How the code says who sends a message, how its call ended, and what it did.
use Rattle.std.specs.Prelude.{◌≡◌, ◌≢◌, ◌≤◌, ℕ, List, [], Result, Ok, Err, true}
use Rattle.std.specs.FinMap.{get}
use Rattle.std.specs.declared.option.Option.TheVariants.{None, Some}
use Rattle.cid_core.specs.BlockParts.{BlockParts}
use Rattle.fil_base.specs.CidEquality.{same_parts}
use Rattle.fil_message.specs.declared.message.Message.{Message}
use Rattle.gas_prices.specs.declared.rules.Rules.{Rules}
use Rattle.state_model.specs.State.{State}
use Rattle.state_tree.specs.declared.actor.Actor.{Actor}
use Rattle.tipset_exec.specs.Balances.{burnt_funds_id}
use Rattle.tipset_exec.specs.Calls.{CallEnd}
use Rattle.tipset_exec.specs.Messages.{Applied, greatest_cost, sender_fault, sender_of}
use Rattle.tipset_exec.specs.Stands.{Stands}
use Rattle.tipset_exec.specs.declared.ledger.Ledger.{Ledger}
use Rattle.tipset_exec.specs.declared.message.Outcome.{Outcome}

-- an account that may send a message, and that has what its gas can cost
pub record IsSender (rules : Rules) (s : State) (m : Message) (id : ℕ) (actor : Actor) : Type 0 where
  pub there : get s.actors id ≡ Some actor
  pub account : same_parts actor.code rules.codes.account ≡ true
  pub other : id ≢ burnt_funds_id
  pub sequence : actor.sequence ≡ m.nonce
  pub enough : greatest_cost m ≤ actor.balance

-- the sender, with its ID, or why the message may not run
abbrev pub IsJudged : Rules → State → Message → Result (ℕ × Actor) ℕ → Type 0
IsJudged rules s m (Ok sender) =
    (sender_of s m ≡ Some (sender.0, sender.1)) × (sender_fault rules m (Some (sender.0, sender.1)) ≡ None)
IsJudged rules s m (Err exit) = sender_fault rules m (sender_of s m) ≡ Some exit

-- the exit code, the ledger and the gas that is left are those of the end of a call; nothing was returned, and no code ran
pub record IsEnd (code : ℕ) (ledger : Ledger) (left : ℕ) (blocks : List BlockParts) (end : CallEnd) : Type 0 where
  pub exit : code ≡ end.exit
  pub returned : end.returned ≡ []
  pub state : Stands ledger blocks end.state
  pub gas : left ≡ end.gas
  pub invocations : end.invocations ≡ 0

-- the outcome and the ledger are what a message did; nothing was returned, and no code ran
pub record IsOutcome (outcome : Outcome) (ledger : Ledger) (blocks : List BlockParts) (done : Applied) : Type 0 where
  pub exit : outcome.exit ≡ done.receipt.exit
  pub returned : done.receipt.returned ≡ []
  pub used : outcome.used ≡ done.receipt.used
  pub state : Stands ledger blocks done.state
  pub tip : outcome.tip ≡ done.tip
  pub penalty : outcome.penalty ≡ done.penalty
  pub invocations : done.invocations ≡ 0
