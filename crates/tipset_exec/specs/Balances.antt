-- How the balances of a state change.
use Rattle.std.specs.Prelude.{ℕ, ◌+◌, ◌-◌, ◌==◌, if◌then◌else◌}
use Rattle.std.specs.FinMap.{get, insert}
use Rattle.std.specs.declared.option.Option.{Option}
use Rattle.std.specs.declared.option.Option.TheVariants.{None, Some}
use Rattle.state_model.specs.State.{State}
use Rattle.state_tree.specs.declared.actor.Actor.{Actor}

-- the actor that pays awards
abbrev pub reward_id : ℕ
reward_id = 2

-- the actor to which burnt funds go
abbrev pub burnt_funds_id : ℕ
burnt_funds_id = 99

-- a state in which an actor is changed, if it is there
abbrev pub with_changed : State → ℕ → (Actor → Actor) → State
with_changed s id change = of_actor (get s.actors id) where
  of_actor : Option Actor → State
  of_actor None = s
  of_actor (Some actor) = record s { actors = insert s.actors id (change actor) }

-- an actor has more by an amount
abbrev pub with_more : State → ℕ → ℕ → State
with_more s id amount = with_changed s id (λ actor. record actor { balance = actor.balance + amount })

-- an actor has less by an amount
abbrev pub with_less : State → ℕ → ℕ → State
with_less s id amount = with_changed s id (λ actor. record actor { balance = actor.balance - amount })

-- an amount goes to the burnt funds, and is recorded
abbrev pub burned : State → ℕ → State
burned s amount = record (with_more s burnt_funds_id amount) { burned = s.burned + amount }

-- an actor is paid an amount; what the burnt funds are paid is burned
abbrev pub paid : State → ℕ → ℕ → State
paid s id amount = if id == burnt_funds_id then burned s amount else with_more s id amount

-- an amount moves from one actor to another
abbrev pub moved : State → ℕ → ℕ → ℕ → State
moved s from to amount = paid (with_less s from amount) to amount

-- an amount is minted, and is the reward actor's
abbrev pub minted : State → ℕ → State
minted s amount = record (with_more s reward_id amount) { minted = s.minted + amount }
