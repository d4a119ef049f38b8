-- That the amounts of a state stay in their ranges.
use Rattle.std.specs.Prelude.{◌≡◌, ◌+◌, ◌≤◌, ℕ, false, is_some, true}
use Rattle.std.specs.FinMap.{get}
use Rattle.std.specs.Option.{option_map}
use Rattle.std.specs.declared.option.Option.{Option}
use Rattle.std.specs.declared.option.Option.TheVariants.{None, Some}
use Rattle.fil_base.specs.CidEquality.{same_parts}
use Rattle.fil_base.specs.CidParts.{CidParts}
use Rattle.fil_base.specs.declared.token.TheConstants.{GREATEST_AMOUNT}
use Rattle.state_model.specs.State.{State}
use Rattle.state_tree.specs.ActorPairs.{balance_of}
use Rattle.state_tree.specs.Actors.{balances}
use Rattle.tipset_exec.specs.Balances.{burnt_funds_id, reward_id}

-- what an actor has; one that is not there has nothing
abbrev pub held : State → ℕ → ℕ
held s id = balance_of (get s.actors id)

-- the code of an actor
abbrev pub code_at : State → ℕ → Option CidParts
code_at s id = option_map (λ actor. actor.code) (get s.actors id)

-- there is a code, and it is not this one
abbrev pub IsOther : CidParts → Option CidParts → Type 0
IsOther code None = ⊥
IsOther code (Some other) = same_parts other code ≡ false

-- all balances together, what was minted and what was burned are amounts
pub record IsWithin (s : State) : Type 0 where
  pub balances : balances s.actors ≤ GREATEST_AMOUNT
  pub minted : s.minted ≤ GREATEST_AMOUNT
  pub burned : s.burned ≤ GREATEST_AMOUNT

-- there is room for what is set aside for gas and for the awards that are due; the reward actor is there, is no account and
-- has the tips; the burnt funds are there and have what was burned
pub record IsFunded (account : CidParts) (s : State) (aside : ℕ) (due : ℕ) (tips : ℕ) : Type 0 where
  pub reward : IsOther account (code_at s reward_id)
  pub burnt_funds : is_some (code_at s burnt_funds_id) ≡ true
  pub room : balances s.actors + (aside + due) ≤ GREATEST_AMOUNT
  pub minted : s.minted + due ≤ GREATEST_AMOUNT
  pub burned : s.burned ≤ held s burnt_funds_id
  pub has_tips : tips ≤ held s reward_id
