-- Listed actors as a ledger: what every message leaves as it is.
use Rattle.std.specs.Prelude.{◌≡◌, ℕ, ◌<◌, ◌≤◌, List, length, map, sum, slice_index, IsSome}
use Rattle.std.specs.FinMap.{get}
use Rattle.std.specs.List.Sorted.{IsStrictlyIncreasing}
use Rattle.fil_base.specs.declared.token.TheConstants.{GREATEST_AMOUNT}
use Rattle.fil_message.specs.declared.form0.Form0Actor.{Form0Actor}
use Rattle.tipset_exec.specs.Accounts.{Account, account, accounts_of}

-- the IDs in their order
abbrev pub ids : List Form0Actor → List ℕ
ids actors = map (λ a. a.id) actors

-- what the actors have together
abbrev pub total : List Form0Actor → ℕ
total actors = sum (map (λ a. a.balance) actors)

-- the actors by strictly rising ID, and no more tokens than there can be
pub record IsLedger (actors : List Form0Actor) : Type 0 where
  pub order : IsStrictlyIncreasing (ids actors)
  pub bound : total actors ≤ GREATEST_AMOUNT

-- the ID and the account of the actor at a place
abbrev pub id_at : List Form0Actor → ℕ → ℕ
id_at actors place = slice_index (ids actors) place

abbrev pub account_at : List Form0Actor → ℕ → Account
account_at actors place = account (accounts_of actors) (id_at actors place)

-- the ID is listed, and stands at the place
pub record IsPlaceOf (actors : List Form0Actor) (id : ℕ) (place : ℕ) : Type 0 where
  pub within : place < length actors
  pub there : id_at actors place ≡ id
  pub listed : IsSome (get (accounts_of actors) id)
