-- The actors of a state (the Filecoin specification, "State Tree").
use Rattle.std.specs.Prelude.{◌≡◌, ◌<◌, ◌≤◌, ◌^◌, ℕ, List, [], ◌∷◌, All, map, sum, pos}
use Rattle.std.specs.FinMap.{FinMap, entries, from_entries}
use Rattle.std.specs.Ordering.{nat_cmp}
use Rattle.fil_base.specs.Amount.{amount}
use Rattle.fil_base.specs.CidParts.{IsCid}
use Rattle.fil_base.specs.Varint.{varint}
use Rattle.fil_base.specs.declared.token.TheConstants.{GREATEST_AMOUNT}
use Rattle.dag_cbor.specs.declared.value.Value.{Value}
use Rattle.dag_cbor.specs.declared.value.Value.TheVariants as v
use Rattle.hamt_map.specs.Pairs.{Map}
use Rattle.state_tree.specs.declared.actor.Actor.{Actor}

-- actors by their IDs
abbrev pub Actors : Type 0
Actors = FinMap nat_cmp Actor

-- the parts of an actor are in their ranges
pub record IsActor (a : Actor) : Type 0 where
  pub code : IsCid a.code
  pub head : IsCid a.head
  pub sequence : a.sequence < 2 ^ 64
  pub balance : a.balance ≤ GREATEST_AMOUNT

-- an ID below 2^63, and an actor whose parts are in their ranges
abbrev pub IsEntry : ℕ × Actor → Type 0
IsEntry e = (e.0 < 2 ^ 63) × IsActor e.1

-- each is one
abbrev pub AreActors : Actors → Type 0
AreActors actors = All IsEntry (entries actors)

-- the key of an actor in the tree: the bytes of its ID address
abbrev pub id_key : ℕ → List ℕ
id_key id = 0 ∷ varint id

-- an actor's record: its code, head, sequence number and balance
abbrev pub actor_record : Actor → Value
actor_record a = v.List (v.Link a.code ∷ v.Link a.head ∷ v.Int (pos a.sequence) ∷ v.Blob (amount a.balance) ∷ [])

-- the key and the record of an actor
abbrev pub record_pair : ℕ × Actor → List ℕ × Value
record_pair e = (id_key e.0, actor_record e.1)

-- the records by their keys
abbrev pub records : Actors → Map
records actors = from_entries (map record_pair (entries actors))

-- the sum of all balances
abbrev pub balances : Actors → ℕ
balances actors = sum (map (λ e. e.1.balance) (entries actors))
