-- The pairs of the actors' tree.
use Rattle.std.specs.Prelude.{◌≡◌, ℕ, Bool, true, false, List, All, nat_lt}
use Rattle.std.specs.declared.option.Option.{Option}
use Rattle.std.specs.declared.option.Option.TheVariants.{None, Some}
use Rattle.dag_cbor.specs.declared.value.Value.{Value}
use Rattle.hamt_map.specs.Pairs.{Pairs}
use Rattle.tree_blocks.specs.Forms.{for_each}
use Rattle.state_tree.specs.Actors.{IsEntry}
use Rattle.state_tree.specs.Reading.{actor_in, pair_in}
use Rattle.state_tree.specs.declared.actor.Actor.{Actor}

-- whether a pair is a key with its record
abbrev pub IfPair : Bool → List ℕ × Value → Type 0
IfPair true pair = (e : ℕ × Actor) × (pair_in pair ≡ Some e) × IsEntry e
IfPair false pair = pair_in pair ≡ None

-- whether each pair is a key with its record
abbrev pub IfPairs : Bool → Pairs → Type 0
IfPairs true pairs = (es : List (ℕ × Actor)) × (for_each pair_in pairs ≡ Some es) × All IsEntry es
IfPairs false pairs = for_each pair_in pairs ≡ None

-- there is an ID, and it is below another
abbrev pub is_below : ℕ → Option ℕ → Bool
is_below next None = false
is_below next (Some id) = nat_lt id next

-- the balance of an actor, or 0
abbrev pub balance_of : Option Actor → ℕ
balance_of None = 0
balance_of (Some actor) = actor.balance

-- the balance of the actor whose record a value is, or 0
abbrev pub balance_in : Value → ℕ
balance_in value = balance_of (actor_in value)
