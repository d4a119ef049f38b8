-- A state: what messages run over (the Filecoin specification, "State Tree").
use Rattle.std.specs.Prelude.{◌+◌, ◌<◌, ◌^◌, ℕ, Bool, List, [], ◌++◌, length, nat_le, nat_lt, ◌&&◌}
use Rattle.std.specs.FinMap.{entries, get, insert}
use Rattle.std.specs.List.{list_all}
use Rattle.std.specs.declared.option.Option.{Option}
use Rattle.std.specs.declared.option.Option.TheVariants.{None, Some}
use Rattle.fil_base.specs.CidParts.{CidParts, IsCid}
use Rattle.fil_base.specs.declared.token.TheConstants.{GREATEST_AMOUNT}
use Rattle.cid_core.specs.BlockParts.{BlockParts}
use Rattle.init_names.specs.Names.{InitState, IsInitState, Names, init_head, init_nodes}
use Rattle.state_tree.specs.Actors.{Actors, AreActors, balances}
use Rattle.state_tree.specs.ActorsTree.{actors_nodes, actors_root}
use Rattle.state_tree.specs.declared.actor.Actor.{Actor}

-- the actors by their IDs, the names with their IDs, the ID that comes next, the network, a link that is kept, the blocks
-- that were made, and the amounts that were minted and burned
pub record State : Type 0 where
  pub actors : Actors
  pub names : Names
  pub next : ℕ
  pub network : List ℕ
  pub info : CidParts
  pub made : List BlockParts
  pub minted : ℕ
  pub burned : ℕ

-- the state of the init actor
abbrev pub init_of : State → InitState
init_of s = record { names = s.names; next = s.next; network = s.network }

-- the parts are in their ranges
pub record IsState (s : State) : Type 0 where
  pub actors : AreActors s.actors
  pub init : IsInitState (init_of s)
  pub info : IsCid s.info

-- the actors are fewer than 2^64, and so are the names: only then their trees have spellings
pub record HaveCount (s : State) : Type 0 where
  pub actors : length (entries s.actors) < 2 ^ 64
  pub names : length (entries s.names) < 2 ^ 64

-- the actors, of which the init actor has its state as head
abbrev pub with_init_head : State → Actors
with_init_head s = with_head (get s.actors 1) where
  with_head : Option Actor → Actors
  with_head None = s.actors
  with_head (Some init) = insert s.actors 1 (record init { head = init_head (init_of s) })

-- the state as it is flushed: the init actor has its head, and nothing was made, minted or burned
abbrev pub flushed : State → State
flushed s = record s { actors = with_init_head s; made = []; minted = 0; burned = 0 }

-- the blocks of a state: those of the names, the init actor's state, those of the actors, and the root's last
abbrev pub state_nodes : State → List BlockParts
state_nodes s = init_nodes (init_of s) ++ actors_nodes (with_init_head s) s.info

-- the CID of its root
abbrev pub state_root : State → CidParts
state_root s = actors_root (with_init_head s) s.info

-- the IDs of all actors, and all that are named, are below the next one
abbrev pub all_below_next : State → Bool
all_below_next s = list_all (λ e. nat_lt e.0 s.next) (entries s.actors) && list_all (λ e. nat_lt e.1 s.next) (entries s.names)

-- all balances and these awards are at most the greatest amount together
abbrev pub has_room_for : ℕ → State → Bool
has_room_for awards s = nat_le (balances s.actors + awards) GREATEST_AMOUNT
