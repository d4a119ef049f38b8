-- The state of the init actor: the names of actors, and the ID that the next one gets.
use Rattle.std.specs.Prelude.{◌≡◌, ◌<◌, ◌^◌, ◌+◌, ◌==◌, ◌||◌, ◌&&◌, Bool, true, false, ℕ, List, [], ◌∷◌, ◌++◌, All, length, map, pos}
use Rattle.std.specs.FinMap.{FinMap, entries, from_entries, insert}
use Rattle.std.specs.Str.{IsUtf8}
use Rattle.fil_base.specs.CidParts.{CidParts}
use Rattle.cid_core.specs.BlockParts.{BlockParts, block_of}
use Rattle.dag_cbor.specs.Spelling.{spelled}
use Rattle.dag_cbor.specs.declared.value.Value.{Value}
use Rattle.dag_cbor.specs.declared.value.Value.TheVariants as v
use Rattle.fil_address.specs.AddressBytes.{address}
use Rattle.fil_address.specs.declared.address.Address.{Address}
use Rattle.fil_address.specs.declared.address.Address.TheVariants.{Id, Secp, Made, Bls}
use Rattle.hamt_map.specs.Node.{hamt_nodes, hamt_root}
use Rattle.hamt_map.specs.Pairs.{Map, key_cmp}

-- IDs by the bytes of the addresses that name them
abbrev pub Names : Type 0
Names = FinMap key_cmp ℕ

-- the state: the names, the next ID, and the network, a text that is kept
pub record InitState : Type 0 where
  pub names : Names
  pub next : ℕ
  pub network : List ℕ

-- the bytes of an address of protocol 1, 2 or 3: 20 bytes behind 1 and 2, 48 behind 3
abbrev pub is_name : List ℕ → Bool
is_name [] = false
is_name (protocol ∷ payload) =
    ((protocol == 1 || protocol == 2) && length payload == 20) || (protocol == 3 && length payload == 48)

-- an address that is no ID
abbrev pub no_id : Address → Bool
no_id (Id id) = false
no_id (Secp hash) = true
no_id (Made hash) = true
no_id (Bls key) = true

-- a name is an address of protocol 1 to 3, and its ID is below 2^63
abbrev pub IsNamePair : List ℕ × ℕ → Type 0
IsNamePair e = (is_name e.0 ≡ true) × (e.1 < 2 ^ 63)

-- all names are so
abbrev pub AreNames : Names → Type 0
AreNames names = All IsNamePair (entries names)

-- the names and their IDs are in their ranges, and so is the next ID; the network is a text
pub record IsInitState (s : InitState) : Type 0 where
  pub names : AreNames s.names
  pub next : s.next < 2 ^ 63
  pub length : length s.network < 2 ^ 64
  pub network : IsUtf8 s.network

-- a name with its ID as a value
abbrev pub id_pair : List ℕ × ℕ → List ℕ × Value
id_pair e = (e.0, v.Int (pos e.1))

-- the IDs as values, by their keys
abbrev pub named : Names → Map
named names = from_entries (map id_pair (entries names))

-- a state as a value: the root of the names' tree, the next ID, and the network
abbrev pub parts_value : CidParts → ℕ → List ℕ → Value
parts_value names next network = v.List (v.Link names ∷ v.Int (pos next) ∷ v.Text network ∷ [])

-- its block
abbrev pub parts_block : CidParts → ℕ → List ℕ → BlockParts
parts_block names next network = block_of 0x71 (spelled (parts_value names next network))

-- the block of a state
abbrev pub init_block : InitState → BlockParts
init_block s = parts_block (hamt_root (named s.names)) s.next s.network

-- the nodes of the names' tree, and the state's block last
abbrev pub init_nodes : InitState → List BlockParts
init_nodes s = hamt_nodes (named s.names) ++ (init_block s ∷ [])

-- the CID of the state, which is the head of the init actor
abbrev pub init_head : InitState → CidParts
init_head s = (init_block s).cid

-- a state in which an address names the next ID
abbrev pub with_name : InitState → List ℕ → InitState
with_name s name = record { names = insert s.names name s.next; next = s.next + 1; network = s.network }

-- addresses with their IDs, as names
abbrev pub names_of : List (Address × ℕ) → Names
names_of names = from_entries (map (λ n. (address n.0, n.1)) names)

-- the state with just these names
abbrev pub made_state : List (Address × ℕ) → ℕ → List ℕ → InitState
made_state names next network = record { names = names_of names; next = next; network = network }
