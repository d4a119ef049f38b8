-- The nodes of the one tree of some pairs (the IPLD HashMap specification), in DAG-CBOR under BLAKE2b-256. A definition
-- by recursion goes by how many levels are below a node: 50 below the root, and none below the last level, 51.
use Rattle.std.specs.Prelude.{ℕ, zero, suc, ◌-◌, ◌^◌, List, [], ◌∷◌, ◌++◌, filter, length, map, nat_le, nat_lt, sum, Bool, if◌then◌else◌}
use Rattle.std.specs.FinMap.{entries}
use Rattle.std.specs.Int.Digits.{digits_of}
use Rattle.std.specs.List.{flat_map}
use Rattle.fil_base.specs.CidParts.{CidParts}
use Rattle.cid_core.specs.BlockParts.{BlockParts, block_of}
use Rattle.dag_cbor.specs.Spelling.{spelled}
use Rattle.dag_cbor.specs.declared.value.Value.{Value}
use Rattle.dag_cbor.specs.declared.value.Value.TheVariants as v
use Rattle.hamt_map.specs.Pairs.{Map, Pairs, at_place}

-- the places of a node
abbrev pub places : List ℕ
places =
    0 ∷ 1 ∷ 2 ∷ 3 ∷ 4 ∷ 5 ∷ 6 ∷ 7 ∷ 8 ∷ 9 ∷ 10 ∷ 11 ∷ 12 ∷ 13 ∷ 14 ∷ 15 ∷ 16 ∷ 17 ∷ 18 ∷ 19 ∷ 20 ∷ 21 ∷ 22 ∷ 23 ∷ 24 ∷ 25 ∷ 26 ∷ 27 ∷ 28 ∷ 29 ∷ 30 ∷ 31 ∷ []

-- the groups of pairs with one place on a level, which are not empty, by rising place
abbrev pub groups : ℕ → Pairs → List (ℕ × Pairs)
groups level pairs = filter (λ g. nat_lt 0 (length g.1)) (map (λ place. (place, at_place level place pairs)) places)

-- the bit of each place that has a group, as a number's bytes, big-endian and without leading zeros
abbrev pub bitfield : List (ℕ × Pairs) → List ℕ
bitfield gs = digits_of 256 (sum (map (λ g. 2 ^ g.0) gs))

-- a pair of a bucket: its key and its value
abbrev pub pair_value : List ℕ × Value → Value
pair_value p = v.List (v.Blob p.0 ∷ (p.1 ∷ []))

-- a bucket: its pairs by rising key
abbrev pub bucket : Pairs → Value
bucket pairs = v.List (map pair_value pairs)

-- a node on a level: the bit field, and a pointer for each group
abbrev pub node_with : (Pairs → Value) → ℕ → Pairs → Value
node_with pointer level pairs =
    v.List (v.Blob (bitfield (groups level pairs)) ∷ (v.List (map (λ g. pointer g.1) (groups level pairs)) ∷ []))

-- a group stands in a bucket, where it has three pairs at most
abbrev pub is_small : Pairs → Bool
is_small pairs = nat_le (length pairs) 3

-- the node of pairs: a greater group is a link to its own node; on the last level each group is a bucket
unfoldable pub node : ℕ → Pairs → Value
node zero pairs = node_with bucket 51 pairs
node (suc below) pairs =
    node_with (λ group. if is_small group then bucket group else v.Link (block_of 0x71 (spelled (node below group))).cid) (50 - below) pairs

-- its block
abbrev pub node_block : ℕ → Pairs → BlockParts
node_block below pairs = block_of 0x71 (spelled (node below pairs))

-- the blocks of a node and of all nodes under it: children before parents, by rising place
unfoldable pub nodes : ℕ → Pairs → List BlockParts
nodes zero pairs = node_block zero pairs ∷ []
nodes (suc below) pairs =
    flat_map (λ g. if is_small g.1 then [] else nodes below g.1) (groups (50 - below) pairs) ++ (node_block (suc below) pairs ∷ [])

-- the blocks of the tree of a map, the root's last
abbrev pub hamt_nodes : Map → List BlockParts
hamt_nodes m = nodes 50 (entries m)

-- the CID of its root
abbrev pub hamt_root : Map → CidParts
hamt_root m = (node_block 50 (entries m)).cid
