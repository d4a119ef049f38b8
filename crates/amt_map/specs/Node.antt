-- The nodes of the one tree of some pairs, in DAG-CBOR under BLAKE2b-256. Values stand at height 0. The node at the
-- greatest height has no block of its own: it stands in the root's.
use Rattle.std.specs.Prelude.{ℕ, zero, suc, ◌^◌, List, [], ◌∷◌, ◌++◌, filter, length, map, nat_lt, pos, sum, if◌then◌else◌}
use Rattle.std.specs.FinMap.{entries}
use Rattle.std.specs.List.{flat_map, list_all}
use Rattle.fil_base.specs.CidParts.{CidParts}
use Rattle.cid_core.specs.BlockParts.{BlockParts, block_of}
use Rattle.dag_cbor.specs.Spelling.{spelled}
use Rattle.dag_cbor.specs.declared.value.Value.{Value}
use Rattle.dag_cbor.specs.declared.value.Value.TheVariants as v
use Rattle.amt_map.specs.Pairs.{Map, Pairs, with_digit}

-- the digits
abbrev pub digits : List ℕ
digits = 0 ∷ 1 ∷ 2 ∷ 3 ∷ 4 ∷ 5 ∷ 6 ∷ 7 ∷ []

-- the groups of pairs with one digit at a height, which are not empty, by rising digit
unfoldable pub groups : {X : Type 0} → ℕ → List (ℕ × X) → List (ℕ × List (ℕ × X))
groups height pairs = filter (λ g. nat_lt 0 (length g.1)) (map (λ digit. (digit, with_digit height digit pairs)) digits)

-- the bit of each digit that has a group, in one byte, that of digit 0 the lowest
abbrev pub bitmap : {G : Type 0} → List (ℕ × G) → ℕ
bitmap gs = sum (map (λ g. 2 ^ g.0) gs)

-- a node: its bitmap, its links and its values
abbrev pub node_of : ℕ → List Value → List Value → Value
node_of bits links values = v.List (v.Blob (bits ∷ []) ∷ v.List links ∷ v.List values ∷ [])

-- the node of pairs: at height 0 it has their values, else a link to the node of each group
unfoldable pub node : ℕ → Pairs → Value
node zero pairs = node_of (bitmap (groups 0 pairs)) [] (flat_map (λ g. map (λ p. p.1) g.1) (groups 0 pairs))
node (suc height) pairs =
    node_of (bitmap (groups (suc height) pairs)) (map (λ g. v.Link (block_of 0x71 (spelled (node height g.1))).cid) (groups (suc height) pairs)) []

-- its block
abbrev pub node_block : ℕ → Pairs → BlockParts
node_block height pairs = block_of 0x71 (spelled (node height pairs))

-- the blocks of the nodes under a node: children before parents, by rising digit
unfoldable pub nodes_under : ℕ → Pairs → List BlockParts
nodes_under zero pairs = []
nodes_under (suc height) pairs =
    flat_map (λ g. nodes_under height g.1 ++ (node_block height g.1 ∷ [])) (groups (suc height) pairs)

-- the least height up to a given one at which all indexes are below 8 ^ (height + 1)
abbrev pub height_within : {X : Type 0} → ℕ → List (ℕ × X) → ℕ
height_within zero pairs = 0
height_within (suc height) pairs = if list_all (λ p. nat_lt p.0 (8 ^ suc height)) pairs then height_within height pairs else suc height

-- the height of a tree: indexes are below 2 ^ 60, so it is at most 19
unfoldable pub height_of : {X : Type 0} → List (ℕ × X) → ℕ
height_of pairs = height_within 19 pairs

-- the root: the height, the count of the pairs, and their node at that height
abbrev pub root_of : Pairs → Value
root_of pairs = v.List (v.Int (pos (height_of pairs)) ∷ v.Int (pos (length pairs)) ∷ node (height_of pairs) pairs ∷ [])

-- its block
abbrev pub root_block : Pairs → BlockParts
root_block pairs = block_of 0x71 (spelled (root_of pairs))

-- the blocks of the tree of a map, the root's last
abbrev pub amt_nodes : Map → List BlockParts
amt_nodes m = nodes_under (height_of (entries m)) (entries m) ++ (root_block (entries m) ∷ [])

-- the CID of its root
abbrev pub amt_root : Map → CidParts
amt_root m = (root_block (entries m)).cid
