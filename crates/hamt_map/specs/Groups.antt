-- The groups of a node as one list, which has the pairs of each place, and none where there are none.
use Rattle.std.specs.Prelude.{ℕ, zero, suc, ◌+◌, ◌-◌, ◌^◌, List, [], ◌∷◌, Bool, length, map, nat_lt, if◌then◌else◌}
use Rattle.std.specs.List.{flat_map}
use Rattle.cid_core.specs.BlockParts.{BlockParts}
use Rattle.dag_cbor.specs.declared.value.Value.{Value}
use Rattle.dag_cbor.specs.declared.value.Value.TheVariants as v
use Rattle.hamt_map.specs.Pairs.{Pairs, at_place}
use Rattle.hamt_map.specs.Node.{bucket, is_small, node_block, nodes, places}

-- the pairs at each place of a level
abbrev pub by_place : ℕ → Pairs → List Pairs
by_place level pairs = map (λ place. at_place level place pairs) places

-- there are pairs
abbrev pub is_group : Pairs → Bool
is_group pairs = nat_lt 0 (length pairs)

-- the bits of the places that have a group, from a place on
abbrev pub bits_from : ℕ → List Pairs → ℕ
bits_from place [] = 0
bits_from place (group ∷ rest) = (if is_group group then 2 ^ place else 0) + bits_from (place + 1) rest

-- the pointer to a group
unfoldable pub pointer_to : ℕ → Pairs → Value
pointer_to zero group = bucket group
pointer_to (suc below) group = if is_small group then bucket group else v.Link (node_block below group).cid

-- the pointer to the pairs of a place, if there are any
unfoldable pub pointers_of : ℕ → Pairs → List Value
pointers_of below pairs = if is_group pairs then pointer_to below pairs ∷ [] else []

-- the blocks of the node of a group and of those under it, if it has one
unfoldable pub nodes_of : ℕ → Pairs → List BlockParts
nodes_of zero group = []
nodes_of (suc below) group = if is_small group then [] else nodes below group

-- the blocks of the nodes under a node: children before parents, by rising place
unfoldable pub nodes_under : ℕ → Pairs → List BlockParts
nodes_under below pairs = flat_map (nodes_of below) (by_place (51 - below) pairs)
