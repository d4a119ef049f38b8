-- What the steps of a walk put, and what shows that the nodes that were walked are canonical ones.
use Rattle.std.specs.Prelude.{◌≡◌, ℕ, ◌-◌, ◌^◌, ◌<◌, Bool, List, [], ◌++◌, IfSome, T, length, map}
use Rattle.std.specs.FinMap.{entries}
use Rattle.std.specs.List.{AllByRecursion, flat_map}
use Rattle.std.specs.declared.option.Option.{Option}
use Rattle.std.specs.declared.option.Option.TheVariants.{Some}
use Rattle.std.specs.declared.result.Result.{Result}
use Rattle.std.specs.declared.result.Result.TheVariants.{Ok}
use Rattle.fil_base.specs.CidParts.{CidParts}
use Rattle.cid_core.specs.BlockParts.{BlockParts, found}
use Rattle.dag_cbor.specs.Spelling.{spelled}
use Rattle.dag_cbor.specs.declared.value.Value.{Value}
use Rattle.hamt_map.specs.Canonical.{ArePut, map_of, node_of, pointer_value}
use Rattle.hamt_map.specs.Groups.{bits_from, by_place, nodes_of, nodes_under, pointer_to, pointers_of}
use Rattle.hamt_map.specs.Holds.{FitNodes, spellings}
use Rattle.hamt_map.specs.Kept.{AreHeld}
use Rattle.hamt_map.specs.Loading.{gathered_map, map_under}
use Rattle.hamt_map.specs.Node.{nodes}
use Rattle.hamt_map.specs.Pairs.{Map, Pairs, at_place, place_on}
use Rattle.hamt_map.specs.Walk.{Pointer}
use Rattle.tree_blocks.specs.declared.fault.TreeFault.{TreeFault}

-- pairs are those under a pointer of a canonical node, which has this place, and all nodes of the pointer are held
pub record PointsTo (held : List BlockParts) (below : ℕ) (pairs : Pairs) (pointer : Value) (place : ℕ) : Type 0 where
  pub small : place < 32
  pub some : 0 < length pairs
  pub there : AllByRecursion (λ p. place_on (51 - below) p.0 ≡ place) pairs
  pub same : pointer_to below (entries (map_of pairs)) ≡ pointer
  pub once : length pairs ≡ length (entries (map_of pairs))
  pub nodes : AreHeld held (nodes_of below (entries (map_of pairs)))

-- pairs are those under the first pointers of a canonical node, whose places have these bits, and all nodes of the
-- pointers are held
pub record StandIn (held : List BlockParts) (below : ℕ) (pairs : Pairs) (pointers : List Value) (bits : ℕ) : Type 0 where
  pub same : flat_map (pointers_of below) (by_place (51 - below) (entries (map_of pairs))) ≡ pointers
  pub field : bits_from 0 (by_place (51 - below) (entries (map_of pairs))) ≡ bits
  pub behind : (k : ℕ) → bits < 2 ^ k → at_place (51 - below) k pairs ≡ []
  pub once : length pairs ≡ length (entries (map_of pairs))
  pub nodes : AreHeld held (nodes_under below (entries (map_of pairs)))

-- the pairs under a node stand behind those that were there; if all its nodes have the form of canonical ones, they
-- are held
pub record IsTreePut (held : List BlockParts) (below : ℕ) (walked : Result Map TreeFault) (old new : List (List ℕ × List ℕ)) (by_form : Bool) : Type 0 where
  pub put : ArePut walked old new
  pub kept : T by_form → AreHeld held (nodes below (entries (map_of put.pairs)))

-- the pairs under a pointer stand behind those that were there; with its place, if it is that of a canonical node
pub record IsPointerPut (held : List BlockParts) (child : CidParts → Result Map TreeFault) (below : ℕ) (pointer : Pointer) (old new : List (List ℕ × List ℕ)) (place : Option ℕ) : Type 0 where
  pub pairs : Pairs
  pub walk : map_under child pointer ≡ Ok (map_of pairs)
  pub put : new ≡ old ++ spellings pairs
  pub fit : FitNodes pairs
  pub canonical : IfSome place (PointsTo held below pairs (pointer_value pointer))

-- the pairs under pointers stand behind those that were there; with the bits of their places, if they are those of a
-- canonical node
pub record ArePointersPut (held : List BlockParts) (child : CidParts → Result Map TreeFault) (below : ℕ) (pointers : List Pointer) (old new : List (List ℕ × List ℕ)) (places : Option ℕ) : Type 0 where
  pub pairs : Pairs
  pub walk : gathered_map child pointers ≡ Ok (map_of pairs)
  pub put : new ≡ old ++ spellings pairs
  pub fit : FitNodes pairs
  pub canonical : IfSome places (StandIn held below pairs (map pointer_value pointers))

-- pairs were read under a node of a bit field and pointers, which a block that is held spells
pub record IsRead (held : List BlockParts) (below : ℕ) (block : BlockParts) (bits : List ℕ) (places : Option ℕ) (leaves : List (List ℕ × List ℕ)) (m : Map) : Type 0 where
  pub pairs : Pairs
  pub pointers : List Value
  pub same : leaves ≡ spellings pairs
  pub fit : FitNodes pairs
  pub map : m ≡ map_of pairs
  pub first : found held block.cid ≡ Some block
  pub bytes : block.bytes ≡ spelled (node_of bits pointers)
  pub canonical : IfSome places (StandIn held below pairs pointers)
