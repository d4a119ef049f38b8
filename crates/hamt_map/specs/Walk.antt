-- The map of a tree whose blocks are in a list, or its first fault: a node is judged when all its pointers were walked
-- in their order. How many levels are below a node is 50 for the root, and 0 for one on the last level.
use Rattle.std.specs.Prelude.{ℕ, zero, suc, ◌&&◌, ◌==◌, List, [], ◌∷◌, ◌++◌, length, nat_le, if◌then◌else◌}
use Rattle.std.specs.FinMap.{entries, from_entries}
use Rattle.std.specs.declared.option.Option.{Option}
use Rattle.std.specs.declared.option.Option.TheVariants.{None, Some}
use Rattle.std.specs.declared.result.Result.{Result}
use Rattle.std.specs.declared.result.Result.TheVariants.{Ok, Err}
use Rattle.fil_base.specs.CidParts.{CidParts}
use Rattle.cid_core.specs.BlockParts.{BlockParts, found}
use Rattle.dag_cbor.specs.Reading.{whole_at}
use Rattle.dag_cbor.specs.declared.value.Value.{Value, Value-F, out-Value}
use Rattle.dag_cbor.specs.declared.value.Value.TheOpen as layer
use Rattle.tree_blocks.specs.Forms.{bytes_in, for_each, if_some, items_in, set_bits}
use Rattle.tree_blocks.specs.Judging.{if_ok, same_block}
use Rattle.hamt_map.specs.Node.{node_block}
use Rattle.hamt_map.specs.Pairs.{Map, Pairs}
use Rattle.tree_blocks.specs.declared.fault.TreeFault.{TreeFault}
use Rattle.tree_blocks.specs.declared.fault.TreeFault.TheVariants.{Missing, Form, NotCanonical}

-- what a pointer of a node points to: pairs that stand in it, or a node below
pub data Pointer : Type 0 where
  Bucket : Pairs → Pointer
  Child : CidParts → Pointer

-- two items, and no more
abbrev pub two_of : List Value → Option (Value × Value)
two_of [] = None
two_of (x ∷ []) = None
two_of (x ∷ y ∷ []) = Some (x, y)
two_of (x ∷ y ∷ z ∷ more) = None

-- the two items of a list of two
abbrev pub two_in : Value → Option (Value × Value)
two_in value = if_some (items_in (out-Value value)) two_of

-- a pair of a bucket: a byte string, and its value
abbrev pub pair_in : Value → Option (List ℕ × Value)
pair_in value = if_some (two_in value) (λ both. if_some (bytes_in (out-Value both.0)) (λ key. Some (key, both.1)))

-- a pointer is a bucket, or a link where there is a level below
abbrev pub pointer_of : ℕ → Value-F Value → Option Pointer
pointer_of below layer.Null = None
pointer_of below (layer.Bool b) = None
pointer_of below (layer.Int n) = None
pointer_of below (layer.Blob bytes) = None
pointer_of below (layer.Text bytes) = None
pointer_of below (layer.List items) = if_some (for_each pair_in items) (λ pairs. Some (Bucket pairs))
pointer_of below (layer.Map pairs) = None
pointer_of below (layer.Link cid) = if below == 0 then None else Some (Child cid)

-- a bit field has at most 4 bytes, and as many set bits as there are pointers
abbrev pub with_bits : List ℕ → List Value → Option (List Value)
with_bits bits pointers = if nat_le (length bits) 4 && (length pointers == set_bits bits) then Some pointers else None

-- a node is a list of its bit field and of its pointers
abbrev pub behind_bits : Value × Value → Option (List Value)
behind_bits both = if_some (bytes_in (out-Value both.0)) (λ bits. if_some (items_in (out-Value both.1)) (with_bits bits))

-- the values where a node has its pointers
abbrev pub pointer_values : Value → Option (List Value)
pointer_values value = if_some (two_in value) behind_bits

-- the pointers of a node
abbrev pub pointers_in : ℕ → Value → Option (List Pointer)
pointers_in below value = if_some (pointer_values value) (for_each (λ pointer. pointer_of below (out-Value pointer)))

-- those of the node that a block's bytes spell
abbrev pub node_in : ℕ → List ℕ → Option (List Pointer)
node_in below bytes = spelled_by (whole_at bytes) where
  spelled_by : {F : Type 0} → Result Value F → Option (List Pointer)
  spelled_by (Ok value) = pointers_in below value
  spelled_by (Err fault) = None

-- the pairs under pointers, in their order, where a child gives a map
abbrev pub gathered : (CidParts → Result Map TreeFault) → List Pointer → Result Pairs TreeFault
gathered child [] = Ok []
gathered child (Bucket pairs ∷ pointers) = if_ok (gathered child pointers) (λ rest. Ok (pairs ++ rest))
gathered child (Child cid ∷ pointers) = if_ok (child cid) (λ m. if_ok (gathered child pointers) (λ rest. Ok (entries m ++ rest)))

-- a node is the one that the pairs under it define
abbrev pub judged : ℕ → BlockParts → Map → Result Map TreeFault
judged below b m =
    if same_block (node_block below (entries m)) b then Ok m else Err (NotCanonical b.cid (node_block below (entries m)).cid)

-- a node and what is under it; of a key that is met twice the first value counts
abbrev pub walked : List BlockParts → ℕ → (CidParts → Result Map TreeFault) → CidParts → Result Map TreeFault
walked blocks below child cid = with_block (found blocks cid) where
  with_node : BlockParts → Option (List Pointer) → Result Map TreeFault
  with_node b None = Err (Form cid)
  with_node b (Some pointers) = if_ok (gathered child pointers) (λ pairs. judged below b (from_entries pairs))

  with_block : Option BlockParts → Result Map TreeFault
  with_block None = Err (Missing cid)
  with_block (Some b) = with_node b (node_in below b.bytes)

-- the map of the tree under a node
unfoldable pub walk : List BlockParts → ℕ → CidParts → Result Map TreeFault
walk blocks zero cid = walked blocks zero (λ child. Err (Form child)) cid
walk blocks (suc below) cid = walked blocks (suc below) (walk blocks below) cid

-- the map of the tree under a root
abbrev pub hamt_at : List BlockParts → CidParts → Result Map TreeFault
hamt_at blocks root = walk blocks 50 root
