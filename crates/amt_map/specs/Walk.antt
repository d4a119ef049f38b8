-- The map of a tree whose blocks are in a list, or its first fault: a node is judged when all its pointers were walked
-- in their order.
use Rattle.std.specs.Prelude.{ℕ, zero, suc, ◌+◌, ◌*◌, ◌/◌, ◌%◌, ◌^◌, ◌&&◌, ◌==◌, List, [], ◌∷◌, ◌++◌, filter, length, map, nat_le, zip, pos, negsuc, if◌then◌else◌}
use Rattle.std.specs.FinMap.{entries, from_entries}
use Rattle.std.specs.declared.option.Option.{Option}
use Rattle.std.specs.declared.option.Option.TheVariants.{None, Some}
use Rattle.std.specs.declared.result.Result.{Result}
use Rattle.std.specs.declared.result.Result.TheVariants.{Ok, Err}
use Rattle.fil_base.specs.CidParts.{CidParts}
use Rattle.cid_core.specs.BlockParts.{BlockParts, found}
use Rattle.dag_cbor.specs.Reading.{whole_at}
use Rattle.std.specs.List.{list_all}
use Rattle.dag_cbor.specs.declared.value.Value.{Value, Value-F, out-Value}
use Rattle.dag_cbor.specs.declared.value.Value.TheOpen as layer
use Rattle.tree_blocks.specs.Forms.{bytes_in, for_each, if_some, items_in}
use Rattle.tree_blocks.specs.Judging.{if_ok, same_block}
use Rattle.tree_blocks.specs.declared.fault.TreeFault.{TreeFault}
use Rattle.tree_blocks.specs.declared.fault.TreeFault.TheVariants.{Missing, Form, NotCanonical}
use Rattle.amt_map.specs.Depth.{is_within}
use Rattle.amt_map.specs.Node.{digits, node_block, root_block}
use Rattle.amt_map.specs.Pairs.{Map, Pairs}

-- what a node or root consists of
pub record Three : Type 0 where
  pub first : Value
  pub second : Value
  pub third : Value

-- three items, and no more
abbrev pub three_of : List Value → Option Three
three_of [] = None
three_of (x ∷ []) = None
three_of (x ∷ y ∷ []) = None
three_of (x ∷ y ∷ z ∷ []) = Some (record { first = x; second = y; third = z })
three_of (x ∷ y ∷ z ∷ w ∷ more) = None

-- the three items of a list of three
abbrev pub three_in : Value → Option Three
three_in value = if_some (items_in (out-Value value)) three_of

-- one byte, and no more
abbrev pub one_byte : List ℕ → Option ℕ
one_byte [] = None
one_byte (byte ∷ []) = Some byte
one_byte (byte ∷ next ∷ more) = None

-- a link's CID
abbrev pub link_in : Value-F Value → Option CidParts
link_in layer.Null = None
link_in (layer.Bool b) = None
link_in (layer.Int n) = None
link_in (layer.Blob bytes) = None
link_in (layer.Text bytes) = None
link_in (layer.List items) = None
link_in (layer.Map pairs) = None
link_in (layer.Link cid) = Some cid

-- a number that is not negative
abbrev pub number_in : Value-F Value → Option ℕ
number_in layer.Null = None
number_in (layer.Bool b) = None
number_in (layer.Int (pos n)) = Some n
number_in (layer.Int (negsuc n)) = None
number_in (layer.Blob bytes) = None
number_in (layer.Text bytes) = None
number_in (layer.List items) = None
number_in (layer.Map pairs) = None
number_in (layer.Link cid) = None

-- the digits whose bits are set in a bitmap
abbrev pub set_digits : ℕ → List ℕ
set_digits bits = filter (λ digit. bits / 2 ^ digit % 2 == 1) digits

-- a node's bitmap, its links and its values
pub record NodeParts : Type 0 where
  pub bits : ℕ
  pub links : List Value
  pub values : List Value

abbrev pub parts_of : Three → Option NodeParts
parts_of three =
    if_some (bytes_in (out-Value three.first)) (λ bytes. if_some (one_byte bytes) (λ bits.
    if_some (items_in (out-Value three.second)) (λ links. if_some (items_in (out-Value three.third)) (λ values.
    Some (record { bits = bits; links = links; values = values })))))

abbrev pub parts_in : Value → Option NodeParts
parts_in value = if_some (three_in value) parts_of

-- the digits of a bitmap, each with what stands there, where there are as many
abbrev pub by_digit : {A : Type 0} → ℕ → List A → Option (List (ℕ × A))
by_digit bits xs = if length xs == length (set_digits bits) then Some (zip (set_digits bits) xs) else None

-- the values of a node at height 0: it has no links, and no value is more than 125 deep
abbrev pub leaf_of : NodeParts → Option (List (ℕ × Value))
leaf_of node = if (length node.links == 0) && list_all (is_within 125) node.values then by_digit node.bits node.values else None

-- the links of a node above height 0: it has no values
abbrev pub inner_of : NodeParts → Option (List (ℕ × CidParts))
inner_of node =
    if length node.values == 0 then if_some (for_each (λ link. link_in (out-Value link)) node.links) (by_digit node.bits) else None

-- the pairs under links in their order, where a child at a first index gives pairs; the links are so many indexes apart
abbrev pub gathered : (ℕ → CidParts → Result Pairs TreeFault) → ℕ → ℕ → List (ℕ × CidParts) → Result Pairs TreeFault
gathered child apart from [] = Ok []
gathered child apart from (link ∷ links) =
    if_ok (child (from + link.0 * apart) link.1) (λ pairs. if_ok (gathered child apart from links) (λ rest. Ok (pairs ++ rest)))

-- the pairs of a leaf whose first index is this
abbrev pub leaf_pairs : CidParts → ℕ → Option (List (ℕ × Value)) → Result Pairs TreeFault
leaf_pairs cid from None = Err (Form cid)
leaf_pairs cid from (Some values) = Ok (map (λ v. (from + v.0, v.1)) values)

-- the pairs under the links of a node whose first index is this
abbrev pub inner_pairs : (ℕ → CidParts → Result Pairs TreeFault) → ℕ → CidParts → ℕ → Option (List (ℕ × CidParts)) → Result Pairs TreeFault
inner_pairs child apart cid from None = Err (Form cid)
inner_pairs child apart cid from (Some links) = gathered child apart from links

-- the value that a block's bytes spell
abbrev pub value_in : List ℕ → Option Value
value_in bytes = spelled_by (whole_at bytes) where
  spelled_by : {F : Type 0} → Result Value F → Option Value
  spelled_by (Ok value) = Some value
  spelled_by (Err fault) = None

-- a node at a height is the one that the pairs under it define
abbrev pub judged : ℕ → BlockParts → Pairs → Result Pairs TreeFault
judged height b pairs =
    if same_block (node_block height pairs) b then Ok pairs else Err (NotCanonical b.cid (node_block height pairs).cid)

-- what the value of the block under a CID gives
abbrev pub with_value : {A : Type 0} → List BlockParts → CidParts → (BlockParts → Value → Result A TreeFault) → Result A TreeFault
with_value {A} blocks cid f = with_block (found blocks cid) where
  spelled_in : BlockParts → Option Value → Result A TreeFault
  spelled_in b None = Err (Form cid)
  spelled_in b (Some value) = f b value

  with_block : Option BlockParts → Result A TreeFault
  with_block None = Err (Missing cid)
  with_block (Some b) = spelled_in b (value_in b.bytes)

-- the pairs under a child at a height, where a node gives its pairs
abbrev pub child_at : List BlockParts → ℕ → (CidParts → ℕ → Value → Result Pairs TreeFault) → ℕ → CidParts → Result Pairs TreeFault
child_at blocks height node from cid = with_value blocks cid (λ b value. if_ok (node cid from value) (judged height b))

-- the pairs under the node that a value is, at a height, in the block under a CID; the node's first index is given
unfoldable pub node_pairs : List BlockParts → ℕ → CidParts → ℕ → Value → Result Pairs TreeFault
node_pairs blocks zero cid from value = leaf_pairs cid from (if_some (parts_in value) leaf_of)
node_pairs blocks (suc height) cid from value =
    inner_pairs (child_at blocks height (node_pairs blocks height)) (8 ^ suc height) cid from (if_some (parts_in value) inner_of)

-- a root's height, which is at most 19, and its node
abbrev pub root_parts : Value → Option (ℕ × Value)
root_parts value =
    if_some (three_in value) (λ three. if_some (number_in (out-Value three.first)) (λ height.
    if_some (number_in (out-Value three.second)) (λ count. if nat_le height 19 then Some (height, three.third) else None)))

-- a root is the one that the pairs of a map define
abbrev pub judged_root : BlockParts → Map → Result Map TreeFault
judged_root b m = if same_block (root_block (entries m)) b then Ok m else Err (NotCanonical b.cid (root_block (entries m)).cid)

-- the map under a root
abbrev pub root_pairs : List BlockParts → CidParts → Option (ℕ × Value) → Result Pairs TreeFault
root_pairs blocks root None = Err (Form root)
root_pairs blocks root (Some parts) = node_pairs blocks parts.0 root 0 parts.1

-- the map of the tree under a root
abbrev pub amt_at : List BlockParts → CidParts → Result Map TreeFault
amt_at blocks root =
    with_value blocks root (λ b value. if_ok (root_pairs blocks root (root_parts value)) (λ pairs. judged_root b (from_entries pairs)))
