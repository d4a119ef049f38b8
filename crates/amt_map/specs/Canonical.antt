-- What shows that a node or a root that was read is the canonical one, with no need to build it.
use Rattle.std.specs.Prelude.{◌≡◌, ℕ, ◌&&◌, ◌==◌, Bool, List, [], ◌∷◌, IsTrue, length, pos}
use Rattle.fil_base.specs.CidParts.{CidParts}
use Rattle.cid_core.specs.BlockParts.{BlockParts}
use Rattle.dag_cbor.specs.Spelling.{spelled}
use Rattle.dag_cbor.specs.declared.value.Value.{Value}
use Rattle.dag_cbor.specs.declared.value.Value.TheVariants as v
use Rattle.amt_map.specs.Node.{height_of, node}
use Rattle.amt_map.specs.OneNode.{IsOneNode}
use Rattle.amt_map.specs.Pairs.{Pairs}
use Rattle.amt_map.specs.Reading.{AreSpelled}

-- a CID has the codec of DAG-CBOR and the hash BLAKE2b-256
abbrev pub is_node_cid : CidParts → Bool
is_node_cid cid = cid.codec == 0x71 && cid.hash == 0xb220

-- a root of a height, a count and a node
abbrev pub root_with : ℕ → ℕ → Value → Value
root_with height count node = v.List (v.Int (pos height) ∷ v.Int (pos count) ∷ node ∷ [])

-- a height and a count are those of pairs
abbrev pub has_numbers : {X : Type 0} → ℕ → ℕ → List (ℕ × X) → Bool
has_numbers height count pairs = count == length pairs && height == height_of pairs

-- pairs were read under a root of a height and a count, which a block spells; if its node is full, it is theirs
pub record IsReadRoot (block : BlockParts) (height count : ℕ) (full : Bool) (read : List (ℕ × List ℕ)) (pairs : Pairs) : Type 0 where
  pub are : AreSpelled read pairs
  pub one : IsOneNode 19 0 pairs
  pub bytes : IsTrue full → block.bytes ≡ spelled (root_with height count (node height pairs))
