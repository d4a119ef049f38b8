-- The bytes of nodes, by the spellings of what stands in them (the DAG-CBOR specification).
use Rattle.std.specs.Prelude.{◌≡◌, ℕ, zero, suc, List, [], ◌∷◌, ◌++◌, length, map}
use Rattle.std.specs.List.{flat_map}
use Rattle.cid_core.specs.BlockParts.{BlockParts, block_of}
use Rattle.dag_cbor.specs.Spelling.{head, joined, spelled}
use Rattle.dag_cbor.specs.declared.value.Value.TheVariants as v
use Rattle.amt_map.specs.Node.{bitmap, groups, height_of}

-- indexes with the spellings of their values
abbrev pub Spellings : Type 0
Spellings = List (ℕ × List ℕ)

-- a node with this bitmap, and with links and values that are spelled so
abbrev pub node_text : ℕ → List (List ℕ) → List (List ℕ) → List ℕ
node_text bits links values =
    head 4 3 ++ ((head 2 1 ++ (bits ∷ [])) ++ ((head 4 (length links) ++ joined links) ++ (head 4 (length values) ++ joined values)))

-- the spelling of the link to a node that is spelled so
abbrev pub link_text : List ℕ → List ℕ
link_text node = spelled (v.Link (block_of 0x71 node).cid)

-- the values of a group
abbrev pub values_of : ℕ × Spellings → List (List ℕ)
values_of g = map (λ p. p.1) g.1

-- the node of pairs at a height
unfoldable pub text_at : ℕ → Spellings → List ℕ
text_at zero pairs = node_text (bitmap (groups 0 pairs)) [] (flat_map values_of (groups 0 pairs))
text_at (suc height) pairs =
    node_text (bitmap (groups (suc height) pairs)) (flat_map (λ g. link_text (text_at height g.1) ∷ []) (groups (suc height) pairs)) []

-- the link to a group's node at a height
abbrev pub links_of : ℕ → ℕ × Spellings → List (List ℕ)
links_of height g = link_text (text_at height g.1) ∷ []

-- the blocks of the nodes under a node: children before parents, by rising digit
unfoldable pub blocks_under : ℕ → Spellings → List BlockParts
blocks_under zero pairs = []
blocks_under (suc height) pairs =
    flat_map (λ g. blocks_under height g.1 ++ (block_of 0x71 (text_at height g.1) ∷ [])) (groups (suc height) pairs)

-- those and the node's own
abbrev pub blocks_of : ℕ → Spellings → List BlockParts
blocks_of height pairs = blocks_under height pairs ++ (block_of 0x71 (text_at height pairs) ∷ [])

-- what stands for groups: the bits of their digits, how many links or values there are, and these, spelled
pub record AreSlots (spellings : ℕ × Spellings → List (List ℕ)) (groups : List (ℕ × Spellings)) (bits count : ℕ) (items : List ℕ) : Type 0 where
  pub bits_are : bits ≡ bitmap groups
  pub count_is : count ≡ length (flat_map spellings groups)
  pub items_are : items ≡ joined (flat_map spellings groups)

-- the root of pairs
unfoldable pub root_text : Spellings → List ℕ
root_text pairs = head 4 3 ++ (head 0 (height_of pairs) ++ (head 0 (length pairs) ++ text_at (height_of pairs) pairs))
