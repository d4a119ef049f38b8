-- Which blocks of a tree are new.
use Rattle.std.specs.Prelude.{◌≡◌, ℕ, List, [], ◌∷◌, ◌++◌, is_some, if◌then◌else◌}
use Rattle.std.specs.Cmp.Lexicographic.{slice_cmp}
use Rattle.std.specs.List.{list_any}
use Rattle.std.specs.Ordering.{is_eq, nat_cmp}
use Rattle.std.specs.declared.cmp.Ordering.{Ordering}
use Rattle.fil_base.specs.CidParts.{CidParts, parts}
use Rattle.cid_core.specs.BlockParts.{BlockParts, found}

-- blocks that a list does not hold, each CID once
abbrev pub new_blocks : List BlockParts → List BlockParts → List BlockParts
new_blocks held [] = []
new_blocks held (b ∷ blocks) =
    if is_some (found held b.cid) then new_blocks held blocks else b ∷ new_blocks (held ++ (b ∷ [])) blocks

-- the CID of a node, by its digest: version 1, DAG-CBOR, BLAKE2b-256
abbrev pub node_cid : List ℕ → CidParts
node_cid digest = parts 1 0x71 0xb220 digest

-- a block has the CID of a node
pub record IsNodeBlock (b : BlockParts) : Type 0 where
  pub cid : b.cid ≡ node_cid b.cid.digest

-- digests are compared by their bytes
abbrev pub digest_cmp : List ℕ → List ℕ → Ordering
digest_cmp = slice_cmp nat_cmp

-- these are the digests of the nodes
pub record AreDigests (digests : List (List ℕ)) (nodes : List BlockParts) : Type 0 where
  pub same : (digest : List ℕ) → list_any (λ d. is_eq (digest_cmp digest d)) digests ≡ is_some (found nodes (node_cid digest))
