-- Archives of blocks (the CARv1 specification).
use Rattle.std.specs.Prelude.{◌<◌, ◌^◌, ℕ, pos, List, [], ◌∷◌, ◌++◌, All, codes, length}
use Rattle.std.specs.List.{flat_map}
use Rattle.fil_base.specs.CidBytes.{cid_bytes}
use Rattle.fil_base.specs.CidParts.{CidParts, IsCid}
use Rattle.fil_base.specs.Varint.{varint}
use Rattle.cid_core.specs.BlockParts.{BlockParts, IsBlock}
use Rattle.dag_cbor.specs.Spelling.{spelled}
use Rattle.dag_cbor.specs.declared.value.Value.{Value}
use Rattle.dag_cbor.specs.declared.value.Value.TheVariants as v

-- bytes behind their length
abbrev pub framed : List ℕ → List ℕ
framed bytes = varint (length bytes) ++ bytes

abbrev pub roots : List ℕ
roots = codes "roots"

abbrev pub version : List ℕ
version = codes "version"

-- the header: a map of the roots, here one link, and of the version, 1
abbrev pub header_of : CidParts → Value
header_of root = v.Map ((roots, v.List (v.Link root ∷ [])) ∷ ((version, v.Int (pos 1)) ∷ []))

-- a block's CID and bytes, as they stand in its section
abbrev pub content_of : BlockParts → List ℕ
content_of b = cid_bytes b.cid ++ b.bytes

-- the archive of a root and of blocks: the header, and a section for each block, each behind its length
unfoldable pub car : CidParts → List BlockParts → List ℕ
car root blocks = framed (spelled (header_of root)) ++ flat_map (λ b. framed (content_of b)) blocks

-- a root and blocks that have an archive: a length is below 2^63
pub record IsCar (root : CidParts) (blocks : List BlockParts) : Type 0 where
  pub cid : IsCid root
  pub checked : All IsBlock blocks
  pub short : All (λ b. length (content_of b) < 2 ^ 63) blocks
