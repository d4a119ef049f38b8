-- The places of blocks, in the order of their CIDs.
use Rattle.std.specs.Prelude.{◌≡◌, ◌<◌, ℕ, Bool, List, [], All, length, slice_index_or}
use Rattle.std.specs.List.Sorted.{IsSortedBy}
use Rattle.std.specs.Ordering.{is_lt}
use Rattle.cid_core.specs.BlockParts.{BlockParts}
use Rattle.fil_base.specs.CidParts.{CidParts, parts}
use Rattle.block_base.specs.Order.{key_of, rank_cmp}
use Rattle.block_base.specs.declared.index.Entry.{Entry}

-- what stands for the block at a place that is past the last
abbrev pub no_block : BlockParts
no_block = record { cid = parts 0 0 0 []; bytes = [] }

-- the block at a place
abbrev pub block_at : List BlockParts → ℕ → BlockParts
block_at blocks place = slice_index_or blocks place no_block

-- the CID of the block at a place
abbrev pub cid_at : List BlockParts → ℕ → CidParts
cid_at blocks place = (block_at blocks place).cid

-- an entry has the place of a block, and the key of its CID
pub record IsEntry (blocks : List BlockParts) (e : Entry) : Type 0 where
  pub within : e.place < length blocks
  pub key : e.key ≡ key_of (cid_at blocks e.place)

-- what an entry is ordered by
abbrev pub rank_of : List BlockParts → Entry → CidParts × ℕ
rank_of blocks e = (cid_at blocks e.place, e.place)

-- an entry is before a CID at a place
abbrev pub is_before : List BlockParts → Entry → CidParts × ℕ → Bool
is_before blocks e rank = is_lt (rank_cmp (rank_of blocks e) rank)

-- an entry has this place
abbrev pub HasPlace : List Entry → ℕ → Type 0
HasPlace entries place = (j : ℕ) × (j < length entries) × ((d : Entry) → (slice_index_or entries j d).place ≡ place)

-- an entry for each block, in order
pub record IsIndex (blocks : List BlockParts) (entries : List Entry) : Type 0 where
  pub places : All (λ e. IsEntry blocks e) entries
  pub every : (k : ℕ) → k < length blocks → HasPlace entries k
  pub ordered : IsSortedBy (λ a b. is_before blocks a (rank_of blocks b)) entries
