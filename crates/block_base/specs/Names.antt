-- What a block is found by.
use Rattle.std.specs.Prelude.{◌≡◌, ◌<◌, ℕ, List, length, slice_index_or}
use Rattle.cid_core.specs.BlockParts.{BlockParts}
use Rattle.fil_base.specs.CidParts.{CidParts}
use Rattle.block_base.specs.Index.{cid_at}
use Rattle.block_base.specs.Order.{key_of}
use Rattle.block_base.specs.declared.name.Name.{Name}

-- the name of a CID at a place
pub record IsName (name : Name) (c : CidParts) (at : ℕ) : Type 0 where
  pub key : name.key ≡ key_of c
  pub version : name.version ≡ c.version
  pub codec : name.codec ≡ c.codec
  pub hash : name.hash ≡ c.hash
  pub digest : name.digest.now ≡ c.digest
  pub place : name.place ≡ at

-- each name is that of the block at its place
pub record AreNames (blocks : List BlockParts) (names : List Name) : Type 0 where
  pub size : length names ≡ length blocks
  pub each : (k : ℕ) (d : Name) → k < length names → IsName (slice_index_or names k d) (cid_at blocks k) k
