-- Why bytes are no block under a CID.
use Rattle.std.specs.Prelude.{◌≢◌, ℕ, List}
use Rattle.fil_base.specs.CidParts.{CidParts}
use Rattle.cid_core.specs.CidOf.{HasSupportedHash, digest_under}
use Rattle.cid_core.specs.declared.block.BlockFault.{BlockFault}
use Rattle.cid_core.specs.declared.block.BlockFault.TheVariants.{HashNotSupported, Digest}

-- the hash of the CID is not supported; or it is, and the digest of the bytes is another one
abbrev pub IsBlockFault : CidParts → List ℕ → BlockFault → Type 0
IsBlockFault cid bytes HashNotSupported = HasSupportedHash cid → ⊥
IsBlockFault cid bytes Digest = HasSupportedHash cid × (digest_under cid.hash bytes ≢ cid.digest)
