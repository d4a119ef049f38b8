-- Blocks: bytes under their CID (the IPLD specification, "Block").
use Rattle.std.specs.Prelude.{◌≡◌, ℕ, List, [], ◌∷◌, if◌then◌else◌}
use Rattle.std.specs.declared.option.Option.{Option}
use Rattle.std.specs.declared.option.Option.TheVariants.{Some, None}
use Rattle.fil_base.specs.CidParts.{CidParts, IsCid}
use Rattle.fil_base.specs.CidEquality.{same_parts}
use Rattle.cid_core.specs.CidOf.{HasSupportedHash, cid_of, digest_under}

pub record BlockParts : Type 0 where
  pub cid : CidParts
  pub bytes : List ℕ

-- a CID whose hash is supported, and bytes that have its digest
pub record IsBlock (b : BlockParts) : Type 0 where
  pub cid : IsCid b.cid
  pub supported : HasSupportedHash b.cid
  pub matches : digest_under b.cid.hash b.bytes ≡ b.cid.digest

-- the block of bytes in a codec, under BLAKE2b-256
abbrev pub block_of : ℕ → List ℕ → BlockParts
block_of codec bytes = record { cid = cid_of codec bytes; bytes = bytes }

-- the first block under a CID
abbrev pub found : List BlockParts → CidParts → Option BlockParts
found [] cid = None
found (b ∷ blocks) cid = if same_parts b.cid cid then Some b else found blocks cid
