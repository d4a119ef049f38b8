-- The CID of content under a hash (the CID specification; the multihash specification; the multicodec table).
use Rattle.std.specs.Prelude.{◌≡◌, ◌==◌, ◌⊎◌, ℕ, List, length, if◌then◌else◌}
use Rattle.sha2.specs.Sha256.{sha256}
use Rattle.blake2b_hash.specs.Blake.{blake}
use Rattle.fil_base.specs.CidParts.{CidParts, parts}

-- the digest of bytes under a supported hash: 0xb220 is BLAKE2b-256, and 0x12 is SHA2-256
abbrev pub digest_under : ℕ → List ℕ → List ℕ
digest_under hash bytes = if hash == 0xb220 then blake 32 bytes else sha256 bytes

-- a CID whose hash can be checked: version 1, under BLAKE2b-256 or SHA2-256, with 32 bytes
pub record HasSupportedHash (c : CidParts) : Type 0 where
  pub version : c.version ≡ 1
  pub hash : (c.hash ≡ 0xb220) ⊎ (c.hash ≡ 0x12)
  pub digest : length c.digest ≡ 32

-- the CID of bytes in a codec: version 1, under BLAKE2b-256
abbrev pub cid_of : ℕ → List ℕ → CidParts
cid_of codec bytes = parts 1 codec 0xb220 (blake 32 bytes)
