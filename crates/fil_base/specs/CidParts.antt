-- The parts of a CID, and which of them make one (the CID specification; the multihash specification).
use Rattle.std.specs.Prelude.{◌≡◌, ℕ, ◌^◌, ◌<◌, ◌≤◌, List, length}

pub record CidParts : Type 0 where
  pub version : ℕ
  pub codec : ℕ
  pub hash : ℕ
  pub digest : List ℕ

-- version 0 has one form, DAG-PB under SHA2-256 with 32 bytes
pub record IsVersion0 (c : CidParts) : Type 0 where
  pub codec : c.codec ≡ 0x70
  pub hash : c.hash ≡ 0x12
  pub digest : length c.digest ≡ 32

-- a version 0 or 1, a codec and a hash code below 2^63, and a digest of at most 128 bytes
pub record IsCid (c : CidParts) : Type 0 where
  pub version : c.version ≤ 1
  pub codec : c.codec < 2 ^ 63
  pub hash : c.hash < 2 ^ 63
  pub digest : length c.digest ≤ 128
  pub version0 : c.version ≡ 0 → IsVersion0 c

-- these four
abbrev pub parts : ℕ → ℕ → ℕ → List ℕ → CidParts
parts v c h d = record { version = v; codec = c; hash = h; digest = d }
