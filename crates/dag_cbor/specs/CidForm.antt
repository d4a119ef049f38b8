-- Which bytes are the spelling of a CID, by its parts from the left.
use Rattle.std.specs.Prelude.{◌≡◌, ℕ, ◌^◌, ◌<◌, ◌≤◌, List, ◌++◌, length}
use Rattle.fil_base.specs.CidParts.{CidParts, IsCid}
use Rattle.fil_base.specs.CidBytes.{cid_bytes}
use Rattle.fil_base.specs.Varint.{varint}

-- a number of varying length, and behind it bytes of which this holds
abbrev pub BeginsWithNumber : (ℕ → List ℕ → Type 0) → List ℕ → Type 0
BeginsWithNumber P bytes = (n : ℕ) × (rest : List ℕ) × (n < 2 ^ 63) × (bytes ≡ varint n ++ rest) × P n rest

-- a digest of this length
abbrev pub IsDigest : ℕ → List ℕ → Type 0
IsDigest len bytes = (len ≤ 128) × (length bytes ≡ len)

-- a hash code, and a digest behind its length
abbrev pub IsMultihash : List ℕ → Type 0
IsMultihash bytes = BeginsWithNumber (λ hash after. BeginsWithNumber IsDigest after) bytes

-- a codec and a multihash
abbrev pub IsContent : List ℕ → Type 0
IsContent bytes = BeginsWithNumber (λ codec after. IsMultihash after) bytes

-- the spelling of a CID
abbrev pub SpellsCid : List ℕ → Type 0
SpellsCid bytes = (cid : CidParts) × IsCid cid × (bytes ≡ cid_bytes cid)
