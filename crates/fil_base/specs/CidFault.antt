-- Which CID is at the front of bytes, or why none is. Bytes are judged from the left: at the version, the codec, the
-- hash code, the length of the digest, and the digest.
use Rattle.std.specs.Prelude.{◌≡◌, ◌≢◌, ◌<◌, ◌≤◌, ◌^◌, ◌⊎◌, ℕ, List, [], ◌∷◌, ◌++◌, length}
use Rattle.fil_base.specs.CidBytes.{cid_bytes}
use Rattle.fil_base.specs.CidParts.{CidParts, IsCid}
use Rattle.fil_base.specs.Varint.{varint}
use Rattle.fil_base.specs.VarintFault.{IsVarintFault}
use Rattle.fil_base.specs.declared.cid.CidFault.{CidFault}
use Rattle.fil_base.specs.declared.cid.CidFault.TheVariants.{Varint, Version, TooLong, Cut}
use Rattle.fil_base.specs.declared.varint.VarintFault.TheVariants.{Cut as VarintCut, TooLong as VarintTooLong, NotShortest as VarintNotShortest}

-- the bytes are the spelling of the CID, and then the rest
pub record FoundCid (bytes : List ℕ) (c : CidParts) (rest : List ℕ) : Type 0 where
  pub cid : IsCid c
  pub spelled : bytes ≡ cid_bytes c ++ rest

-- the number at the front of the bytes has the fault
abbrev pub IsNumberFault : List ℕ → CidFault → Type 0
IsNumberFault bytes Varint = IsVarintFault bytes VarintTooLong ⊎ IsVarintFault bytes VarintNotShortest
IsNumberFault bytes Version = ⊥
IsNumberFault bytes TooLong = ⊥
IsNumberFault bytes Cut = IsVarintFault bytes VarintCut

-- the number at the front has the fault, or there is a number, and the fault is behind it
abbrev pub IsFaultFrom : List ℕ → CidFault → (ℕ → List ℕ → Type 0) → Type 0
IsFaultFrom bytes fault IsBehind =
    IsNumberFault bytes fault ⊎ ((n : ℕ) × (rest : List ℕ) × (n < 2 ^ 63) × (bytes ≡ varint n ++ rest) × IsBehind n rest)

-- the digest, which is to have this length, has the fault
abbrev pub IsDigestFault : CidFault → ℕ → List ℕ → Type 0
IsDigestFault Varint len bytes = ⊥
IsDigestFault Version len bytes = ⊥
IsDigestFault TooLong len bytes = 128 < len
IsDigestFault Cut len bytes = (len ≤ 128) × (length bytes < len)

-- the fault is in the digest's length or behind it
abbrev pub IsLengthFault : CidFault → List ℕ → Type 0
IsLengthFault fault bytes = IsFaultFrom bytes fault (IsDigestFault fault)

-- the fault is in the hash code or behind it
abbrev pub IsHashFault : CidFault → List ℕ → Type 0
IsHashFault fault bytes = IsFaultFrom bytes fault (λ hash rest. IsLengthFault fault rest)

-- the fault is in the codec or behind it
abbrev pub IsCodecFault : CidFault → List ℕ → Type 0
IsCodecFault fault bytes = IsFaultFrom bytes fault (λ codec rest. IsHashFault fault rest)

-- the fault is in the version, which is to be 1, or behind it
abbrev pub IsVersionFault : CidFault → List ℕ → Type 0
IsVersionFault fault bytes =
    IsFaultFrom bytes fault (λ version rest. ((version ≢ 1) × (fault ≡ Version)) ⊎ ((version ≡ 1) × IsCodecFault fault rest))

-- the bytes begin as a CID of version 0 does, with 12 20, as far as they go
abbrev pub BeginsVersion0 : List ℕ → Type 0
BeginsVersion0 bytes = (bytes ≡ 0x12 ∷ []) ⊎ ((rest : List ℕ) × (bytes ≡ 0x12 ∷ (0x20 ∷ rest)))

-- why no CID is at the front of the bytes: some of the 34 bytes of one of version 0 are missing, or they are to be one
-- of version 1, which has a fault
abbrev pub IsCidFault : List ℕ → CidFault → Type 0
IsCidFault bytes fault =
    (BeginsVersion0 bytes × (length bytes < 34) × (fault ≡ Cut)) ⊎ ((BeginsVersion0 bytes → ⊥) × IsVersionFault fault bytes)
