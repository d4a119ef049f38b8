-- The text of a CID of version 1 (the CID specification, "Stringified form"; the multibase table).
use Rattle.std.specs.Prelude.{◌≡◌, ◌≢◌, ◌<◌, ℕ, List, ◌∷◌, All}
use Rattle.fil_base.specs.Base32.{base32}
use Rattle.fil_base.specs.CidBytes.{cid_bytes}
use Rattle.fil_base.specs.CidParts.{CidParts, IsCid}
use Rattle.cid_core.specs.declared.text.CidTextFault.{CidTextFault}
use Rattle.cid_core.specs.declared.text.CidTextFault.TheVariants.{Prefix, Base32, Form}

-- `b`, the sign of base 32 in lower case, and the bytes in it
abbrev pub cid_text : CidParts → List ℕ
cid_text c = 98 ∷ base32 (cid_bytes c)

-- numbers below 256
abbrev pub AreBytes : List ℕ → Type 0
AreBytes bytes = All (λ byte. byte < 256) bytes

-- a CID of version 1, the only one that has a text in base 32, with a digest of bytes
pub record IsCid1 (c : CidParts) : Type 0 where
  pub cid : IsCid c
  pub version : c.version ≡ 1
  pub digest : AreBytes c.digest

-- why a text is none of a CID of version 1: it does not begin with `b`; what follows is the text of no bytes; or it is
-- the text of bytes that spell no such CID
abbrev pub IsCidTextFault : List ℕ → CidTextFault → Type 0
IsCidTextFault text Prefix = (rest : List ℕ) → text ≢ 98 ∷ rest
IsCidTextFault text Base32 =
    (rest : List ℕ) × (text ≡ 98 ∷ rest) × ((bytes : List ℕ) → AreBytes bytes → base32 bytes ≢ rest)
IsCidTextFault text Form =
    (bytes : List ℕ) × AreBytes bytes × (text ≡ 98 ∷ base32 bytes) × ((c : CidParts) → IsCid1 c → bytes ≢ cid_bytes c)
