-- Which bytes are judged to be the spelling of a CID.
use Rattle.std.proofs.Common.{◌≡◌, ℕ, ◌^◌, ◌<◌, ◌≤◌, ◌↔◌, Bool, false, IsTrue, leb, nat_eq, List, [], ◌∷◌, ◌++◌, length, Option, Some, None, is_some, refl, sym, ap, subst, ◌∙◌, arith, inl, inr, ◌⊎◌, lit<}
use Rattle.std.proofs.lemmas.Bool.{false≢true, false_from_ne_true, cases_eq, eqb-true, eq-eqb, leb-true}
use Rattle.std.proofs.lemmas.List.{append-nil}
use Rattle.fil_base.specs.CidParts.{CidParts, IsCid, parts}
use Rattle.fil_base.specs.CidBytes.{cid_bytes}
use Rattle.fil_base.specs.Varint.{varint}
use Rattle.fil_base.proofs.Varints.{same_varints, varint-small}
use Rattle.fil_base.proofs.Cids.{found_1}
use Rattle.dag_cbor.specs.CidReading.{cid_of}
use Rattle.dag_cbor.specs.CidForm.{BeginsWithNumber, IsDigest, IsContent, SpellsCid}
use Rattle.dag_cbor.proofs.CidLaw.{bytes_of_0, bytes_of_1, cid_of-some, cid_of-is}

-- ---- numbers

-- the number at the front is known
pub number_judged : (P : ℕ → List ℕ → Type 0) (bytes : List ℕ) (n : ℕ) (rest : List ℕ) (r : Bool) → n < 2 ^ 63 → bytes ≡ varint n ++ rest → IsTrue r ↔ P n rest → IsTrue r ↔ BeginsWithNumber P bytes
number_judged P bytes n rest r small is judged = (λ sure. (n, rest, small, is, judged.0 sure), λ begins. judged.1 (there begins))
  where
    there : BeginsWithNumber P bytes → P n rest
    there (m, other, below, spelled, holds) = let same = same_varints m n other rest (sym spelled ∙ is) in subst (λ (k : ℕ). P k rest) same.0 (subst (λ (t : List ℕ). P m t) same.1 holds)

-- there is no number at the front
pub no_number : (P : ℕ → List ℕ → Type 0) (bytes : List ℕ) → ((n : ℕ) (rest : List ℕ) → n < 2 ^ 63 → bytes ≡ varint n ++ rest → ⊥) → IsTrue false ↔ BeginsWithNumber P bytes
no_number P bytes none = (λ never. absurd (false≢true never), λ begins. absurd (none begins.0 begins.1 begins.2 begins.3))

-- the digest that is to have a length of at most 128
pub short_judged : (len : ℕ) (digest : List ℕ) → len ≤ 128 → IsTrue (nat_eq (length digest) len) ↔ IsDigest len digest
short_judged len digest short = (λ same. (short, eqb-true (length digest) len same), λ holds. eq-eqb (length digest) len holds.1)

-- the digest that is to have a greater length
pub long_judged : (len : ℕ) (digest : List ℕ) → 128 < len → IsTrue (leb len 128) ↔ IsDigest len digest
long_judged len digest long = (λ short. absurd (let le : len ≤ 128 = leb-true len 128 short in omega arith), λ holds. absurd (let le : len ≤ 128 = holds.0 in omega arith))

-- ---- versions

-- the first byte of a CID, and what is behind it
first_of : (first : ℕ) (tail : List ℕ) (other : ℕ) (after : List ℕ) → first ∷ tail ≡ other ∷ after → (first ≡ other) × (tail ≡ after)
first_of first tail other after same = (cc, cc)

one_byte : varint 1 ≡ 1 ∷ []
one_byte = varint-small 1 (omega arith)

-- what is behind the first byte of a CID of version 1
abbrev content_of : CidParts → List ℕ
content_of c = varint c.codec ++ (varint c.hash ++ (varint (length c.digest) ++ c.digest))

which_version : (c : CidParts) → IsCid c → (c.version ≡ 0) ⊎ (c.version ≡ 1)
which_version c is = elim (cases_eq c.version 0) [ inl none ↦ inl none | inr some ↦ inr (omega (arith, is.version)) ]

-- a CID with this first byte
of_first : (first : ℕ) (tail : List ℕ) (c : CidParts) → IsCid c → first ∷ tail ≡ cid_bytes c
    → ((first ≡ 0x12) × (tail ≡ 0x20 ∷ c.digest) × (length c.digest ≡ 32)) ⊎ ((first ≡ 1) × (tail ≡ content_of c))
of_first first tail c is spelled =
    elim (which_version c is) [
      | inl none ↦
          let both = first_of first tail 0x12 (0x20 ∷ c.digest) (spelled ∙ bytes_of_0 c none) in
          inl (both.0, both.1, (is.version0 none).digest)
      | inr one ↦
          let both = first_of first tail 1 (content_of c) (spelled ∙ bytes_of_1 c one) in
          inr (both.0, both.1)
    ]

-- behind 12
pub version_0_judged : (first : ℕ) (tail : List ℕ) (r : Bool) → first ≡ 0x12 → IsTrue r ↔ (digest : List ℕ) × (tail ≡ 0x20 ∷ digest) × (length digest ≡ 32) → IsTrue r ↔ SpellsCid (first ∷ tail)
version_0_judged first tail r twelve judged = (λ sure. made (judged.0 sure), λ spells. judged.1 (there spells))
  where
    made : (digest : List ℕ) × (tail ≡ 0x20 ∷ digest) × (length digest ≡ 32) → SpellsCid (first ∷ tail)
    made (digest, after, len) =
        let c : CidParts = parts 0 0x70 0x12 digest in
        let whole : first ∷ tail ≡ 0x12 ∷ (0x20 ∷ digest) = ap (λ (n : ℕ). n ∷ tail) twelve ∙ ap (λ (t : List ℕ). 0x12 ∷ t) after in
        (c, record { version = omega arith; codec = lit< tt; hash = lit< tt; digest = omega (arith, len); version0 = λ _. record { codec = refl; hash = refl; digest = len } }, whole ∙ sym (bytes_of_0 c refl))

    there : SpellsCid (first ∷ tail) → (digest : List ℕ) × (tail ≡ 0x20 ∷ digest) × (length digest ≡ 32)
    there (c, is_cid, spelled) =
        elim (of_first first tail c is_cid spelled) [
          | inl zero_is ↦ (c.digest, zero_is.1, zero_is.2)
          | inr one ↦ absurd (let same : first ≡ 1 = one.0 in omega arith)
        ]

-- behind 1
pub version_1_judged : (first : ℕ) (tail : List ℕ) (r : Bool) → first ≡ 1 → IsTrue r ↔ IsContent tail → IsTrue r ↔ SpellsCid (first ∷ tail)
version_1_judged first tail r one judged = (λ sure. made (judged.0 sure), λ spells. judged.1 (there spells))
  where
    made : IsContent tail → SpellsCid (first ∷ tail)
    made (codec, after_codec, small_codec, at_codec, (hash, after_hash, small_hash, at_hash, (len, digest, small_len, at_digest, (short, len_is)))) =
        let front : first ∷ tail ≡ varint 1 ++ tail = ap (λ (n : ℕ). n ∷ tail) one ∙ ap (λ (t : List ℕ). t ++ tail) (sym one_byte) in
        let last : after_hash ≡ varint (length digest) ++ (digest ++ []) = at_digest ∙ ap (λ (n : ℕ). varint n ++ digest) (sym len_is) ∙ ap (λ (t : List ℕ). varint (length digest) ++ t) (sym (append-nil digest)) in
        let found = found_1 (first ∷ tail) tail after_codec after_hash digest [] 1 codec hash refl front small_codec at_codec small_hash at_hash (omega arith) last in
        (parts 1 codec hash digest, found.cid, found.spelled ∙ append-nil (cid_bytes (parts 1 codec hash digest)))

    there : SpellsCid (first ∷ tail) → IsContent tail
    there (c, is_cid, spelled) =
        elim (of_first first tail c is_cid spelled) [
          | inl zero_is ↦ absurd (let same : first ≡ 0x12 = zero_is.0 in omega arith)
          | inr first_is ↦ (c.codec, varint c.hash ++ (varint (length c.digest) ++ c.digest), is_cid.codec, first_is.1, (c.hash, varint (length c.digest) ++ c.digest, is_cid.hash, refl, (length c.digest, c.digest, omega (arith, is_cid.digest), refl, (is_cid.digest, refl))))
        ]

-- behind any other byte
pub no_version : (first : ℕ) (tail : List ℕ) → (first ≡ 0x12 → ⊥) → (first ≡ 1 → ⊥) → IsTrue false ↔ SpellsCid (first ∷ tail)
no_version first tail no_0 no_1 = (λ never. absurd (false≢true never), λ spells. absurd (never_spelled spells))
  where
    never_spelled : SpellsCid (first ∷ tail) → ⊥
    never_spelled (c, is_cid, spelled) = elim (of_first first tail c is_cid spelled) [ inl zero_is ↦ no_0 zero_is.0 | inr one ↦ no_1 one.0 ]

-- ---- the test is that of reading

none_some : (c : CidParts) → None ≡ Some c → ⊥
none_some c same = absurd cc

judged_as : (bytes : List ℕ) (o : Option CidParts) (r : Bool) → cid_of bytes ≡ o → IsTrue r ↔ SpellsCid bytes → r ≡ is_some o
judged_as bytes (Some c) r e judged = let found = cid_of-some bytes c e in judged.1 (c, found.0, found.1)
judged_as bytes None r e judged = false_from_ne_true r (λ sure. none_spelled (judged.0 sure))
  where
    none_spelled : SpellsCid bytes → ⊥
    none_spelled (c, is_cid, spelled) = none_some c (sym e ∙ cid_of-is bytes c is_cid spelled)

-- bytes that have a first one
pub cid_judged : (bytes : List ℕ) (first : ℕ) (tail : List ℕ) (r : Bool) → bytes ≡ first ∷ tail → IsTrue r ↔ SpellsCid (first ∷ tail) → r ≡ is_some (cid_of bytes)
cid_judged bytes first tail r is judged = judged_as (first ∷ tail) (cid_of (first ∷ tail)) r refl judged ∙ ap (λ (t : List ℕ). is_some (cid_of t)) (sym is)

-- no bytes are no CID
pub no_cid_in_none : (bytes : List ℕ) → length bytes ≡ 0 → false ≡ is_some (cid_of bytes)
no_cid_in_none bytes none = judged_as bytes (cid_of bytes) false refl (λ never. absurd (false≢true never), λ spells. absurd (never_spelled spells))
  where
    never_spelled : SpellsCid bytes → ⊥
    never_spelled (c, is_cid, spelled) =
        elim (which_version c is_cid) [
          | inl zero_is ↦ omega (arith, none, ap length (spelled ∙ bytes_of_0 c zero_is))
          | inr one ↦ omega (arith, none, ap length (spelled ∙ bytes_of_1 c one))
        ]
