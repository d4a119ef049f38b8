-- The texts of CIDs and their faults.
use Rattle.std.proofs.Common.{drop, ◌≡◌, ℕ, ◌/◌, ◌%◌, ◌+◌, ◌<◌, ◌≤◌, List, [], ◌∷◌, ◌++◌, suc, zero, length, get_or, Fits, w8, inl, inr, refl, sym, ap, subst, ◌∙◌, append-nil, arith}
use Rattle.std.proofs.lemmas.Bool.{cases_lt}
use Rattle.std.proofs.lemmas.List.{length-append, drop_at}
use Rattle.std.proofs.lemmas.List.Elements.{All-from_get_or, All-append, All-cons, All-drop, All-nil, All-same}
use Rattle.fil_base.specs.Base32.{base32, IsBase32Fault}
use Rattle.fil_base.specs.CidBytes.{cid_bytes}
use Rattle.fil_base.specs.CidParts.{CidParts, IsCid}
use Rattle.fil_base.specs.Varint.{varint}
use Rattle.fil_base.specs.declared.base32.Base32Fault.{Base32Fault}
use Rattle.fil_base.proofs.Base32Text.{refused_is_no_text, same_texts}
use Rattle.fil_base.proofs.Cids.{cid_bytes-1-append, same_cids}
use Rattle.fil_base.proofs.Varints.{varint-more, varint-small}
use Rattle.cid_core.specs.CidText.{AreBytes, IsCid1, IsCidTextFault, cid_text}
use Rattle.cid_core.specs.declared.text.CidTextFault.{CidTextFault}
use Rattle.cid_core.specs.declared.text.CidTextFault.TheVariants.{Prefix, Base32, Form}

abbrev IsByte : ℕ → Type 0
IsByte byte = byte < 256

pub are_bytes : (bytes : List ℕ) → ((i : ℕ) → Fits w8 (get_or bytes i 0)) → AreBytes bytes
are_bytes bytes fits = All-from_get_or IsByte bytes 0 (λ i within. omega (arith, fits i))

lone_byte : (byte : ℕ) → byte < 256 → AreBytes (byte ∷ [])
lone_byte byte small = All-cons IsByte byte [] small (All-nil IsByte)

-- the spelling of a number, and that of a CID, are bytes
varint_within : (bound n : ℕ) → n ≤ bound → AreBytes (varint n)
varint_within zero n within =
    All-same IsByte (varint n) (n ∷ []) (varint-small n (omega arith)) (lone_byte n (omega arith))
varint_within (suc bound) n within =
    elim (cases_lt n 128) [
      | inl small ↦ All-same IsByte (varint n) (n ∷ []) (varint-small n small) (lone_byte n (omega arith))
      | inr great ↦ All-same IsByte (varint n) _ (varint-more n great) (All-cons IsByte (128 + n % 128) (varint (n / 128)) (omega arith) (varint_within bound (n / 128) (omega arith)))
    ]

varint_bytes : (n : ℕ) → AreBytes (varint n)
varint_bytes n = varint_within n n (omega arith)

cid_bytes-1 : (c : CidParts) → c.version ≡ 1 → cid_bytes c ≡ varint 1 ++ (varint c.codec ++ (varint c.hash ++ (varint (length c.digest) ++ c.digest)))
cid_bytes-1 c one =
    sym (append-nil (cid_bytes c)) ∙ (cid_bytes-1-append c [] one ∙ ap (λ d. varint 1 ++ (varint c.codec ++ (varint c.hash ++ (varint (length c.digest) ++ d)))) (append-nil c.digest))

spelled_in_bytes : (c : CidParts) → IsCid1 c → AreBytes (cid_bytes c)
spelled_in_bytes c is_cid =
    let sized = All-append IsByte (varint (length c.digest)) c.digest (varint_bytes (length c.digest)) is_cid.digest in
    let hashed = All-append IsByte (varint c.hash) _ (varint_bytes c.hash) sized in
    let coded = All-append IsByte (varint c.codec) _ (varint_bytes c.codec) hashed in
    All-same IsByte (cid_bytes c) _ (cid_bytes-1 c is_cid.version) (All-append IsByte (varint 1) _ (varint_bytes 1) coded)

All-behind : (front back : List ℕ) → AreBytes (front ++ back) → AreBytes back
All-behind front back below =
    All-same IsByte back (drop (length front) (front ++ back)) (sym (drop_at front back (length front) refl)) (All-drop IsByte (length front) (front ++ back) below)

digest_in_bytes : (c : CidParts) → c.version ≡ 1 → AreBytes (cid_bytes c) → AreBytes c.digest
digest_in_bytes c one below =
    let all = All-same IsByte _ (cid_bytes c) (sym (cid_bytes-1 c one)) below in
    All-behind (varint (length c.digest)) c.digest (All-behind (varint c.hash) _ (All-behind (varint c.codec) _ (All-behind (varint 1) _ all)))

-- a CID of version 1 fills the bytes
pub whole_found : (bytes rest : List ℕ) (c : CidParts) → AreBytes bytes → IsCid c → bytes ≡ cid_bytes c ++ rest → length bytes ≡ length (cid_bytes c) → c.version ≡ 1 → IsCid1 c × (bytes ≡ cid_bytes c)
whole_found bytes [] c below is_cid is size one =
    let same : bytes ≡ cid_bytes c = is ∙ append-nil (cid_bytes c) in
    (record { cid = is_cid; version = one; digest = digest_in_bytes c one (All-same IsByte (cid_bytes c) bytes (sym same) below) }, same)
whole_found bytes (byte ∷ rest) c below is_cid is size one =
    absurd (omega (arith, ap length is, length-append (cid_bytes c) (byte ∷ rest)))

-- the CID at the front is of version 0, or bytes are behind it
pub whole_none : (bytes rest : List ℕ) (c : CidParts) → AreBytes bytes → IsCid c → bytes ≡ cid_bytes c ++ rest → (length bytes ≡ length (cid_bytes c) → c.version ≡ 1 → ⊥) → IsCidTextFault (98 ∷ base32 bytes) Form
whole_none bytes rest c below is_cid is other = (
  bytes,
  below,
  refl,
  λ d is_d same.
      let one = (same_cids d c [] rest is_d.cid is_cid (append-nil (cid_bytes d) ∙ (sym same ∙ is))).0 in
      other (ap length same ∙ ap (λ x. length (cid_bytes x)) one) (sym (ap (λ x. x.version) one) ∙ is_d.version),
)

pub form_none : (bytes : List ℕ) → AreBytes bytes → ((c : CidParts) (rest : List ℕ) → IsCid c → bytes ≡ cid_bytes c ++ rest → ⊥) → IsCidTextFault (98 ∷ base32 bytes) Form
form_none bytes below none =
    (bytes, below, refl, λ c is_cid same. none c [] is_cid.cid (same ∙ sym (append-nil (cid_bytes c))))

-- letters with a fault are the text of no bytes
pub letters_none : (letters : List ℕ) (fault : Base32Fault) → IsBase32Fault letters fault → IsCidTextFault (98 ∷ letters) Base32
letters_none letters fault is =
    (letters, refl, λ bytes below same. refused_is_no_text bytes fault below (subst (λ t. IsBase32Fault t fault) (sym same) is))

behind_sign : (x y : List ℕ) → 98 ∷ x ≡ 98 ∷ y → x ≡ y
behind_sign x y same = cc

pub one_text : (a b : CidParts) → IsCid1 a → IsCid1 b → cid_text a ≡ cid_text b → a ≡ b
one_text a b is_a is_b same =
    let bytes = same_texts (cid_bytes a) (cid_bytes b) (spelled_in_bytes a is_a) (spelled_in_bytes b is_b) (behind_sign _ _ same) in
    (same_cids a b [] [] is_a.cid is_b.cid (ap (λ x. x ++ []) bytes)).0

pub text_is_accepted : (c : CidParts) (fault : CidTextFault) → IsCid1 c → IsCidTextFault (cid_text c) fault → ⊥
text_is_accepted c Prefix is_cid none = none (base32 (cid_bytes c)) refl
text_is_accepted c Base32 is_cid (rest, is, none) =
    none (cid_bytes c) (spelled_in_bytes c is_cid) (behind_sign _ _ is)
text_is_accepted c Form is_cid (bytes, below, is, none) =
    none c is_cid (sym (same_texts (cid_bytes c) bytes (spelled_in_bytes c is_cid) below (behind_sign _ _ is)))
