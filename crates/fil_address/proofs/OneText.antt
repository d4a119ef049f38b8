-- An address has a text of its own under each network's letter, and it is not refused.
use Rattle.std.proofs.Common.{◌≡◌, ◌≢◌, ℕ, ◌+◌, ◌<◌, ◌≤◌, List, [], ◌∷◌, ◌++◌, length, take, inl, inr, refl, sym, ap, subst, ◌∙◌, length-append, arith}
use Rattle.std.specs.Prelude.{All}
use Rattle.std.proofs.lemmas.Bool.{cases_lt}
use Rattle.std.proofs.lemmas.Fmt.{decimal_injective, decimal_nonempty}
use Rattle.std.proofs.lemmas.List.{append_cancel_left, take_at}
use Rattle.std.proofs.lemmas.List.Elements.{All-append, All-nil}
use Rattle.fil_base.specs.Base32.{base32, digits_in}
use Rattle.fil_base.proofs.Base32Text.{same_texts}
use Rattle.fil_address.specs.AddressBytes.{IsAddress, address, payload, protocol}
use Rattle.fil_address.specs.AddressText.{IsNetwork, body, checksum, text_under}
use Rattle.fil_address.specs.AddressFault.{HasLength, IsTextFault, TextOf}
use Rattle.fil_address.proofs.Checksums.{AreBytes-checksum}
use Rattle.fil_address.proofs.Letters.{spelled_has_no_fault}
use Rattle.fil_address.proofs.OneAddress.{same_parts}
use Rattle.fil_address.proofs.Protocols.{id_of, length_of, one_length, positive, protocol-le}
use Rattle.fil_address.specs.declared.address.Address.{Address}
use Rattle.fil_address.specs.declared.address.Address.TheVariants.{Id, Secp, Made, Bls}
use Rattle.fil_address.specs.declared.fault.AddressFault.{AddressFault}
use Rattle.fil_address.specs.declared.fault.AddressFault.TheVariants.{Empty, Protocol, Number, Length, Letter, Checksum}

-- the payload and the checksum
abbrev sealed : Address → List ℕ
sealed a = payload a ++ checksum (address a)

body-sealed : (a : Address) → 1 ≤ protocol a → body a ≡ base32 (sealed a)
body-sealed (Id id) low = absurd (omega arith)
body-sealed (Secp hash) low = refl
body-sealed (Made hash) low = refl
body-sealed (Bls key) low = refl

sealed_below : (a : Address) → IsAddress a → 1 ≤ protocol a → All (λ byte. byte < 256) (sealed a)
sealed_below a good low =
    All-append (λ byte. byte < 256) (payload a) (checksum (address a)) (length_of a good low).2.1 (AreBytes-checksum (address a)).1

-- bytes that are cut at the same distance from their end
same_cut : (front_a back_a front_b back_b : List ℕ) → length back_a ≡ length back_b → front_a ++ back_a ≡ front_b ++ back_b → (front_a ≡ front_b) × (back_a ≡ back_b)
same_cut front_a back_a front_b back_b sizes same =
    let size : length front_b ≡ length front_a = omega (arith, ap length same, length-append front_a back_a, length-append front_b back_b) in
    let fronts : front_a ≡ front_b = sym (take_at front_a back_a (length front_a) refl) ∙ (ap (take (length front_a)) same ∙ take_at front_b back_b (length front_a) size) in
    (fronts, append_cancel_left front_b back_a back_b (ap (λ front. front ++ back_a) (sym fronts) ∙ same))

same_bodies_of_ids : (a b : Address) → IsAddress a → IsAddress b → protocol a ≡ 0 → protocol b ≡ 0 → body a ≡ body b → a ≡ b
same_bodies_of_ids a b good_a good_b zero_a zero_b same =
    let x = id_of a good_a zero_a in
    let y = id_of b good_b zero_b in
    let ids : x.0 ≡ y.0 = decimal_injective x.0 y.0 (omega (arith, x.2)) (omega (arith, y.2)) (sym (ap body x.1) ∙ (same ∙ ap body y.1)) in
    x.1 ∙ (ap Id ids ∙ sym y.1)

same_bodies : (a b : Address) → IsAddress a → IsAddress b → protocol a ≡ protocol b → 1 ≤ protocol a → body a ≡ body b → a ≡ b
same_bodies a b good_a good_b kinds low same =
    let low_b : 1 ≤ protocol b = omega arith in
    let bytes : sealed a ≡ sealed b = same_texts (sealed a) (sealed b) (sealed_below a good_a low) (sealed_below b good_b low_b) (sym (body-sealed a low) ∙ (same ∙ body-sealed b low_b)) in
    same_parts a b kinds (same_cut (payload a) (checksum (address a)) (payload b) (checksum (address b)) ((AreBytes-checksum (address a)).0 ∙ sym (AreBytes-checksum (address b)).0) bytes).0

pub same_address_texts : (m n : ℕ) (a b : Address) → IsAddress a → IsAddress b → text_under m a ≡ text_under n b → (m ≡ n) × (a ≡ b)
unfolding text_under
same_address_texts m n a b good_a good_b same =
    let letters : m ≡ n = cc in
    let digits : 48 + protocol a ≡ 48 + protocol b = cc in
    let bodies : body a ≡ body b = cc in (
      letters,
      elim (cases_lt (protocol a) 1) [
        | inl none ↦ same_bodies_of_ids a b good_a good_b (omega arith) (omega arith) bodies
        | inr low ↦ same_bodies a b good_a good_b (omega arith) low bodies
      ],
    )

-- what stands behind the digit of an address's text
behind_is : (n p : ℕ) (rest : List ℕ) (a : Address) → TextOf (text_under n a) p rest → (p ≡ protocol a) × (rest ≡ body a)
unfolding text_under
behind_is n p rest a (network, known, is, enough) =
    let digits : 48 + protocol a ≡ 48 + p = cc in
    (omega arith, cc)

-- where it is the payload and the checksum
record IsSealed (a : Address) (p : ℕ) (len : ℕ) (rest : List ℕ) : Type 0 where
  kind : p ≡ protocol a
  low : 1 ≤ protocol a
  size : length (payload a) ≡ len
  is : rest ≡ base32 (sealed a)
  below : All (λ byte. byte < 256) (sealed a)

sealed_at : (n p len : ℕ) (rest : List ℕ) (a : Address) → IsAddress a → TextOf (text_under n a) p rest → HasLength p len → IsSealed a p len rest
sealed_at n p len rest a good text has =
    let same = behind_is n p rest a text in
    let has_own : HasLength (protocol a) len = subst (λ k. HasLength k len) same.0 has in
    let low = positive (protocol a) len has_own in
    let own = length_of a good low in
    record {
      kind = same.0;
      low = low;
      size = own.2.0 ∙ one_length (protocol a) own.0 len own.1 has_own;
      is = same.1 ∙ body-sealed a low;
      below = sealed_below a good low;
    }

nonempty : (text : List ℕ) → text ≢ [] → 0 < length text
nonempty [] some = absurd (some refl)
nonempty (c ∷ cs) some = omega arith

nonempty_base32 : (bytes : List ℕ) → All (λ byte. byte < 256) bytes → 0 < length bytes → 0 < length (base32 bytes)
unfolding base32 digits_in
nonempty_base32 bytes below some =
    nonempty (base32 bytes) (λ none. let same : bytes ≡ [] = same_texts bytes [] below (All-nil (λ byte. byte < 256)) none in omega (arith, ap length same))

nonempty_body : (a : Address) → IsAddress a → 0 < length (body a)
nonempty_body a good = elim (cases_lt (protocol a) 1) [
  | inl none ↦ (let id = id_of a good (omega arith) in subst (λ b. 0 < length (body b)) (sym id.1) (decimal_nonempty id.0 (omega (arith, id.2))))
  | inr low ↦ subst (λ b. 0 < length b) (sym (body-sealed a low)) (nonempty_base32 (sealed a) (sealed_below a good low) (omega (arith, length-append (payload a) (checksum (address a)), (AreBytes-checksum (address a)).0)))
]

pub refused_is_no_address_text : (n : ℕ) (a : Address) (fault : AddressFault) → IsNetwork n → IsAddress a → IsTextFault (text_under n a) fault → ⊥
unfolding text_under address
refused_is_no_address_text n a Empty known good few = omega (arith, nonempty_body a good)
refused_is_no_address_text n a Letter known good (inl (letter, rest, is, enough, other)) =
    let same : n ≡ letter = cc in
    other (subst IsNetwork same known)
refused_is_no_address_text n a Letter known good (inr (p, len, rest, text, has, bad)) =
    let own = sealed_at n p len rest a good text has in
    spelled_has_no_fault (sealed a) rest Letter own.below own.is bad
refused_is_no_address_text n a Protocol known good (network, digit, rest, knows, is, enough, out) =
    let same : digit ≡ 48 + protocol a = cc in
    grind (arith, protocol-le a)
refused_is_no_address_text n a Number known good (rest, text, none) =
    let same = behind_is n 0 rest a text in
    let id = id_of a good (sym same.0) in
    none id.0 id.2 (same.1 ∙ ap body id.1)
refused_is_no_address_text n a Length known good (p, len, rest, text, has, inl bad) =
    let own = sealed_at n p len rest a good text has in
    spelled_has_no_fault (sealed a) rest Length own.below own.is bad
refused_is_no_address_text n a Length known good (p, len, rest, text, has, inr (bytes, is, below, other)) =
    let own = sealed_at n p len rest a good text has in
    let same : bytes ≡ sealed a = same_texts bytes (sealed a) below own.below (sym is ∙ own.is) in
    other (omega (arith, ap length same, length-append (payload a) (checksum (address a)), (AreBytes-checksum (address a)).0, own.size))
refused_is_no_address_text n a Checksum known good (p, len, front, sum, text, has, are_front, are_sum, other) =
    let own = sealed_at n p len (base32 (front ++ sum)) a good text has in
    let same : front ++ sum ≡ sealed a = same_texts (front ++ sum) (sealed a) (All-append (λ byte. byte < 256) front sum are_front.1 are_sum.1) own.below own.is in
    let parts = same_cut front sum (payload a) (checksum (address a)) (are_sum.0 ∙ sym (AreBytes-checksum (address a)).0) same in
    other (parts.1 ∙ ap checksum (λ i. sym own.kind i ∷ sym parts.0 i))
