-- CIDs and their faults.
use Rattle.std.proofs.Common.{take, drop, cond, eqb, ◌≡◌, ◌≢◌, ℕ, ◌^◌, ◌<◌, ◌≤◌, List, [], ◌∷◌, ◌++◌, length, ◌⊎◌, inl, inr, refl, sym, ap, subst, ◌∙◌, append_assoc, lit<, arith}
use Rattle.std.proofs.lemmas.Bool.{cases_eq}
use Rattle.std.proofs.lemmas.List.{length-append, length-take-le, take-append-drop, take_at, drop_at}
use Rattle.fil_base.specs.Varint.{varint}
use Rattle.fil_base.specs.CidParts.{CidParts, IsCid, parts}
use Rattle.fil_base.specs.CidBytes.{cid_bytes}
use Rattle.fil_base.specs.CidFault.{BeginsVersion0, FoundCid, IsCidFault, IsCodecFault, IsDigestFault, IsFaultFrom, IsHashFault, IsLengthFault, IsNumberFault, IsVersionFault}
use Rattle.fil_base.specs.declared.cid.CidFault.{CidFault}
use Rattle.fil_base.specs.declared.cid.CidFault.TheVariants.{Varint, Version, TooLong, Cut}
use Rattle.fil_base.specs.declared.varint.VarintFault.TheVariants.{Cut as VarintCut, TooLong as VarintTooLong, NotShortest as VarintNotShortest}
use Rattle.fil_base.proofs.Varints.{varint-small, same_varints, fault_spells_none, one_varint_fault}

cid_bytes-0 : (c : CidParts) → c.version ≡ 0 → cid_bytes c ≡ 0x12 ∷ (0x20 ∷ c.digest)
unfolding cid_bytes
cid_bytes-0 c is =
    ap (λ v. cond (eqb v 0) (0x12 ∷ (0x20 ∷ c.digest)) (varint 1 ++ (varint c.codec ++ (varint c.hash ++ (varint (length c.digest) ++ c.digest))))) is

cid_bytes-1 : (c : CidParts) → c.version ≡ 1 → cid_bytes c ≡ varint 1 ++ (varint c.codec ++ (varint c.hash ++ (varint (length c.digest) ++ c.digest)))
unfolding cid_bytes
cid_bytes-1 c is =
    ap (λ v. cond (eqb v 0) (0x12 ∷ (0x20 ∷ c.digest)) (varint 1 ++ (varint c.codec ++ (varint c.hash ++ (varint (length c.digest) ++ c.digest))))) is

regroup : (a b c d e r : List ℕ) → (a ++ (b ++ (c ++ (d ++ e)))) ++ r ≡ a ++ (b ++ (c ++ (d ++ (e ++ r))))
regroup a b c d e r = simp append_assoc

pub cid_bytes-1-append : (c : CidParts) (r : List ℕ) → c.version ≡ 1 → cid_bytes c ++ r ≡ varint 1 ++ (varint c.codec ++ (varint c.hash ++ (varint (length c.digest) ++ (c.digest ++ r))))
cid_bytes-1-append c r is =
    ap (λ b. b ++ r) (cid_bytes-1 c is) ∙ regroup (varint 1) (varint c.codec) (varint c.hash) (varint (length c.digest)) c.digest r

version_cases : (c : CidParts) → IsCid c → (c.version ≡ 0) ⊎ (c.version ≡ 1)
version_cases c is = elim (cases_eq c.version 0) [ inl none ↦ inl none | inr some ↦ inr (omega (arith, is.version)) ]

-- the first byte tells the versions apart
first_byte_1 : (rest : List ℕ) (first : ℕ) (more : List ℕ) → first ∷ more ≡ varint 1 ++ rest → first ≡ 1
first_byte_1 rest first more same =
    let both : first ∷ more ≡ 1 ∷ rest = same ∙ ap (λ b. b ++ rest) (varint-small 1 (lit< tt)) in
    cc

eighteen : (n : ℕ) → n ≡ 18 → n ≡ 1 → ⊥
eighteen n is one = absurd (omega arith)

same_split : (x y r s : List ℕ) → length x ≡ length y → x ++ r ≡ y ++ s → (x ≡ y) × (r ≡ s)
same_split x y r s sizes same =
    (sym (take_at x r (length y) sizes) ∙ (ap (λ b. take (length y) b) same ∙ take_at y s (length y) refl), sym (drop_at x r (length y) sizes) ∙ (ap (λ b. drop (length y) b) same ∙ drop_at y s (length y) refl))

same_cid : (a b : CidParts) → a.version ≡ b.version → a.codec ≡ b.codec → a.hash ≡ b.hash → a.digest ≡ b.digest → a ≡ b
same_cid a b v c h d = λ i. record { version = v i; codec = c i; hash = h i; digest = d i }

abbrev SameCids : CidParts → CidParts → List ℕ → List ℕ → Type 0
SameCids a b r s = cid_bytes a ++ r ≡ cid_bytes b ++ s → (a ≡ b) × (r ≡ s)

same_cids_0 : (a b : CidParts) (r s : List ℕ) → IsCid a → IsCid b → a.version ≡ 0 → b.version ≡ 0 → SameCids a b r s
same_cids_0 a b r s is_a is_b zero_a zero_b same =
    let va = is_a.version0 zero_a in
    let vb = is_b.version0 zero_b in
    let both : 0x12 ∷ (0x20 ∷ (a.digest ++ r)) ≡ 0x12 ∷ (0x20 ∷ (b.digest ++ s)) = sym (ap (λ x. x ++ r) (cid_bytes-0 a zero_a)) ∙ (same ∙ ap (λ x. x ++ s) (cid_bytes-0 b zero_b)) in
    let digests : a.digest ++ r ≡ b.digest ++ s = cc in
    let split = same_split a.digest b.digest r s (va.digest ∙ sym vb.digest) digests in
    (same_cid a b (zero_a ∙ sym zero_b) (va.codec ∙ sym vb.codec) (va.hash ∙ sym vb.hash) split.0, split.1)

same_cids_1 : (a b : CidParts) (r s : List ℕ) → a.version ≡ 1 → b.version ≡ 1 → SameCids a b r s
same_cids_1 a b r s one_a one_b same =
    let versions = same_varints 1 1 _ _ (sym (cid_bytes-1-append a r one_a) ∙ (same ∙ cid_bytes-1-append b s one_b)) in
    let codecs = same_varints a.codec b.codec _ _ versions.1 in
    let hashes = same_varints a.hash b.hash _ _ codecs.1 in
    let sizes = same_varints (length a.digest) (length b.digest) _ _ hashes.1 in
    let split = same_split a.digest b.digest r s sizes.0 sizes.1 in
    (same_cid a b (one_a ∙ sym one_b) codecs.0 hashes.0 split.0, split.1)

apart_0_1 : (a b : CidParts) (r s : List ℕ) → a.version ≡ 0 → b.version ≡ 1 → cid_bytes a ++ r ≡ cid_bytes b ++ s → ⊥
apart_0_1 a b r s zero_a one_b same =
    eighteen 0x12 refl (first_byte_1 _ 0x12 (0x20 ∷ (a.digest ++ r)) (sym (ap (λ x. x ++ r) (cid_bytes-0 a zero_a)) ∙ (same ∙ cid_bytes-1-append b s one_b)))

pub same_cids : (a b : CidParts) (r s : List ℕ) → IsCid a → IsCid b → cid_bytes a ++ r ≡ cid_bytes b ++ s → (a ≡ b) × (r ≡ s)
same_cids a b r s is_a is_b same =
    elim (version_cases a is_a) [
      | inl zero_a ↦ elim (version_cases b is_b) [
        | inl zero_b ↦ same_cids_0 a b r s is_a is_b zero_a zero_b same
        | inr one_b ↦ absurd (apart_0_1 a b r s zero_a one_b same)
      ]
      | inr one_a ↦ elim (version_cases b is_b) [
        | inl zero_b ↦ absurd (apart_0_1 b a s r zero_b one_a (sym same))
        | inr one_b ↦ same_cids_1 a b r s one_a one_b same
      ]
    ]

-- a number at the front has one fault at most, and then there is none
one_number_fault : (bytes : List ℕ) (f g : CidFault) → IsNumberFault bytes f → IsNumberFault bytes g → f ≡ g
one_number_fault bytes Varint Varint x y = refl
one_number_fault bytes Varint Version x y = absurd y
one_number_fault bytes Varint TooLong x y = absurd y
one_number_fault bytes Varint Cut (inl x) y = absurd (let e = one_varint_fault bytes VarintTooLong VarintCut x y in cc)
one_number_fault bytes Varint Cut (inr x) y = absurd (let e = one_varint_fault bytes VarintNotShortest VarintCut x y in cc)
one_number_fault bytes Version g x y = absurd x
one_number_fault bytes TooLong g x y = absurd x
one_number_fault bytes Cut Varint x (inl y) = absurd (let e = one_varint_fault bytes VarintTooLong VarintCut y x in cc)
one_number_fault bytes Cut Varint x (inr y) = absurd (let e = one_varint_fault bytes VarintNotShortest VarintCut y x in cc)
one_number_fault bytes Cut Version x y = absurd y
one_number_fault bytes Cut TooLong x y = absurd y
one_number_fault bytes Cut Cut x y = refl

no_number : (bytes : List ℕ) (f : CidFault) (n : ℕ) (rest : List ℕ) → IsNumberFault bytes f → n < 2 ^ 63 → bytes ≡ varint n ++ rest → ⊥
no_number bytes Varint n rest (inl x) small is = fault_spells_none bytes VarintTooLong n rest x small is
no_number bytes Varint n rest (inr x) small is = fault_spells_none bytes VarintNotShortest n rest x small is
no_number bytes Version n rest x small is = x
no_number bytes TooLong n rest x small is = x
no_number bytes Cut n rest x small is = fault_spells_none bytes VarintCut n rest x small is

-- where a number is at the front, the fault is behind it
fault_behind : (bytes : List ℕ) (f : CidFault) (A : ℕ → List ℕ → Type 0) (n : ℕ) (rest : List ℕ) → n < 2 ^ 63 → bytes ≡ varint n ++ rest → IsFaultFrom bytes f A → A n rest
fault_behind bytes f A n rest small is (inl here) = absurd (no_number bytes f n rest here small is)
fault_behind bytes f A n rest small is (inr (m, others, small_m, is_m, behind)) =
    let same = same_varints m n others rest (sym is_m ∙ is) in
    subst (λ r. A n r) same.1 (subst (λ k. A k others) same.0 behind)

one_fault_from : (bytes : List ℕ) (f g : CidFault) (A B : ℕ → List ℕ → Type 0) → ((n : ℕ) (rest : List ℕ) → A n rest → B n rest → f ≡ g) → IsFaultFrom bytes f A → IsFaultFrom bytes g B → f ≡ g
one_fault_from bytes f g A B later (inl x) (inl y) = one_number_fault bytes f g x y
one_fault_from bytes f g A B later (inl x) (inr (n, rest, small, is, behind)) = absurd (no_number bytes f n rest x small is)
one_fault_from bytes f g A B later (inr (n, rest, small, is, behind)) y =
    later n rest behind (fault_behind bytes g B n rest small is y)

one_digest_fault : (f g : CidFault) (n : ℕ) (rest : List ℕ) → IsDigestFault f n rest → IsDigestFault g n rest → f ≡ g
one_digest_fault Varint g n rest x y = absurd x
one_digest_fault Version g n rest x y = absurd x
one_digest_fault TooLong Varint n rest x y = absurd y
one_digest_fault TooLong Version n rest x y = absurd y
one_digest_fault TooLong TooLong n rest x y = refl
one_digest_fault TooLong Cut n rest x y = absurd (omega (arith, x, y.0))
one_digest_fault Cut Varint n rest x y = absurd y
one_digest_fault Cut Version n rest x y = absurd y
one_digest_fault Cut TooLong n rest x y = absurd (omega (arith, x.0, y))
one_digest_fault Cut Cut n rest x y = refl

one_length_fault : (f g : CidFault) (bytes : List ℕ) → IsLengthFault f bytes → IsLengthFault g bytes → f ≡ g
one_length_fault f g bytes = one_fault_from bytes f g (IsDigestFault f) (IsDigestFault g) (one_digest_fault f g)

one_hash_fault : (f g : CidFault) (bytes : List ℕ) → IsHashFault f bytes → IsHashFault g bytes → f ≡ g
one_hash_fault f g bytes =
    one_fault_from bytes f g (λ n rest. IsLengthFault f rest) (λ n rest. IsLengthFault g rest) (λ n rest. one_length_fault f g rest)

one_codec_fault : (f g : CidFault) (bytes : List ℕ) → IsCodecFault f bytes → IsCodecFault g bytes → f ≡ g
one_codec_fault f g bytes =
    one_fault_from bytes f g (λ n rest. IsHashFault f rest) (λ n rest. IsHashFault g rest) (λ n rest. one_hash_fault f g rest)

abbrev BehindVersion : CidFault → ℕ → List ℕ → Type 0
BehindVersion fault version rest = ((version ≢ 1) × (fault ≡ Version)) ⊎ ((version ≡ 1) × IsCodecFault fault rest)

one_behind_version : (f g : CidFault) (n : ℕ) (rest : List ℕ) → BehindVersion f n rest → BehindVersion g n rest → f ≡ g
one_behind_version f g n rest (inl x) (inl y) = x.1 ∙ sym y.1
one_behind_version f g n rest (inl x) (inr y) = absurd (x.0 y.0)
one_behind_version f g n rest (inr x) (inl y) = absurd (y.0 x.0)
one_behind_version f g n rest (inr x) (inr y) = one_codec_fault f g rest x.1 y.1

one_version_fault : (f g : CidFault) (bytes : List ℕ) → IsVersionFault f bytes → IsVersionFault g bytes → f ≡ g
one_version_fault f g bytes = one_fault_from bytes f g (BehindVersion f) (BehindVersion g) (one_behind_version f g)

pub one_cid_fault : (bytes : List ℕ) (f g : CidFault) → IsCidFault bytes f → IsCidFault bytes g → f ≡ g
one_cid_fault bytes f g (inl x) (inl y) = x.2 ∙ sym y.2
one_cid_fault bytes f g (inl x) (inr y) = absurd (y.0 x.0)
one_cid_fault bytes f g (inr x) (inl y) = absurd (x.0 y.0)
one_cid_fault bytes f g (inr x) (inr y) = one_version_fault f g bytes x.1 y.1

-- a CID of version 0 begins as one does, and is whole
whole_0 : (bytes : List ℕ) (c : CidParts) (rest : List ℕ) → IsCid c → c.version ≡ 0 → bytes ≡ cid_bytes c ++ rest → BeginsVersion0 bytes × (34 ≤ length bytes)
whole_0 bytes c rest is_cid zero_c is =
    let spelled : bytes ≡ 0x12 ∷ (0x20 ∷ (c.digest ++ rest)) = is ∙ ap (λ b. b ++ rest) (cid_bytes-0 c zero_c) in
    (inr (c.digest ++ rest, spelled), omega (arith, ap length spelled, length-append c.digest rest, (is_cid.version0 zero_c).digest))

begins_not_1 : (bytes rest : List ℕ) → bytes ≡ varint 1 ++ rest → BeginsVersion0 bytes → ⊥
begins_not_1 bytes rest is (inl lone) =
    eighteen 0x12 refl (first_byte_1 rest 0x12 [] (sym lone ∙ is))
begins_not_1 bytes rest is (inr (more, two)) =
    eighteen 0x12 refl (first_byte_1 rest 0x12 (0x20 ∷ more) (sym two ∙ is))

no_digest_fault : (f : CidFault) (digest rest : List ℕ) → length digest ≤ 128 → IsDigestFault f (length digest) (digest ++ rest) → ⊥
no_digest_fault Varint digest rest short x = x
no_digest_fault Version digest rest short x = x
no_digest_fault TooLong digest rest short x = absurd (omega arith)
no_digest_fault Cut digest rest short x = absurd (omega (arith, length-append digest rest, x.1))

no_fault_1 : (bytes : List ℕ) (f : CidFault) (c : CidParts) (rest : List ℕ) → IsCid c → c.version ≡ 1 → bytes ≡ cid_bytes c ++ rest → IsVersionFault f bytes → ⊥
no_fault_1 bytes f c rest is_cid one_c is fault =
    let behind : BehindVersion f 1 _ = fault_behind bytes f (BehindVersion f) 1 _ (lit< tt) (is ∙ cid_bytes-1-append c rest one_c) fault in
    elim behind [
      | inl other ↦ absurd (other.0 refl)
      | inr same ↦
          let in_hash = fault_behind _ f (λ n r. IsHashFault f r) c.codec (varint c.hash ++ (varint (length c.digest) ++ (c.digest ++ rest))) is_cid.codec refl same.1 in
          let in_length = fault_behind _ f (λ n r. IsLengthFault f r) c.hash (varint (length c.digest) ++ (c.digest ++ rest)) is_cid.hash refl in_hash in
          let in_digest = fault_behind _ f (IsDigestFault f) (length c.digest) (c.digest ++ rest) (omega (arith, is_cid.digest)) refl in_length in
          no_digest_fault f c.digest rest is_cid.digest in_digest
    ]

-- no CID is at the front of bytes with a fault
pub fault_has_no_cid : (bytes : List ℕ) (f : CidFault) (c : CidParts) (rest : List ℕ) → IsCidFault bytes f → IsCid c → bytes ≡ cid_bytes c ++ rest → ⊥
fault_has_no_cid bytes f c rest fault is_cid is =
    elim (version_cases c is_cid) [
      | inl zero_c ↦ (let whole = whole_0 bytes c rest is_cid zero_c is in elim fault [ inl x ↦ absurd (omega (arith, whole.1, x.1)) | inr y ↦ y.0 whole.0 ])
      | inr one_c ↦ elim fault [
        | inl x ↦ begins_not_1 bytes _ (is ∙ cid_bytes-1-append c rest one_c) x.0
        | inr y ↦ no_fault_1 bytes f c rest is_cid one_c is y.1
      ]
    ]

-- what a reader of version 0 found
pub found_0 : (bytes digest rest : List ℕ) → BeginsVersion0 bytes → 34 ≤ length bytes → digest ≡ take 32 (drop 2 bytes) → rest ≡ drop 32 (drop 2 bytes) → FoundCid bytes (parts 0 112 18 digest) rest
unfolding cid_bytes
found_0 bytes digest rest (inl lone) whole front back = absurd (omega (arith, ap length lone))
found_0 bytes digest rest (inr (more, two)) whole front back =
    let digest_is : digest ≡ take 32 more = front ∙ ap (λ b. take 32 (drop 2 b)) two in
    let rest_is : rest ≡ drop 32 more = back ∙ ap (λ b. drop 32 (drop 2 b)) two in
    let size : length digest ≡ 32 = ap length digest_is ∙ length-take-le 32 more (omega (arith, ap length two)) in
    let joined : digest ++ rest ≡ more = (λ i. digest_is i ++ rest_is i) ∙ take-append-drop 32 more in
    record {
      cid = record { version = omega arith; codec = lit< tt; hash = lit< tt; digest = omega (arith, size); version0 = λ _. record { codec = refl; hash = refl; digest = size } };
      spelled = two ∙ ap (λ b. 0x12 ∷ (0x20 ∷ b)) (sym joined);
    }

-- what a reader of version 1 found
pub found_1 : (bytes after_version after_codec after_hash digest rest : List ℕ) (version codec hash : ℕ) → version ≡ 1 → bytes ≡ varint version ++ after_version → codec < 2 ^ 63 → after_version ≡ varint codec ++ after_codec → hash < 2 ^ 63 → after_codec ≡ varint hash ++ after_hash → length digest ≤ 128 → after_hash ≡ varint (length digest) ++ (digest ++ rest) → FoundCid bytes (parts 1 codec hash digest) rest
found_1 bytes av ac ah digest rest version codec hash one is_v small_c is_c small_h is_h short is_d = record {
  cid = record { version = omega arith; codec = small_c; hash = small_h; digest = short; version0 = λ none. absurd (let e : 1 ≡ 0 = none in omega arith) };
  spelled = is_v ∙ ((λ i. varint (one i) ++ av) ∙ (ap (λ b. varint 1 ++ b) (is_c ∙ ap (λ b. varint codec ++ b) (is_h ∙ ap (λ b. varint hash ++ b) is_d)) ∙ sym (cid_bytes-1-append (parts 1 codec hash digest) rest refl)));
}

pub fault_1 : (bytes after_version after_codec after_hash : List ℕ) (version codec hash : ℕ) (f : CidFault) → version ≡ 1 → version < 2 ^ 63 → bytes ≡ varint version ++ after_version → codec < 2 ^ 63 → after_version ≡ varint codec ++ after_codec → hash < 2 ^ 63 → after_codec ≡ varint hash ++ after_hash → IsLengthFault f after_hash → IsVersionFault f bytes
fault_1 bytes av ac ah version codec hash f one small_v is_v small_c is_c small_h is_h fault =
    inr (version, av, small_v, is_v, inr (one, inr (codec, ac, small_c, is_c, inr (hash, ah, small_h, is_h, fault))))

-- what a writer wrote
pub written_0 : (c : CidParts) (version : ℕ) (digest old new : List ℕ) → version ≡ c.version → version ≡ 0 → digest ≡ c.digest → new ≡ old ++ (0x12 ∷ (0x20 ∷ digest)) → new ≡ old ++ cid_bytes c
written_0 c version digest old new is zero_c same written =
    written ∙ ap (λ b. old ++ b) (ap (λ d. 0x12 ∷ (0x20 ∷ d)) same ∙ sym (cid_bytes-0 c (sym is ∙ zero_c)))

pub written_1 : (c : CidParts) (version codec hash : ℕ) (digest old new : List ℕ) → IsCid c → version ≡ c.version → (version ≡ 0 → ⊥) → codec ≡ c.codec → hash ≡ c.hash → digest ≡ c.digest → new ≡ old ++ (varint 1 ++ (varint codec ++ (varint hash ++ (varint (length digest) ++ digest)))) → new ≡ old ++ cid_bytes c
written_1 c version codec hash digest old new is_cid is not_0 same_codec same_hash same written =
    let one : c.version ≡ 1 = elim (version_cases c is_cid) [ inl none ↦ absurd (not_0 (is ∙ none)) | inr one ↦ one ] in
    written ∙ ap (λ b. old ++ b) ((λ i. varint 1 ++ (varint (same_codec i) ++ (varint (same_hash i) ++ (varint (length (same i)) ++ same i)))) ∙ sym (cid_bytes-1 c one))
