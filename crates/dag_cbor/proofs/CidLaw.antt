-- CIDs: no spelling begins another, and the reading of one gives it back.
use Rattle.std.proofs.Common.{◌≡◌, ℕ, zero, suc, ◌+◌, ◌-◌, ◌*◌, ◌/◌, ◌%◌, ◌^◌, ◌<◌, ◌≤◌, ltb, eqb, Bool, true, false, cond, ◌&&◌, ◌||◌, nat_eq, List, [], ◌∷◌, ◌++◌, length, take, drop, reverse, Option, Some, None, refl, sym, ap, subst, ◌∙◌, append_assoc, arith, inl, inr, length-append}
use Rattle.std.specs.Int.Digits.{digits_of}
use Rattle.std.specs.Cmp.Lexicographic.{pointwise, bytes_decides}
use Rattle.std.proofs.lemmas.Bool.{cases_eq, lt-ltb, le-ltb, eqb-true, eq-eqb, ne_eqb, ltb-true, and_parts, or_cases}
use Rattle.std.proofs.lemmas.List.{append-nil, take_at, drop_at, reverse-append, length-reverse, nil_from_length}
use Rattle.std.proofs.lemmas.Int.Digits.{digits_of_step, length-digits_of-le}
use Rattle.fil_base.specs.CidParts.{CidParts, IsCid, IsVersion0}
use Rattle.fil_base.specs.CidBytes.{cid_bytes}
use Rattle.fil_base.specs.Varint.{varint, with_top_bits}
use Rattle.dag_cbor.specs.CidReading.{varint_at, version0_at, digest_at, multihash_at, content_at, parts_at, is_cid, cid_of}

-- ---- numbers of varying length

groups_step : (n : ℕ) → 0 < n → reverse (digits_of 128 n) ≡ (n % 128) ∷ reverse (digits_of 128 (n / 128))
groups_step n some = ap reverse (digits_of_step 128 n (omega arith) some) ∙ reverse-append (digits_of 128 (n / 128)) (n % 128 ∷ [])

last_group : (d : ℕ) (r : List ℕ) → d < 128 → varint_at (with_top_bits (d ∷ []) ++ r) ≡ (d, r)
unfolding varint_at
last_group d r lt = rw (lt-ltb d 128 lt) refl

more_groups : (d : ℕ) (gs : List ℕ) (q : ℕ) (r : List ℕ) → 0 < length gs → varint_at (with_top_bits gs ++ r) ≡ (q, r) → varint_at (with_top_bits (d ∷ gs) ++ r) ≡ (d + 128 * q, r)
unfolding varint_at
more_groups d [] q r some e = absurd (omega arith)
more_groups d (g ∷ gs) q r some e =
    let high : ltb (128 + d) 128 ≡ false = le-ltb _ _ (omega arith) in
    let low : 128 + d - 128 ≡ d = omega arith in
    rw (high, e, low) refl

groups_again : (fuel n : ℕ) (r : List ℕ) → n ≤ fuel → 0 < n → varint_at (with_top_bits (reverse (digits_of 128 n)) ++ r) ≡ (n, r)
groups_again zero n r le some = absurd (omega arith)
groups_again (suc fuel) n r le some =
    let step = groups_step n some in
    let whole : n % 128 + 128 * (n / 128) ≡ n = omega arith in
    ap (λ (gs : List ℕ). varint_at (with_top_bits gs ++ r)) step ∙
    elim (cases_eq (n / 128) 0) [
      | inl none ↦
          let low : n % 128 ≡ n = omega arith in
          ap (λ (q : ℕ). varint_at (with_top_bits (n % 128 ∷ reverse (digits_of 128 q)) ++ r)) none ∙ last_group (n % 128) r (omega arith) ∙ ap (λ (m : ℕ). (m, r)) low
      | inr some_high ↦
          let high : 0 < n / 128 = omega arith in
          let long : 0 < length (reverse (digits_of 128 (n / 128))) = omega (arith, ap length (groups_step (n / 128) high)) in
          more_groups (n % 128) (reverse (digits_of 128 (n / 128))) (n / 128) r long (groups_again fuel (n / 128) r (omega arith) high) ∙ ap (λ (m : ℕ). (m, r)) whole
    ]

varint_again : (n : ℕ) (r : List ℕ) → varint_at (varint n ++ r) ≡ (n, r)
unfolding varint varint_at
varint_again n r =
    elim (cases_eq n 0) [
      | inl none ↦ rw none refl
      | inr some ↦ rw (ne_eqb n 0 some) (groups_again n n r (omega arith) (omega arith))
    ]

-- ---- CIDs

parts_are : (c : CidParts) (version codec hash : ℕ) (digest : List ℕ) → version ≡ c.version → codec ≡ c.codec → hash ≡ c.hash → digest ≡ c.digest
    → let made : CidParts = record { version = version; codec = codec; hash = hash; digest = digest } in made ≡ c
parts_are c version codec hash digest v k h d = rw (v, k, h, d) refl

version0_again : (c : CidParts) (r : List ℕ) → IsVersion0 c → c.version ≡ 0 → version0_at (c.digest ++ r) ≡ (c, r)
version0_again c r is zero-is =
    let front : take 32 (c.digest ++ r) ≡ c.digest = take_at c.digest r 32 is.digest in
    let back : drop 32 (c.digest ++ r) ≡ r = drop_at c.digest r 32 is.digest in
    ap (λ (p : CidParts). (p, drop 32 (c.digest ++ r))) (parts_are c 0 0x70 0x12 (take 32 (c.digest ++ r)) (sym zero-is) (sym is.codec) (sym is.hash) front) ∙ ap (λ (s : List ℕ). (c, s)) back

version1_again : (c : CidParts) (r : List ℕ) → c.version ≡ 1 → content_at (varint_at (varint c.codec ++ (varint c.hash ++ (varint (length c.digest) ++ (c.digest ++ r))))) ≡ (c, r)
version1_again c r one-is =
    let len : ℕ = length c.digest in
    let front : take len (c.digest ++ r) ≡ c.digest = take_at c.digest r len refl in
    let back : drop len (c.digest ++ r) ≡ r = drop_at c.digest r len refl in
    ap content_at (varint_again c.codec (varint c.hash ++ (varint len ++ (c.digest ++ r))))
    ∙ ap (multihash_at c.codec) (varint_again c.hash (varint len ++ (c.digest ++ r)))
    ∙ ap (digest_at c.codec c.hash) (varint_again len (c.digest ++ r))
    ∙ ap (λ (p : CidParts). (p, drop len (c.digest ++ r))) (parts_are c 1 c.codec c.hash (take len (c.digest ++ r)) (sym one-is) refl refl front) ∙ ap (λ (s : List ℕ). (c, s)) back

pub bytes_of_0 : (c : CidParts) → c.version ≡ 0 → cid_bytes c ≡ 0x12 ∷ (0x20 ∷ c.digest)
unfolding cid_bytes
bytes_of_0 c is = rw is refl

pub bytes_of_1 : (c : CidParts) → c.version ≡ 1 → cid_bytes c ≡ 1 ∷ (varint c.codec ++ (varint c.hash ++ (varint (length c.digest) ++ c.digest)))
unfolding cid_bytes varint
bytes_of_1 c is = rw is refl

parts_0 : (bytes : List ℕ) → parts_at (0x12 ∷ (0x20 ∷ bytes)) ≡ version0_at bytes
unfolding parts_at
parts_0 bytes = refl

parts_1 : (bytes : List ℕ) → parts_at (1 ∷ bytes) ≡ content_at (varint_at bytes)
unfolding parts_at
parts_1 bytes = refl

pub parts_again : (c : CidParts) (r : List ℕ) → IsCid c → parts_at (cid_bytes c ++ r) ≡ (c, r)
parts_again c r is =
    elim (cases_eq c.version 0) [
      | inl none ↦ ap (λ (bytes : List ℕ). parts_at (bytes ++ r)) (bytes_of_0 c none) ∙ parts_0 (c.digest ++ r) ∙ version0_again c r (is.version0 none) none
      | inr some ↦
          let one : c.version ≡ 1 = omega (arith, is.version) in
          let parts : (varint c.codec ++ (varint c.hash ++ (varint (length c.digest) ++ c.digest))) ++ r ≡ varint c.codec ++ (varint c.hash ++ (varint (length c.digest) ++ (c.digest ++ r))) = simp append_assoc in
          ap (λ (bytes : List ℕ). parts_at (bytes ++ r)) (bytes_of_1 c one) ∙ parts_1 ((varint c.codec ++ (varint c.hash ++ (varint (length c.digest) ++ c.digest))) ++ r) ∙ ap (λ (bytes : List ℕ). content_at (varint_at bytes)) parts ∙ version1_again c r one
    ]

-- no spelling of a CID begins another
pub one_cid : (a b : CidParts) (r s : List ℕ) → IsCid a → IsCid b → cid_bytes a ++ r ≡ cid_bytes b ++ s → (a ≡ b) × (r ≡ s)
one_cid a b r s is-a is-b same =
    let both : (a, r) ≡ (b, s) = sym (parts_again a r is-a) ∙ ap parts_at same ∙ parts_again b s is-b in
    (ap (λ (p : CidParts × List ℕ). p.0) both, ap (λ (p : CidParts × List ℕ). p.1) both)

-- ---- a spelling is short

length-with_top_bits : (gs : List ℕ) → length (with_top_bits gs) ≡ length gs
length-with_top_bits [] = refl
length-with_top_bits (g ∷ []) = refl
length-with_top_bits (g ∷ (h ∷ gs)) = ap suc (length-with_top_bits (h ∷ gs))

varint_short : (n : ℕ) → n < 2 ^ 63 → length (varint n) ≤ 9
unfolding varint
varint_short n lt =
    elim (cases_eq n 0) [
      | inl none ↦ rw none (omega arith)
      | inr some ↦ rw (ne_eqb n 0 some) (omega (arith, length-with_top_bits (reverse (digits_of 128 n)), length-reverse (digits_of 128 n), length-digits_of-le 128 9 n (omega arith) lt))
    ]

pub cid_short : (c : CidParts) → IsCid c → length (cid_bytes c) + 1 < 2 ^ 64
cid_short c is =
    elim (cases_eq c.version 0) [
      | inl none ↦ omega (arith, ap length (bytes_of_0 c none), is.digest)
      | inr some ↦
          let one : c.version ≡ 1 = omega (arith, is.version) in
          let tail : List ℕ = varint (length c.digest) ++ c.digest in
          omega (
            arith,
            is.digest,
            ap length (bytes_of_1 c one),
            length-append (varint c.codec) (varint c.hash ++ tail),
            length-append (varint c.hash) tail,
            length-append (varint (length c.digest)) c.digest,
            varint_short c.codec is.codec,
            varint_short c.hash is.hash,
            varint_short (length c.digest) (omega (arith, is.digest)),
          )
    ]

-- ---- the CID of all of the bytes

is_cid-true : (c : CidParts) → IsCid c → is_cid c ≡ true
is_cid-true c is =
    elim (cases_eq c.version 0) [
      | inl none ↦ let v0 = is.version0 none in rw (lt-ltb c.version 2 (omega arith), lt-ltb c.codec (2 ^ 63) is.codec, lt-ltb c.hash (2 ^ 63) is.hash, lt-ltb (length c.digest) 129 (omega (arith, is.digest)), ne_eqb c.version 1 (λ e. omega arith), eq-eqb c.codec 0x70 v0.codec, eq-eqb c.hash 0x12 v0.hash, eq-eqb (length c.digest) 32 v0.digest) refl
      | inr some ↦ rw (lt-ltb c.version 2 (omega (arith, is.version)), lt-ltb c.codec (2 ^ 63) is.codec, lt-ltb c.hash (2 ^ 63) is.hash, lt-ltb (length c.digest) 129 (omega (arith, is.digest)), eq-eqb c.version 1 (omega (arith, is.version))) refl
    ]

is_cid-is : (c : CidParts) → is_cid c ≡ true → IsCid c
is_cid-is c e =
    let v : Bool = ltb c.version 2 in
    let k : Bool = ltb c.codec (2 ^ 63) in
    let m : Bool = ltb c.hash (2 ^ 63) in
    let l : Bool = ltb (length c.digest) 129 in
    let one_is : Bool = eqb c.version 1 in
    let v0_is : Bool = eqb c.codec 0x70 && eqb c.hash 0x12 && eqb (length c.digest) 32 in
    let a = and_parts (v && k && m && l) (one_is || v0_is) e in
    let b = and_parts (v && k && m) l a.0 in
    let d = and_parts (v && k) m b.0 in
    let f = and_parts v k d.0 in
    record {
      version = omega (arith, ltb-true _ _ f.0);
      codec = ltb-true _ _ f.1;
      hash = ltb-true _ _ d.1;
      digest = omega (arith, ltb-true _ _ b.1);
      version0 = λ none. elim (or_cases one_is v0_is a.1) [
        | inl one ↦ absurd (omega (arith, eqb-true _ _ one))
        | inr v0 ↦
            let g = and_parts (eqb c.codec 0x70 && eqb c.hash 0x12) (eqb (length c.digest) 32) v0 in
            let h = and_parts (eqb c.codec 0x70) (eqb c.hash 0x12) g.0 in
            record { codec = eqb-true _ _ h.0; hash = eqb-true _ _ h.1; digest = eqb-true _ _ g.1 }
      ];
    }

some_if : (b : Bool) (x c : CidParts) → cond b (Some x) None ≡ Some c → (b ≡ true) × (x ≡ c)
some_if true x c e = (refl, cc)
some_if false x c e = absurd cc

pub none_from : (o : Option CidParts) → ((c : CidParts) → o ≡ Some c → ⊥) → None ≡ o
none_from None none = refl
none_from (Some c) none = absurd (none c refl)

-- the CID that is found spells the bytes
pub cid_of-some : (bytes : List ℕ) (c : CidParts) → cid_of bytes ≡ Some c → IsCid c × (bytes ≡ cid_bytes c)
unfolding cid_of
cid_of-some bytes c e =
    let p : CidParts = (parts_at bytes).0 in
    let found = some_if (is_cid p && pointwise nat_eq (cid_bytes p) bytes) p c e in
    let both = and_parts (is_cid p) (pointwise nat_eq (cid_bytes p) bytes) found.0 in
    subst (λ (x : CidParts). IsCid x × (bytes ≡ cid_bytes x)) found.1 (is_cid-is p both.0, sym ((bytes_decides (cid_bytes p) bytes).0 both.1))

-- the CID that spells the bytes is found
pub cid_of-is : (bytes : List ℕ) (c : CidParts) → IsCid c → bytes ≡ cid_bytes c → cid_of bytes ≡ Some c
unfolding cid_of
cid_of-is bytes c is e =
    let parts : parts_at bytes ≡ (c, []) = ap parts_at (e ∙ sym (append-nil (cid_bytes c))) ∙ parts_again c [] is in
    let first : (parts_at bytes).0 ≡ c = ap (λ (p : CidParts × List ℕ). p.0) parts in
    rw (first, is_cid-true c is, (bytes_decides (cid_bytes c) bytes).1 (sym e)) refl

-- ---- what a reader of a CID found

-- it took all of the bytes
pub cid_whole : (c : CidParts) (bytes rest : List ℕ) → IsCid c → bytes ≡ cid_bytes c ++ rest → length bytes ≡ length (cid_bytes c) → Some c ≡ cid_of bytes
cid_whole c bytes rest is e len =
    let none : rest ≡ [] = nil_from_length rest (omega (arith, ap length e, length-append (cid_bytes c) rest)) in
    sym (cid_of-is bytes c is (e ∙ ap (λ (r : List ℕ). cid_bytes c ++ r) none ∙ append-nil (cid_bytes c)))

-- bytes are left after it
pub cid_longer : (c : CidParts) (bytes rest : List ℕ) → IsCid c → bytes ≡ cid_bytes c ++ rest → (length bytes ≡ length (cid_bytes c) → ⊥) → None ≡ cid_of bytes
cid_longer c bytes rest is e longer =
    none_from (cid_of bytes) (λ d found.
    let of_d = cid_of-some bytes d found in
    let both = one_cid d c [] rest of_d.0 is (append-nil (cid_bytes d) ∙ sym of_d.1 ∙ e) in
    longer (omega (arith, ap length e, length-append (cid_bytes c) rest, ap length both.1)))

-- it found none
pub no_cid : (bytes : List ℕ) → ((c : CidParts) (rest : List ℕ) → IsCid c → bytes ≡ cid_bytes c ++ rest → ⊥) → None ≡ cid_of bytes
no_cid bytes none =
    none_from (cid_of bytes) (λ d found. let of_d = cid_of-some bytes d found in none d [] of_d.0 (of_d.1 ∙ sym (append-nil (cid_bytes d))))
