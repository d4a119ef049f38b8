-- The pairs of a plain map: no two of them have one key.
use Rattle.std.proofs.Common.{◌≡◌, ◌≢◌, ℕ, zero, suc, ◌<◌, List, [], ◌∷◌, length, get_or, ◌⊎◌, inl, inr, refl, sym, ap, ◌∙◌, arith}
use Rattle.std.proofs.lemmas.Bool.{cases_Bool, cases_order, false≢true}
use Rattle.std.proofs.lemmas.Cmp.{nat_cmp_total, nat_list_cmp_total, on_total, then_total, tied_itself}
use Rattle.std.proofs.lemmas.List.{get_or-map, get_or_default, length-map}
use Rattle.std.proofs.lemmas.Slice.Eq.{bytes_eq-Decides}
use Rattle.std.specs.Cmp.{IsTotalOrder}
use Rattle.std.specs.List.{IsAmong}
use Rattle.std.specs.Str.{bytes_eq}
use Rattle.std.specs.declared.cmp.Ordering.TheVariants.{Less, Equal}
use Rattle.dag_cbor.specs.declared.value.Value.{Value}
use Rattle.dag_cbor.specs.Plain.{KeysRise, key_cmp}
use Rattle.dag_cbor.proofs.Equations.{keys_of}
use Rattle.car_file.specs.Car.{roots, version}
use Rattle.car_file.specs.CarFault.{IsOtherKey, Pairs}

key_cmp_total : IsTotalOrder key_cmp
key_cmp_total = then_total (on_total length nat_cmp_total) nat_list_cmp_total

pub not_before_itself : (key : List ℕ) → key_cmp key key ≡ Less → ⊥
not_before_itself key less = absurd (let tied : key_cmp key key ≡ Equal = tied_itself key_cmp_total key in cc)

later_keys_rise : (key : List ℕ) (keys : List (List ℕ)) → KeysRise (key ∷ keys) → KeysRise keys
later_keys_rise key [] rise = tt
later_keys_rise key (next ∷ keys) rise = rise.1

before_later : (key : List ℕ) (keys : List (List ℕ)) (j : ℕ) → KeysRise (key ∷ keys) → j < length keys → key_cmp key (get_or keys j []) ≡ Less
before_later key [] j rise within = absurd (omega arith)
before_later key (next ∷ keys) zero rise within = rise.0
before_later key (next ∷ keys) (suc j) rise within =
    key_cmp_total.trans key next (get_or keys j []) rise.0 (before_later next keys j rise.1 (omega arith))

-- each key is before all later ones
rising : (keys : List (List ℕ)) (i j : ℕ) → KeysRise keys → i < j → j < length keys → key_cmp (get_or keys i []) (get_or keys j []) ≡ Less
rising [] i j rise less within = absurd (omega arith)
rising (key ∷ keys) i zero rise less within = absurd (omega arith)
rising (key ∷ keys) zero (suc j) rise less within = before_later key keys j rise (omega arith)
rising (key ∷ keys) (suc i) (suc j) rise less within = rising keys i j (later_keys_rise key keys rise) (omega arith) (omega arith)

one_place : (keys : List (List ℕ)) (i j : ℕ) → KeysRise keys → i < length keys → j < length keys → get_or keys i [] ≡ get_or keys j [] → i ≡ j
one_place keys i j rise within_i within_j same =
    elim (cases_order i j) [
      | inl is ↦ is
      | inr (inl less) ↦ absurd (not_before_itself (get_or keys j []) (ap (λ key. key_cmp key (get_or keys j [])) (sym same) ∙ rising keys i j rise less within_j))
      | inr (inr more) ↦ absurd (not_before_itself (get_or keys i []) (ap (λ key. key_cmp key (get_or keys i [])) same ∙ rising keys j i rise more within_i))
    ]

key_at : (pairs : Pairs) (i : ℕ) (p : List ℕ × Value) → i < length pairs → p ≡ get_or pairs i p → get_or (keys_of pairs) i [] ≡ p.0
key_at pairs i p within is = get_or-map (λ (q : List ℕ × Value). q.0) pairs i p [] within ∙ ap (λ (q : List ℕ × Value). q.0) (sym is)

-- a key has one item at most
pub one_item : (pairs : Pairs) (key : List ℕ) (x y : Value) → KeysRise (keys_of pairs) → IsAmong pairs (key, x) → IsAmong pairs (key, y) → x ≡ y
one_item pairs key x y rise (i, (within_i, is_i)) (j, (within_j, is_j)) =
    let size : length (keys_of pairs) ≡ length pairs = length-map pairs (λ (q : List ℕ × Value). q.0) in
    let keys : get_or (keys_of pairs) i [] ≡ get_or (keys_of pairs) j [] = key_at pairs i (key, x) within_i is_i ∙ sym (key_at pairs j (key, y) within_j is_j) in
    let place = one_place (keys_of pairs) i j rise (omega arith) (omega arith) keys in
    let pair : (key, x) ≡ (key, y) = is_i ∙ (ap (λ (n : ℕ). get_or pairs n (key, x)) place ∙ (get_or_default pairs j (key, x) (key, y) within_j ∙ sym is_j)) in
    ap (λ (q : List ℕ × Value). q.1) pair

-- ---- the keys of a header

same_or_not : (a b : List ℕ) → (a ≡ b) ⊎ (a ≢ b)
same_or_not a b =
    elim (cases_Bool (bytes_eq a b)) [
      | inl equal ↦ inl ((bytes_eq-Decides a b).0 equal)
      | inr differ ↦ inr (λ is. false≢true (sym differ ∙ (bytes_eq-Decides a b).1 is))
    ]

-- a key is `roots`, or `version`, or another
pub key_cases : (key : List ℕ) → (key ≡ roots) ⊎ ((key ≡ version) ⊎ IsOtherKey key)
key_cases key =
    elim (same_or_not key roots) [
      | inl is ↦ inl is
      | inr not_roots ↦ elim (same_or_not key version) [
        | inl is ↦ inr (inl is)
        | inr not_version ↦ inr (inr (not_roots, not_version))
      ]
    ]

-- each key is one of the two
abbrev pub HasOnlyBoth : Pairs → Type 0
HasOnlyBoth pairs = (key : List ℕ) (value : Value) → IsAmong pairs (key, value) → IsOtherKey key → ⊥

-- the first of two rising keys of a header is `roots`, and the second is `version`
both_keys : (first second : List ℕ) → key_cmp first second ≡ Less → (IsOtherKey first → ⊥) → (IsOtherKey second → ⊥) → (first ≡ roots) × (second ≡ version)
both_keys first second less sound_first sound_second =
    elim (key_cases second) [
      | inl second_roots ↦ elim (key_cases first) [
        | inl first_roots ↦ absurd (not_before_itself roots (sym (λ i. key_cmp (first_roots i) (second_roots i)) ∙ less))
        | inr (inl first_version) ↦ absurd (let e : key_cmp version roots ≡ Less = sym (λ i. key_cmp (first_version i) (second_roots i)) ∙ less in cc)
        | inr (inr other) ↦ absurd (sound_first other)
      ]
      | inr (inl second_version) ↦ elim (key_cases first) [
        | inl first_roots ↦ (first_roots, second_version)
        | inr (inl first_version) ↦ absurd (not_before_itself version (sym (λ i. key_cmp (first_version i) (second_version i)) ∙ less))
        | inr (inr other) ↦ absurd (sound_first other)
      ]
      | inr (inr other) ↦ absurd (sound_second other)
    ]

roots_not_version : roots ≡ version → ⊥
roots_not_version is = absurd (let e : 5 ≡ 7 = ap length is in omega arith)

among_none : (p : List ℕ × Value) → IsAmong [] p → ⊥
among_none p (i, (within, is)) = absurd (omega arith)

among_one : (p q : List ℕ × Value) → IsAmong (p ∷ []) q → q ≡ p
among_one p q (zero, (within, is)) = is
among_one p q (suc i, (within, is)) = absurd (omega arith)

-- a map with both keys and no other has two pairs
pub both_pairs : (pairs : Pairs) (x y : Value) → KeysRise (keys_of pairs) → IsAmong pairs (roots, x) → IsAmong pairs (version, y) → HasOnlyBoth pairs → pairs ≡ (roots, x) ∷ ((version, y) ∷ [])
both_pairs [] x y rise has_roots has_version only = absurd (among_none (roots, x) has_roots)
both_pairs (p ∷ []) x y rise has_roots has_version only =
    absurd (roots_not_version (ap (λ (q : List ℕ × Value). q.0) (among_one p (roots, x) has_roots ∙ sym (among_one p (version, y) has_version))))
both_pairs (p ∷ (q ∷ [])) x y rise has_roots has_version only =
    let pairs : Pairs = p ∷ (q ∷ []) in
    let keys = both_keys p.0 q.0 rise.0 (only p.0 p.1 (0, (omega arith, refl))) (only q.0 q.1 (1, (omega arith, refl))) in
    let item : p.1 ≡ x = one_item pairs roots p.1 x rise (0, (omega arith, λ i. (sym keys.0 i, p.1))) has_roots in
    let number : q.1 ≡ y = one_item pairs version q.1 y rise (1, (omega arith, λ i. (sym keys.1 i, q.1))) has_version in
    λ i. (keys.0 i, item i) ∷ ((keys.1 i, number i) ∷ [])
both_pairs (p ∷ (q ∷ (r ∷ more))) x y rise has_roots has_version only =
    let first = both_keys p.0 q.0 rise.0 (only p.0 p.1 (0, (omega arith, refl))) (only q.0 q.1 (1, (omega arith, refl))) in
    let second = both_keys q.0 r.0 rise.1.0 (only q.0 q.1 (1, (omega arith, refl))) (only r.0 r.1 (2, (omega arith, refl))) in
    absurd (roots_not_version (sym second.0 ∙ first.1))
