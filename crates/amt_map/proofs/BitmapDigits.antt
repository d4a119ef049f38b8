-- The digits whose bits a bitmap of groups has are those of the groups.
use Rattle.std.proofs.Common.{◌≡◌, ℕ, zero, suc, ◌+◌, ◌*◌, ◌/◌, ◌%◌, ◌^◌, ◌<◌, ◌≤◌, ◌==◌, Bool, true, false, cond, List, [], ◌∷◌, ◌++◌, filter, length, map, refl, sym, ap, ◌∙◌, arith}
use Rattle.std.proofs.lemmas.List.Sums.{sum_by-cons}
use Rattle.std.specs.Prelude.{nat_lt}
use Rattle.amt_map.specs.Node.{bitmap, digits, groups}
use Rattle.amt_map.specs.Pairs.{with_digit}
use Rattle.amt_map.specs.Walk.{set_digits}
use Rattle.amt_map.proofs.Grouping.{numbered}
use Rattle.amt_map.proofs.NodeForm.{is_set}

module _ {X : Type 0} (F : ℕ → List (ℕ × X)) where
  abbrev some : ℕ → Bool
  some k = nat_lt 0 (length (F k))

  digits_of_groups : (ks : List ℕ) → map (λ g. g.0) (numbered F ks) ≡ filter some ks
  digits_of_groups [] = refl
  digits_of_groups (k ∷ ks) = by (some k) (digits_of_groups ks) where
    by : (b : Bool) → map (λ g. g.0) (numbered F ks) ≡ filter some ks → map (λ g. g.0) (cond b ((k, F k) ∷ numbered F ks) (numbered F ks)) ≡ cond b (k ∷ filter some ks) (filter some ks)
    by true rest = ap (λ ds. k ∷ ds) rest
    by false rest = rest

-- the sum of the bits of some digits
abbrev bits_where : (ℕ → Bool) → List ℕ → ℕ
bits_where test [] = 0
bits_where test (k ∷ ks) = cond (test k) (2 ^ k) 0 + bits_where test ks

nothing_more : (n : ℕ) → n ≡ 0 + n
nothing_more n = omega arith

bitmap_is : {X : Type 0} (F : ℕ → List (ℕ × X)) (ks : List ℕ) → bitmap (numbered F ks) ≡ bits_where (λ k. nat_lt 0 (length (F k))) ks
bitmap_is F [] = refl
bitmap_is {X} F (k ∷ ks) = by (nat_lt 0 (length (F k))) (bitmap_is F ks) where
  by : (b : Bool) → bitmap (numbered F ks) ≡ bits_where (λ k. nat_lt 0 (length (F k))) ks → bitmap (cond b ((k, F k) ∷ numbered F ks) (numbered F ks)) ≡ cond b (2 ^ k) 0 + bits_where (λ k. nat_lt 0 (length (F k))) ks
  by true rest = sum_by-cons (λ (n : ℕ). n) (2 ^ k) (map (λ g. 2 ^ g.0) (numbered F ks)) ∙ ap (λ n. 2 ^ k + n) rest
  by false rest = rest ∙ nothing_more (bits_where (λ k. nat_lt 0 (length (F k))) ks)

-- ---- the bits of one byte

weigh : (b : Bool) (w : ℕ) → cond b w 0 ≡ cond b 1 0 * w
weigh true w = omega arith
weigh false w = omega arith

at_most_one : (b : Bool) → cond b 1 0 ≤ 1
at_most_one true = omega arith
at_most_one false = omega arith

one_test : (b : Bool) → (cond b 1 0 == 1) ≡ b
one_test true = refl
one_test false = refl

module _ (c0 c1 c2 c3 c4 c5 c6 c7 : ℕ) (s0 : c0 ≤ 1) (s1 : c1 ≤ 1) (s2 : c2 ≤ 1) (s3 : c3 ≤ 1) (s4 : c4 ≤ 1) (s5 : c5 ≤ 1) (s6 : c6 ≤ 1) (s7 : c7 ≤ 1) where
  abbrev byte : ℕ
  byte = c0 * 1 + (c1 * 2 + (c2 * 4 + (c3 * 8 + (c4 * 16 + (c5 * 32 + (c6 * 64 + (c7 * 128 + 0)))))))

  bit_0 : byte / 1 % 2 ≡ c0
  bit_0 = omega (arith, s0, s1, s2, s3, s4, s5, s6, s7)

  bit_1 : byte / 2 % 2 ≡ c1
  bit_1 = omega (arith, s0, s1, s2, s3, s4, s5, s6, s7)

  bit_2 : byte / 4 % 2 ≡ c2
  bit_2 = omega (arith, s0, s1, s2, s3, s4, s5, s6, s7)

  bit_3 : byte / 8 % 2 ≡ c3
  bit_3 = omega (arith, s0, s1, s2, s3, s4, s5, s6, s7)

  bit_4 : byte / 16 % 2 ≡ c4
  bit_4 = omega (arith, s0, s1, s2, s3, s4, s5, s6, s7)

  bit_5 : byte / 32 % 2 ≡ c5
  bit_5 = omega (arith, s0, s1, s2, s3, s4, s5, s6, s7)

  bit_6 : byte / 64 % 2 ≡ c6
  bit_6 = omega (arith, s0, s1, s2, s3, s4, s5, s6, s7)

  bit_7 : byte / 128 % 2 ≡ c7
  bit_7 = omega (arith, s0, s1, s2, s3, s4, s5, s6, s7)

-- the tests of a number's bits are those that it was made by
same_tests : (test : ℕ → Bool) → filter (is_set (bits_where test digits)) digits ≡ filter test digits
same_tests test =
    let c : ℕ → ℕ = λ k. cond (test k) 1 0 in
    let small : (k : ℕ) → c k ≤ 1 = λ k. at_most_one (test k) in
    let whole : bits_where test digits ≡ c 0 * 1 + (c 1 * 2 + (c 2 * 4 + (c 3 * 8 + (c 4 * 16 + (c 5 * 32 + (c 6 * 64 + (c 7 * 128 + 0))))))) =
    λ i. weigh (test 0) 1 i + (weigh (test 1) 2 i + (weigh (test 2) 4 i + (weigh (test 3) 8 i + (weigh (test 4) 16 i + (weigh (test 5) 32 i + (weigh (test 6) 64 i + (weigh (test 7) 128 i + 0))))))) in
    let n : ℕ = bits_where test digits in
    let at : (k w : ℕ) → n / w % 2 ≡ c k → (n / w % 2 == 1) ≡ test k = λ k w bit. ap (λ (b : ℕ). b == 1) bit ∙ one_test (test k) in
    let t0 = at 0 1 (ap (λ (m : ℕ). m / 1 % 2) whole ∙ bit_0 (c 0) (c 1) (c 2) (c 3) (c 4) (c 5) (c 6) (c 7) (small 0) (small 1) (small 2) (small 3) (small 4) (small 5) (small 6) (small 7)) in
    let t1 = at 1 2 (ap (λ (m : ℕ). m / 2 % 2) whole ∙ bit_1 (c 0) (c 1) (c 2) (c 3) (c 4) (c 5) (c 6) (c 7) (small 0) (small 1) (small 2) (small 3) (small 4) (small 5) (small 6) (small 7)) in
    let t2 = at 2 4 (ap (λ (m : ℕ). m / 4 % 2) whole ∙ bit_2 (c 0) (c 1) (c 2) (c 3) (c 4) (c 5) (c 6) (c 7) (small 0) (small 1) (small 2) (small 3) (small 4) (small 5) (small 6) (small 7)) in
    let t3 = at 3 8 (ap (λ (m : ℕ). m / 8 % 2) whole ∙ bit_3 (c 0) (c 1) (c 2) (c 3) (c 4) (c 5) (c 6) (c 7) (small 0) (small 1) (small 2) (small 3) (small 4) (small 5) (small 6) (small 7)) in
    let t4 = at 4 16 (ap (λ (m : ℕ). m / 16 % 2) whole ∙ bit_4 (c 0) (c 1) (c 2) (c 3) (c 4) (c 5) (c 6) (c 7) (small 0) (small 1) (small 2) (small 3) (small 4) (small 5) (small 6) (small 7)) in
    let t5 = at 5 32 (ap (λ (m : ℕ). m / 32 % 2) whole ∙ bit_5 (c 0) (c 1) (c 2) (c 3) (c 4) (c 5) (c 6) (c 7) (small 0) (small 1) (small 2) (small 3) (small 4) (small 5) (small 6) (small 7)) in
    let t6 = at 6 64 (ap (λ (m : ℕ). m / 64 % 2) whole ∙ bit_6 (c 0) (c 1) (c 2) (c 3) (c 4) (c 5) (c 6) (c 7) (small 0) (small 1) (small 2) (small 3) (small 4) (small 5) (small 6) (small 7)) in
    let t7 = at 7 128 (ap (λ (m : ℕ). m / 128 % 2) whole ∙ bit_7 (c 0) (c 1) (c 2) (c 3) (c 4) (c 5) (c 6) (c 7) (small 0) (small 1) (small 2) (small 3) (small 4) (small 5) (small 6) (small 7)) in
    kept 0 (t0) (kept 1 (t1) (kept 2 (t2) (kept 3 (t3) (kept 4 (t4) (kept 5 (t5) (kept 6 (t6) (kept 7 (t7) refl))))))) where
      kept : {p q : Bool} (k : ℕ) {xs ys : List ℕ} → p ≡ q → xs ≡ ys → cond p (k ∷ xs) xs ≡ cond q (k ∷ ys) ys
      kept k same rest = λ i. cond (same i) (k ∷ rest i) (rest i)

-- those of the groups of a node
pub bitmap_digits : {X : Type 0} (height : ℕ) (ps : List (ℕ × X)) → set_digits (bitmap (groups height ps)) ≡ map (λ g. g.0) (groups height ps)
unfolding groups
bitmap_digits height ps =
    ap set_digits (bitmap_is (λ k. with_digit height k ps) digits) ∙ same_tests (λ k. nat_lt 0 (length (with_digit height k ps))) ∙ sym (digits_of_groups (λ k. with_digit height k ps) digits)
