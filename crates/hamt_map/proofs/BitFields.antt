-- How many bits of a bit field are set, and how long it is.
use Rattle.std.proofs.Common.{◌≡◌, ℕ, zero, suc, ◌+◌, ◌*◌, ◌/◌, ◌%◌, ◌^◌, ◌<◌, ◌≤◌, Bool, true, false, cond, List, [], ◌∷◌, ◌++◌, length, map, sum, refl, sym, ap, ◌∙◌, arith}
use Rattle.std.proofs.lemmas.List.{map-append, length-map}
use Rattle.std.proofs.lemmas.List.Sums.{fold-append}
use Rattle.std.proofs.lemmas.Nat.{pow-add}
use Rattle.std.proofs.lemmas.Int.Digits.{digits_of_step, length-digits_of-le}
use Rattle.std.specs.List.{flat_map}
use Rattle.std.specs.Int.Digits.{digits_of}
use Rattle.tree_blocks.specs.Forms.{set_bits}
use Rattle.hamt_map.specs.Pairs.{Pairs}
use Rattle.hamt_map.specs.Groups.{bits_from, by_place, is_group}

sum_push : (xs : List ℕ) (x : ℕ) → sum (xs ++ x ∷ []) ≡ sum xs + x
sum_push xs x = fold-append ◌+◌ 0 xs (x ∷ [])

-- the bits of a number that are set
ones_of : ℕ → ℕ
ones_of n = sum (digits_of 2 n)

ones_half : (n : ℕ) → ones_of n ≡ ones_of (n / 2) + n % 2
unfolding ones_of
ones_half zero = refl
ones_half (suc n) = ap sum (digits_of_step 2 (suc n) (omega arith) (omega arith)) ∙ sum_push (digits_of 2 (suc n / 2)) (suc n % 2)

half_of : (n w r : ℕ) → n ≡ w * 2 + r → n / 2 ≡ w + r / 2
half_of n w r is = omega arith

rest_of : (n w r : ℕ) → n ≡ w * 2 + r → n % 2 ≡ r % 2
rest_of n w r is = omega arith

twice : (q p : ℕ) → q * (p * 2) ≡ (q * p) * 2
twice q p = omega arith

no_ones : ones_of 0 ≡ 0
unfolding ones_of
no_ones = refl

-- those of two parts
ones_apart : (k n q r : ℕ) → n ≡ q * 2 ^ k + r → r < 2 ^ k → ones_of n ≡ ones_of q + ones_of r
ones_apart zero n q r is small =
    let none : r ≡ 0 = omega arith in
    let same : n ≡ q = omega arith in
    let nothing : ones_of r ≡ 0 = ap ones_of none ∙ no_ones in
    let front : ones_of n ≡ ones_of q = ap ones_of same in
    omega (arith, nothing, front)
ones_apart (suc k) n q r is small =
    let power : 2 ^ suc k ≡ 2 ^ k * 2 = ap (λ (j : ℕ). 2 ^ j) (let e : suc k ≡ k + 1 = omega arith in e) ∙ pow-add 2 k 1 in
    let whole : n ≡ (q * 2 ^ k) * 2 + r = is ∙ ap (λ (p : ℕ). q * p + r) power ∙ ap (λ (p : ℕ). p + r) (twice q (2 ^ k)) in
    let behind : ones_of (n / 2) ≡ ones_of q + ones_of (r / 2) = ones_apart k (n / 2) q (r / 2) (half_of n (q * 2 ^ k) r whole) (omega (arith, small, power)) in
    let last = rest_of n (q * 2 ^ k) r whole in
    omega (arith, ones_half n, ones_half r, behind, last)

set_bits_within : (d n : ℕ) → n ≤ d → set_bits (digits_of 256 n) ≡ ones_of n
unfolding ones_of
set_bits_within d zero le = refl
set_bits_within zero (suc n) le = absurd (omega arith)
set_bits_within (suc d) (suc n) le =
    let front : set_bits (digits_of 256 (suc n / 256)) ≡ ones_of (suc n / 256) = set_bits_within d (suc n / 256) (omega arith) in
    let step : set_bits (digits_of 256 (suc n)) ≡ set_bits (digits_of 256 (suc n / 256)) + ones_of (suc n % 256) =
    ap set_bits (digits_of_step 256 (suc n) (omega arith) (omega arith)) ∙ ap sum (map-append (λ byte. sum (digits_of 2 byte)) (digits_of 256 (suc n / 256)) (suc n % 256 ∷ []))
    ∙ sum_push (map (λ byte. sum (digits_of 2 byte)) (digits_of 256 (suc n / 256))) (sum (digits_of 2 (suc n % 256))) in
    let both : ones_of (suc n) ≡ ones_of (suc n / 256) + ones_of (suc n % 256) = ones_apart 8 (suc n) (suc n / 256) (suc n % 256) (omega arith) (omega arith) in
    step ∙ ap (λ (k : ℕ). k + ones_of (suc n % 256)) front ∙ sym both

next_power : (k : ℕ) → 2 ^ (k + 1) ≡ 2 ^ k * 2
next_power k = pow-add 2 k 1

pub shifted_bits : (k : ℕ) (groups : List Pairs) → bits_from (k + 1) groups ≡ bits_from k groups * 2
shifted_bits k [] = refl
shifted_bits k (g ∷ groups) =
    let rest = shifted_bits (k + 1) groups in
    elim (is_group g) as (λ b. cond b (2 ^ (k + 1)) 0 + bits_from ((k + 1) + 1) groups ≡ (cond b (2 ^ k) 0 + bits_from (k + 1) groups) * 2) [
      | true ↦ omega (arith, rest, next_power k)
      | false ↦ omega (arith, rest)
    ]

-- one for each place that has a group
ones_by_place : {A : Type 0} (one : Pairs → List A) → ((g : Pairs) → length (one g) ≡ cond (is_group g) 1 0) → (groups : List Pairs) → ones_of (bits_from 0 groups) ≡ length (flat_map one groups)
unfolding ones_of
ones_by_place one each [] = refl
ones_by_place one each (g ∷ groups) =
    let rest = ones_by_place one each groups in
    let shift : bits_from 1 groups ≡ bits_from 0 groups * 2 = shifted_bits 0 groups in
    let bit : cond (is_group g) 1 0 < 2 = elim (is_group g) as (λ b. cond b 1 0 < 2) [ true ↦ omega arith | false ↦ omega arith ] in
    let own : ones_of (cond (is_group g) 1 0) ≡ cond (is_group g) 1 0 = elim (is_group g) as (λ b. ones_of (cond b 1 0) ≡ cond b 1 0) [ true ↦ refl | false ↦ refl ] in
    let apart = ones_apart 1 (cond (is_group g) 1 0 + bits_from 1 groups) (bits_from 0 groups) (cond (is_group g) 1 0) (omega (arith, shift)) bit in
    apart ∙ (let e : ones_of (bits_from 0 groups) + ones_of (cond (is_group g) 1 0) ≡ length (one g) + length (flat_map one groups) = omega (arith, rest, own, each g) in e)
    ∙ sym (length_both (one g) (flat_map one groups)) where
      length_both : {A : Type 0} (xs ys : List A) → length (xs ++ ys) ≡ length xs + length ys
      length_both [] ys = omega arith
      length_both (x ∷ xs) ys = let rest = length_both xs ys in omega (arith, rest)

-- as many bits are set as there are groups
pub set_bits_by_place : {A : Type 0} (one : Pairs → List A) → ((g : Pairs) → length (one g) ≡ cond (is_group g) 1 0) → (groups : List Pairs) → set_bits (digits_of 256 (bits_from 0 groups)) ≡ length (flat_map one groups)
set_bits_by_place one each groups = set_bits_within (bits_from 0 groups) (bits_from 0 groups) (omega arith) ∙ ones_by_place one each groups

bits_below : (k : ℕ) (groups : List Pairs) → bits_from k groups + 2 ^ k ≤ 2 ^ (k + length groups)
bits_below k [] = let e : 2 ^ (k + 0) ≡ 2 ^ k = ap (λ (j : ℕ). 2 ^ j) (let z : k + 0 ≡ k = omega arith in z) in omega (arith, e)
bits_below k (g ∷ groups) =
    let rest = bits_below (k + 1) groups in
    let same : 2 ^ ((k + 1) + length groups) ≡ 2 ^ (k + suc (length groups)) = ap (λ (j : ℕ). 2 ^ j) (let z : (k + 1) + length groups ≡ k + suc (length groups) = omega arith in z) in
    elim (is_group g) as (λ b. (cond b (2 ^ k) 0 + bits_from (k + 1) groups) + 2 ^ k ≤ 2 ^ (k + suc (length groups))) [
      | true ↦ omega (arith, rest, same, next_power k)
      | false ↦ omega (arith, rest, same, next_power k)
    ]

-- the bits of 32 places fit into 4 bytes
pub four_bytes : (level : ℕ) (pairs : Pairs) → length (digits_of 256 (bits_from 0 (by_place level pairs))) ≤ 4
four_bytes level pairs = length-digits_of-le 256 4 (bits_from 0 (by_place level pairs)) (omega arith) (let room = bits_below 0 (by_place level pairs) in omega (arith, room))
