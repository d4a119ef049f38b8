-- The number of a hash without its first bits.
use Rattle.std.proofs.Common.{◌≡◌, ℕ, zero, suc, ◌+◌, ◌-◌, ◌*◌, ◌/◌, ◌%◌, ◌^◌, ◌<◌, ◌≤◌, List, [], ◌∷◌, ◌++◌, length, take, drop, get_or, set, replicate, drop-cons, refl, sym, ap, subst, ◌∙◌, arith, length-drop}
use Rattle.std.proofs.lemmas.List.{take-append-drop}
use Rattle.std.proofs.lemmas.Nat.{div-mul-add, mod-mul-add, mod-pow-add, pow-add}
use Rattle.std.proofs.lemmas.Int.Digits.{number_after_append, number_lt}
use Rattle.std.proofs.Math.Nat.{add-mul, mod-eq_of_lt, mul_assoc, mul-add-mod_self_right, pow-suc}
use Rattle.std.proofs.Math.Pow.{pow_mono}
use Rattle.std.specs.Int.Digits.{AllBelowBase, number_from_digits, number_from_digits_after}
use Rattle.hamt_map.proofs.Places.{all_below_drop, pow-256}

-- ---- bytes that are cleared

more_zeros : (i : ℕ) (ds : List ℕ) → i < length ds → set (replicate i 0 ++ drop i ds) i 0 ≡ replicate (suc i) 0 ++ drop (suc i) ds
more_zeros i [] within = absurd (omega arith)
more_zeros zero (d ∷ ds) within = refl
more_zeros (suc i) (d ∷ ds) within = ap (λ (xs : List ℕ). 0 ∷ xs) (more_zeros i ds (omega arith))

pub cleared_more : (i : ℕ) (ds low after : List ℕ) → i < length ds → low ≡ replicate i 0 ++ drop i ds → after ≡ set low i 0 → after ≡ replicate (i + 1) 0 ++ drop (i + 1) ds
cleared_more i ds low after within so_far is =
    let next : suc i ≡ i + 1 = omega arith in
    is ∙ ap (λ (xs : List ℕ). set xs i 0) so_far ∙ more_zeros i ds within ∙ ap (λ (k : ℕ). replicate k 0 ++ drop k ds) next

set_behind : (i y : ℕ) (ds : List ℕ) → i < length ds → set (replicate i 0 ++ drop i ds) i y ≡ replicate i 0 ++ y ∷ drop (suc i) ds
set_behind i y [] within = absurd (omega arith)
set_behind zero y (d ∷ ds) within = refl
set_behind (suc i) y (d ∷ ds) within = ap (λ (xs : List ℕ). 0 ∷ xs) (set_behind i y ds (omega arith))

-- ---- numbers

-- a number that stands before digits
after_is : (n : ℕ) (ds : List ℕ) → number_from_digits_after 256 n ds ≡ n * 256 ^ length ds + number_from_digits 256 ds
after_is n [] = omega arith
after_is n (d ∷ ds) =
    let scale : ℕ = 256 ^ length ds in
    let rest : ℕ = number_from_digits 256 ds in
    let more : number_from_digits_after 256 (n * 256 + d) ds ≡ (n * 256 + d) * scale + rest = after_is (n * 256 + d) ds in
    let alone : number_from_digits_after 256 (0 * 256 + d) ds ≡ (0 * 256 + d) * scale + rest = after_is (0 * 256 + d) ds in
    let spread : (n * 256 + d) * scale ≡ n * 256 * scale + d * scale = add-mul (n * 256) d scale in
    let first : (0 * 256 + d) * scale ≡ d * scale = ap (λ (k : ℕ). k * scale) (zero_first d) in
    let wider : n * 256 ^ suc (length ds) ≡ n * 256 * scale = ap (λ (p : ℕ). n * p) (pow-suc 256 (length ds) ∙ turned scale) ∙ sym (mul_assoc n 256 scale) in
    omega (arith, more, alone, spread, first, wider) where
      zero_first : (k : ℕ) → 0 * 256 + k ≡ k
      zero_first k = omega arith

      turned : (p : ℕ) → p * 256 ≡ 256 * p
      turned p = omega arith

zeros_number : (i : ℕ) (ds : List ℕ) → number_from_digits 256 (replicate i 0 ++ ds) ≡ number_from_digits 256 ds
zeros_number zero ds = refl
zeros_number (suc i) ds = zeros_number i ds

whole_front : (front x kept : ℕ) → kept ≤ 8 → (front * 256 + x) % 2 ^ kept ≡ x % 2 ^ kept
whole_front front x kept small =
    let eight : 8 ≡ (8 - kept) + kept = omega arith in
    let split : 256 ≡ 2 ^ (8 - kept) * 2 ^ kept = ap (λ (k : ℕ). 2 ^ k) eight ∙ pow-add 2 (8 - kept) kept in
    ap (λ (p : ℕ). (p + x) % 2 ^ kept) (ap (λ (p : ℕ). front * p) split ∙ sym (mul_assoc front (2 ^ (8 - kept)) (2 ^ kept))) ∙ mul-add-mod_self_right (front * 2 ^ (8 - kept)) (2 ^ kept) x

-- a power that 16 bits hold
pub short_power : (e : ℕ) → e ≤ 8 → 1 * 2 ^ e % 65536 ≡ 2 ^ e
short_power e small =
    let one : 1 * 2 ^ e ≡ 2 ^ e = omega arith in
    let top : 2 ^ e ≤ 2 ^ 8 = pow_mono small in
    ap (λ (p : ℕ). p % 65536) one ∙ mod-eq_of_lt (omega (arith, top))

-- the number of a hash whose first bytes and first bits of the next byte are cleared
pub low_number : (ds low : List ℕ) (at gone y : ℕ) → AllBelowBase 256 ds → length ds ≡ 32 → gone ≤ 250 → at ≡ gone / 8 → y ≡ get_or ds at 0 % 2 ^ (8 - gone % 8)
    → low ≡ set (replicate at 0 ++ drop at ds) at y → number_from_digits 256 low ≡ number_from_digits 256 ds % 2 ^ (256 - gone)
low_number ds low at gone y below long small is kept cleared =
    let x : ℕ = get_or ds at 0 in
    let within : at < length ds = omega (arith, long, small, is) in
    let tail : List ℕ = drop (suc at) ds in
    let front : ℕ = number_from_digits 256 (take at ds) in
    let few : ℕ = 8 - gone % 8 in
    let rest : ℕ = number_from_digits 256 tail in
    let size : length tail ≡ 31 - at = length-drop (suc at) ds ∙ (omega (arith, long)) in
    let scale : 256 ^ length tail ≡ 2 ^ (8 * (31 - at)) = ap (λ (k : ℕ). 256 ^ k) size ∙ pow-256 (31 - at) ∙ ap (λ (k : ℕ). 2 ^ k) (turned (31 - at)) in
    let less : rest < 2 ^ (8 * (31 - at)) = subst (λ (p : ℕ). rest < p) scale (number_lt 256 tail (all_below_drop (suc at) ds below)) in
    let width : 256 - gone ≡ few + 8 * (31 - at) = omega (arith, small, is) in
    let whole : number_from_digits 256 ds ≡ (front * 256 + x) * 2 ^ (8 * (31 - at)) + rest =
    ap (number_from_digits 256) (sym (take-append-drop at ds)) ∙ number_after_append 256 0 (take at ds) (drop at ds) ∙ ap (λ (xs : List ℕ). number_from_digits_after 256 front xs) (drop-cons ds at 0 within)
    ∙ after_is (front * 256 + x) tail ∙ ap (λ (p : ℕ). (front * 256 + x) * p + rest) scale in
    let mine : number_from_digits 256 low ≡ y * 2 ^ (8 * (31 - at)) + rest =
    ap (number_from_digits 256) (cleared ∙ set_behind at y ds within) ∙ zeros_number at (y ∷ tail) ∙ after_is (0 * 256 + y) tail ∙ (λ i. zero_first y i * scale i + rest) in
    mine
    ∙ ap (λ (b : ℕ). b * 2 ^ (8 * (31 - at)) + rest) (kept ∙ sym (whole_front front x few (omega arith)))
    ∙ sym (ap (λ (k : ℕ). number_from_digits 256 ds % 2 ^ k) width ∙ mod-pow-add (number_from_digits 256 ds) few (8 * (31 - at))
    ∙ (λ i. ((ap (λ (p : ℕ). p / 2 ^ (8 * (31 - at))) whole ∙ div-mul-add (front * 256 + x) (2 ^ (8 * (31 - at))) rest less) i % 2 ^ few) * 2 ^ (8 * (31 - at)) + (ap (λ (p : ℕ). p % 2 ^ (8 * (31 - at))) whole ∙ mod-mul-add (front * 256 + x) (2 ^ (8 * (31 - at))) rest less) i)) where
      zero_first : (k : ℕ) → 0 * 256 + k ≡ k
      zero_first k = omega arith

      turned : (n : ℕ) → n * 8 ≡ 8 * n
      turned n = omega arith
