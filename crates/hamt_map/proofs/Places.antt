-- Five bits of a number of 32 digits stand in two digits next to each other.
use Rattle.std.proofs.Common.{◌≡◌, ℕ, zero, suc, ◌+◌, ◌-◌, ◌*◌, ◌/◌, ◌%◌, ◌^◌, ◌<◌, ◌≤◌, List, [], ◌∷◌, length, take, drop, get_or, refl, sym, ap, ◌∙◌, arith, length-drop}
use Rattle.std.proofs.lemmas.List.{take-append-drop}
use Rattle.std.proofs.lemmas.Nat.{pow-add, pow_pos, div-mul-add}
use Rattle.std.proofs.lemmas.Int.Digits.{number_more, number_after_append}
use Rattle.std.proofs.Math.Nat.{div-div-eq-div-mul, add-mul-div_right, add-mul-mod_self_right, mul_assoc, pow-suc}
use Rattle.std.specs.Int.Digits.{AllBelowBase, number_from_digits, number_from_digits_after}

-- a number without its last digits
pub front_number : (n : ℕ) (ds : List ℕ) → AllBelowBase 256 ds → number_from_digits_after 256 n ds / 256 ^ length ds ≡ n
front_number n [] below = omega arith
front_number n (d ∷ ds) below =
    let number : ℕ = number_from_digits_after 256 (n * 256 + d) ds in
    ap (λ (p : ℕ). number / p) (pow-suc 256 (length ds))
    ∙ sym (div-div-eq-div-mul number (256 ^ length ds) 256) ∙ ap (λ (q : ℕ). q / 256) (front_number (n * 256 + d) ds below.1)
    ∙ div-mul-add n 256 d below.0

-- what stands in front of two bytes is a multiple of 32 behind a shift by at most 11 bits
low_bits : (number window shift : ℕ) → shift ≤ 11 → (window + number * 65536) / 2 ^ shift % 32 ≡ window / 2 ^ shift % 32
low_bits number window shift small =
    let scale : ℕ = 2 ^ (11 - shift) in
    let sixteen : 16 ≡ ((11 - shift) + 5) + shift = omega arith in
    let apart : 65536 ≡ (scale * 32) * 2 ^ shift = ap (λ (k : ℕ). 2 ^ k) sixteen ∙ pow-add 2 ((11 - shift) + 5) shift ∙ ap (λ (p : ℕ). p * 2 ^ shift) (pow-add 2 (11 - shift) 5) in
    ap (λ (p : ℕ). (window + p) / 2 ^ shift % 32) (ap (λ (p : ℕ). number * p) apart ∙ sym (mul_assoc number (scale * 32) (2 ^ shift)))
    ∙ ap (λ (p : ℕ). p % 32) (add-mul-div_right window (number * (scale * 32)) (pow_pos shift))
    ∙ ap (λ (p : ℕ). (window / 2 ^ shift + p) % 32) (sym (mul_assoc number scale 32))
    ∙ add-mul-mod_self_right (window / 2 ^ shift) (number * scale) 32

pub pow-256 : (n : ℕ) → 256 ^ n ≡ 2 ^ (n * 8)
pow-256 zero = refl
pow-256 (suc n) =
    let more : suc n * 8 ≡ n * 8 + 8 = omega arith in
    pow-suc 256 n ∙ ap (λ (p : ℕ). p * 256) (pow-256 n) ∙ sym (pow-add 2 (n * 8) 8) ∙ ap (λ (k : ℕ). 2 ^ k) (sym more)

pub all_below_drop : (n : ℕ) (ds : List ℕ) → AllBelowBase 256 ds → AllBelowBase 256 (drop n ds)
all_below_drop zero ds below = below
all_below_drop (suc n) [] below = below
all_below_drop (suc n) (d ∷ ds) below = all_below_drop n ds below.1

-- the number of the first digits
front_of : (ds : List ℕ) (count : ℕ) → AllBelowBase 256 ds → number_from_digits 256 ds / 2 ^ ((length ds - count) * 8) ≡ number_from_digits 256 (take count ds)
front_of ds count below =
    let whole : number_from_digits 256 ds ≡ number_from_digits_after 256 (number_from_digits 256 (take count ds)) (drop count ds) =
    ap (number_from_digits 256) (sym (take-append-drop count ds)) ∙ number_after_append 256 0 (take count ds) (drop count ds) in
    let left : length (drop count ds) ≡ length ds - count = length-drop count ds in
    ap (λ (p : ℕ). p / 2 ^ ((length ds - count) * 8)) whole
    ∙ ap (λ (p : ℕ). number_from_digits_after 256 (number_from_digits 256 (take count ds)) (drop count ds) / p) (sym (ap (λ (k : ℕ). 256 ^ k) left ∙ pow-256 (length ds - count)))
    ∙ front_number (number_from_digits 256 (take count ds)) (drop count ds) (all_below_drop count ds below)

-- two digits behind a number
two_more : (ds : List ℕ) (at : ℕ) → at + 1 < length ds → number_from_digits 256 (take (at + 2) ds) ≡ (get_or ds at 0 * 256 + get_or ds (at + 1) 0) + number_from_digits 256 (take at ds) * 65536
two_more ds at within =
    let first : at < length ds = omega arith in
    let two : at + 2 ≡ (at + 1) + 1 = omega arith in
    let one : number_from_digits 256 (take (at + 1) ds) ≡ number_from_digits 256 (take at ds) * 256 + get_or ds at 0 = number_more 256 ds at first in
    let next : number_from_digits 256 (take ((at + 1) + 1) ds) ≡ number_from_digits 256 (take (at + 1) ds) * 256 + get_or ds (at + 1) 0 = number_more 256 ds (at + 1) within in
    ap (λ (k : ℕ). number_from_digits 256 (take k ds)) two ∙ next ∙ omega arith

-- five bits of a hash
pub five_bits : (ds : List ℕ) (level at : ℕ) → AllBelowBase 256 ds → length ds ≡ 32 → 1 ≤ level → level ≤ 51 → at ≤ 30 → 8 * at ≤ 5 * (level - 1) → 5 * (level - 1) ≤ 8 * at + 10
    → (get_or ds at 0 * 256 + get_or ds (at + 1) 0) / 2 ^ (11 + 8 * at - 5 * (level - 1)) % 32 ≡ number_from_digits 256 ds / 2 ^ (256 - 5 * level) % 32
five_bits ds level at below len first last within low high =
    let shift : ℕ = 11 + 8 * at - 5 * (level - 1) in
    let small : shift ≤ 11 = omega arith in
    let place : at + 1 < length ds = omega arith in
    let behind : 256 - 5 * level ≡ (length ds - (at + 2)) * 8 + shift = omega arith in
    let split : number_from_digits 256 ds / 2 ^ (256 - 5 * level) ≡ number_from_digits 256 (take (at + 2) ds) / 2 ^ shift =
    ap (λ (k : ℕ). number_from_digits 256 ds / 2 ^ k) behind
    ∙ ap (λ (p : ℕ). number_from_digits 256 ds / p) (pow-add 2 ((length ds - (at + 2)) * 8) shift)
    ∙ sym (div-div-eq-div-mul (number_from_digits 256 ds) (2 ^ ((length ds - (at + 2)) * 8)) (2 ^ shift))
    ∙ ap (λ (p : ℕ). p / 2 ^ shift) (front_of ds (at + 2) below) in
    sym (ap (λ (p : ℕ). p % 32) (split ∙ ap (λ (p : ℕ). p / 2 ^ shift) (two_more ds at place))
    ∙ low_bits (number_from_digits 256 (take at ds)) (get_or ds at 0 * 256 + get_or ds (at + 1) 0) shift small)
