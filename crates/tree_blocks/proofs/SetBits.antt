-- How many bits are set.
use Rattle.std.proofs.Common.{◌≡◌, ℕ, zero, suc, ◌+◌, ◌≤◌, ◌<◌, ◌/◌, ◌%◌, List, [], ◌∷◌, ◌++◌, length, map, sum, take, get_or, refl, ap, ◌∙◌, arith}
use Rattle.std.specs.Int.Count.{ones, ones_step}
use Rattle.std.specs.Int.Digits.{digits_of}
use Rattle.std.proofs.lemmas.Int.Digits.{digits_of_step}
use Rattle.std.proofs.lemmas.List.{take_more, map_push}
use Rattle.std.proofs.lemmas.List.Sums.{fold-append}
use Rattle.tree_blocks.specs.Forms.{set_bits}

sum_push : (xs : List ℕ) (x : ℕ) → sum (xs ++ x ∷ []) ≡ sum xs + x
sum_push xs x = fold-append ◌+◌ 0 xs (x ∷ [])

ones_within : (d n : ℕ) → n ≤ d → ones n ≡ sum (digits_of 2 n)
unfolding ones
ones_within d zero le = refl
ones_within zero (suc n) le = absurd (omega arith)
ones_within (suc d) (suc n) le =
    let half : ones (suc n / 2) ≡ sum (digits_of 2 (suc n / 2)) = ones_within d (suc n / 2) (omega arith) in
    let digits : sum (digits_of 2 (suc n)) ≡ sum (digits_of 2 (suc n / 2)) + suc n % 2 = ap sum (digits_of_step 2 (suc n) (omega arith) (omega arith)) ∙ sum_push (digits_of 2 (suc n / 2)) (suc n % 2) in
    omega (arith, ones_step (suc n), half, digits)

-- one more byte
pub set_bits_more : (bytes : List ℕ) (i count : ℕ) → i < length bytes → count ≡ set_bits (take i bytes) → count + ones (get_or bytes i 0) ≡ set_bits (take (i + 1) bytes)
set_bits_more bytes i count lt is =
    let here = ones_within (get_or bytes i 0) (get_or bytes i 0) (omega arith) in
    let more : set_bits (take (i + 1) bytes) ≡ set_bits (take i bytes) + sum (digits_of 2 (get_or bytes i 0)) =
    ap set_bits (take_more bytes i 0 lt) ∙ ap sum (map_push (λ byte. sum (digits_of 2 byte)) (take i bytes) (get_or bytes i 0))
    ∙ sum_push (map (λ byte. sum (digits_of 2 byte)) (take i bytes)) (sum (digits_of 2 (get_or bytes i 0))) in
    omega (arith, is, here, more)
