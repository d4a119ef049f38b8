-- The places that a message schedule names are below 16, where a test says so.
use Rattle.std.proofs.Common.{◌≡◌, ℕ, zero, suc, ◌<◌, Bool, true, List, [], ◌∷◌, refl, arith, nat_lt, lit<}
use Rattle.std.proofs.lemmas.Bool.Decides.{nat_tests}
use Rattle.std.specs.List.{list_all, slice_index_or}

-- each number of a row is below 16
abbrev pub is_low : List ℕ → Bool
is_low row = list_all (λ k. nat_lt k 16) row

row_low : (row : List ℕ) (k : ℕ) → is_low row ≡ true → slice_index_or row k 0 < 16
row_low [] k low = lit< tt
row_low (x ∷ xs) zero low = grind (arith, nat_tests)
row_low (x ∷ xs) (suc k) low =
    let rest : is_low xs ≡ true = grind (arith, nat_tests) in
    row_low xs k rest

rows_low : (rows : List (List ℕ)) (i : ℕ) → list_all is_low rows ≡ true → is_low (slice_index_or rows i []) ≡ true
rows_low [] i low = refl
rows_low (x ∷ xs) zero low = grind (arith, nat_tests)
rows_low (x ∷ xs) (suc i) low =
    let rest : list_all is_low xs ≡ true = grind (arith, nat_tests) in
    rows_low xs i rest

-- a place that a table with this test names
pub place_low : (rows : List (List ℕ)) (i k : ℕ) → list_all is_low rows ≡ true → slice_index_or (slice_index_or rows i []) k 0 < 16
place_low rows i k low = row_low (slice_index_or rows i []) k (rows_low rows i low)
