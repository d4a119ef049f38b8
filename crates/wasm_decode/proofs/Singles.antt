-- Reading the entries of a section that has one at most.
use Rattle.std.proofs.Common.{◌≡◌, ℕ, ◌<◌, ◌≤◌, Bool, true, false, if◌then◌else◌, nat_lt, List, [], ◌∷◌, Ok, Err, refl, sym, ap, ◌∙◌, arith}
use Rattle.wasm_decode.specs.declared.fault.Stop.{Stop}
use Rattle.wasm_decode.specs.declared.fault.WasmKind.TheVariants as kinds
use Rattle.wasm_decode.specs.ReadingSections.{single_at}
use Rattle.wasm_decode.specs.ReadingValues.{items_at, u32_at}
use Rattle.wasm_decode.specs.Singles.{single_count_at}
use Rattle.wasm_decode.specs.Stops.{◌>>=◌, Found, refused, unless}
use Rattle.wasm_decode.proofs.Items.{items_end, items_next}

by_count : {A : Type 0} (item : List ℕ → Found A) (bytes rest : List ℕ) (n : ℕ) (test : Bool)
    → (let found : Found (List A) = if test then refused kinds.Unsupported bytes else items_at item [] n rest in found) ≡ (let counted : Found ℕ = unless test kinds.Unsupported bytes (n, rest) in counted >>= λ m. items_at item [] m.0 m.1)
by_count item bytes rest n true = refl
by_count item bytes rest n false = refl

by_number : {A : Type 0} (item : List ℕ → Found A) (bytes : List ℕ) (read : Found ℕ)
    → (read >>= λ n. (if nat_lt 1 n.0 then refused kinds.Unsupported bytes else items_at item [] n.0 n.1)) ≡ ((read >>= λ n. unless (nat_lt 1 n.0) kinds.Unsupported bytes n) >>= λ n. items_at item [] n.0 n.1)
by_number item bytes (Ok (n, rest)) = by_count item bytes rest n (nat_lt 1 n)
by_number item bytes (Err stop) = refl

-- such a section by its count
single_is : {A : Type 0} (item : List ℕ → Found A) (bytes : List ℕ) → single_at item bytes ≡ (single_count_at bytes >>= λ n. items_at item [] n.0 n.1)
unfolding single_at
single_is item bytes = by_number item bytes (u32_at bytes)

counted : {A : Type 0} (item : List ℕ → Found A) (bytes rest : List ℕ) (n : ℕ) → single_count_at bytes ≡ Ok (n, rest) → single_at item bytes ≡ items_at item [] n rest
counted item bytes rest n is = single_is item bytes ∙ ap (λ (r : Found ℕ). r >>= λ n. items_at item [] n.0 n.1) is

-- there is no count
pub no_count : {A : Type 0} (item : List ℕ → Found A) (bytes : List ℕ) (stop : Stop) → single_count_at bytes ≡ Err stop → single_at item bytes ≡ Err stop
no_count item bytes stop is = single_is item bytes ∙ ap (λ (r : Found ℕ). r >>= λ n. items_at item [] n.0 n.1) is

-- there is none
pub no_item : {A : Type 0} (item : List ℕ → Found A) (row : List A) (bytes rest : List ℕ) (n : ℕ) → single_count_at bytes ≡ Ok (n, rest) → n ≡ 0 → row ≡ [] → single_at item bytes ≡ Ok (row, rest)
no_item {A} item row bytes rest n is none same =
    counted item bytes rest n is ∙ (ap (λ (n : ℕ). items_at item [] n rest) none
    ∙ (items_end A item [] rest ∙ ap (λ (xs : List A). let found : Found (List A) = Ok (xs, rest) in found) (sym same)))

one : {A : Type 0} (item : List ℕ → Found A) (bytes rest : List ℕ) (n : ℕ) → single_count_at bytes ≡ Ok (n, rest) → n ≤ 1 → 0 < n → single_at item bytes ≡ (item rest >>= λ x. items_at item (x.0 ∷ []) 0 x.1)
one {A} item bytes rest n is few some =
    counted item bytes rest n is ∙ (ap (λ (n : ℕ). items_at item [] n rest) (let e : n ≡ 1 = omega (arith, few, some) in e) ∙ items_next A item [] 1 rest (omega arith))

-- there is one
pub one_item : {A : Type 0} (item : List ℕ → Found A) (row : List A) (bytes behind rest : List ℕ) (n : ℕ) (x : A) → single_count_at bytes ≡ Ok (n, behind) → n ≤ 1 → 0 < n → item behind ≡ Ok (x, rest) → row ≡ x ∷ []
    → single_at item bytes ≡ Ok (row, rest)
one_item {A} item row bytes behind rest n x is few some read same =
    one item bytes behind n is few some ∙ (ap (λ (r : Found A). r >>= λ x. items_at item (x.0 ∷ []) 0 x.1) read
    ∙ (items_end A item (x ∷ []) rest ∙ ap (λ (xs : List A). let found : Found (List A) = Ok (xs, rest) in found) (sym same)))

-- reading stops in it
pub one_stop : {A : Type 0} (item : List ℕ → Found A) (bytes behind : List ℕ) (n : ℕ) (stop : Stop) → single_count_at bytes ≡ Ok (n, behind) → n ≤ 1 → 0 < n → item behind ≡ Err stop → single_at item bytes ≡ Err stop
one_stop {A} item bytes behind n stop is few some read =
    one item bytes behind n is few some ∙ ap (λ (r : Found A). r >>= λ x. items_at item (x.0 ∷ []) 0 x.1) read
