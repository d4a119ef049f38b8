-- Taking operands part by part.
use Rattle.std.proofs.Common.{◌≡◌, ℕ, suc, ◌+◌, ◌-◌, ◌<◌, ◌≤◌, Bool, true, false, ◌&&◌, if◌then◌else◌, List, [], ◌∷◌, ◌++◌, length, take, drop, Result, Ok, Err, refl, sym, ap, ◌∙◌, arith}
use Rattle.std.specs.Prelude.{reverse, slice_index_or}
use Rattle.std.proofs.lemmas.List.{length-reverse, reverse-append}
use Rattle.std.proofs.Math.ListN.{length-append}
use Rattle.std.proofs.Math.Seq.{drop-drop, take-length, take-suc}
use Rattle.wasm_types.specs.declared.val_type.ValType.{ValType}
use Rattle.wasm_check.specs.declared.fault.CheckKind.{CheckKind}
use Rattle.wasm_check.specs.declared.fault.CheckKind.TheVariants as kinds
use Rattle.wasm_check.specs.Operands.{Operand, OperandStack, fits, fitted, is_like, lacks, taken, without}
use Rattle.wasm_check.specs.Results.{◌>>=◌}

-- nothing is asked of operands that are not kept
fits_none : (types : List ValType) → fits types [] ≡ true
fits_none [] = refl
fits_none (t ∷ types) = refl

-- a test in front of both
in_front : (a p q r : Bool) → p ≡ (q && r) → (a && p) ≡ ((a && q) && r)
in_front true p q r e = e
in_front false p q r e = refl

-- one test for types behind others is one for each part
fits_both : (xs ys : List ValType) (kept : List Operand) → fits (xs ++ ys) kept ≡ (fits xs kept && fits ys (drop (length xs) kept))
fits_both [] ys kept = refl
fits_both (x ∷ xs) ys [] = sym (fits_none ys)
fits_both (x ∷ xs) ys (o ∷ kept) = in_front (is_like x o) (fits (xs ++ ys) kept) (fits xs kept) (fits ys (drop (length xs) kept)) (fits_both xs ys kept)

-- what is left once both parts are taken
left_of_both : (m n : ℕ) (s : OperandStack) → without m (without n s) ≡ without (m + n) s
left_of_both m n s = ap (λ (k : List Operand). record { kept = k; reached = s.reached }) (drop-drop m n s.kept ∙ ap (λ (k : ℕ). drop k s.kept) (omega arith))

-- taking in two steps, by the first step's test
in_steps : (types : List ValType) (n : ℕ) (s rest : OperandStack) (a : Bool) → rest ≡ without (length types) (without n s)
    → (if a && fits (reverse types) (drop n s.kept) then Ok rest else Err kinds.TypeMismatch)
    ≡ ((if a then Ok (without n s) else Err kinds.TypeMismatch) >>= fitted types)
in_steps types n s rest true e = ap (λ (r : OperandStack). if fits (reverse types) (drop n s.kept) then Ok r else Err kinds.TypeMismatch) e
in_steps types n s rest false e = refl

-- operands of some types and of others above them are taken one part after the other
pub fitted_both : (types above : List ValType) (s : OperandStack) → fitted (types ++ above) s ≡ (fitted above s >>= fitted types)
fitted_both types above s =
    rw (reverse-append types above, fits_both (reverse above) (reverse types) s.kept, length-reverse above, length-append types above)
    (in_steps types (length above) s (without (length types + length above) s) (fits (reverse above) s.kept)
    (sym (left_of_both (length types) (length above) s)))

-- what is left to take, of operands some of which are taken, leads to what taking all does
abbrev pub IsTakenSoFar : List ValType → ℕ → OperandStack → OperandStack → Type 0
IsTakenSoFar types count first now =
    (fitted types first ≡ fitted (take (length types - count) types) now) × (length now.kept ≤ length first.kept)

-- at first nothing is taken
pub nothing_taken : (types : List ValType) (s : OperandStack) → IsTakenSoFar types 0 s s
nothing_taken types s =
    let all : length types - 0 ≡ length types = omega arith in
    (ap (λ (ts : List ValType). fitted ts s) (sym (ap (λ (n : ℕ). take n types) all ∙ take-length types)), omega arith)

-- before the last type that is left
last_left : (types : List ValType) (count : ℕ) (d : ValType) → count < length types
    → take (length types - count) types ≡ take (length types - (count + 1)) types ++ (slice_index_or types (length types - 1 - count) d ∷ [])
last_left types count d h =
    let at : length types - count ≡ suc (length types - (count + 1)) = omega (arith, h) in
    let same : length types - 1 - count ≡ length types - (count + 1) = omega (arith, h) in
    rw (at, same) (take-suc types (length types - (count + 1)) d (omega (arith, h)))

-- one more is taken
pub one_taken : (types : List ValType) (count : ℕ) (first now next : OperandStack) (d : ValType) → count < length types
    → IsTakenSoFar types count first now
    → fitted (slice_index_or types (length types - 1 - count) d ∷ []) now ≡ Ok next
    → length next.kept ≤ length now.kept
    → IsTakenSoFar types (count + 1) first next
one_taken types count first now next d h so e less = (
  so.0 ∙ ap (λ (ts : List ValType). fitted ts now) (last_left types count d h)
      ∙ fitted_both (take (length types - (count + 1)) types) (slice_index_or types (length types - 1 - count) d ∷ []) now
      ∙ ap (λ (r : Result OperandStack CheckKind). r >>= fitted (take (length types - (count + 1)) types)) e,
  omega (arith, so.1, less),
)

-- one cannot be taken
pub one_wrong : (types : List ValType) (count : ℕ) (first now : OperandStack) (d : ValType) (kind : CheckKind) → count < length types
    → IsTakenSoFar types count first now
    → fitted (slice_index_or types (length types - 1 - count) d ∷ []) now ≡ Err kind
    → fitted types first ≡ Err kind
one_wrong types count first now d kind h so e =
    so.0 ∙ ap (λ (ts : List ValType). fitted ts now) (last_left types count d h)
    ∙ fitted_both (take (length types - (count + 1)) types) (slice_index_or types (length types - 1 - count) d ∷ []) now
    ∙ ap (λ (r : Result OperandStack CheckKind). r >>= fitted (take (length types - (count + 1)) types)) e

-- all are taken
pub all_taken : (types : List ValType) (count : ℕ) (first now : OperandStack) → length types ≤ count
    → IsTakenSoFar types count first now → fitted types first ≡ Ok now
all_taken types count first now h so =
    let none : length types - count ≡ 0 = omega (arith, h) in
    so.0 ∙ ap (λ (n : ℕ). fitted (take n types) now) none

-- where enough are there, both parts are taken one after the other
pub taken_both : (types above : List ValType) (s : OperandStack) → false ≡ lacks (length types + length above) s
    → taken (types ++ above) s ≡ (fitted above s >>= fitted types)
taken_both types above s h =
    ap (λ (n : ℕ). if lacks n s then Err kinds.Underflow else fitted (types ++ above) s) (length-append types above)
    ∙ ap (λ (b : Bool). if b then Err kinds.Underflow else fitted (types ++ above) s) (sym h)
    ∙ fitted_both types above s

-- those above cannot be taken
pub above_wrong : (types above : List ValType) (s : OperandStack) (kind : CheckKind) → false ≡ lacks (length types + length above) s
    → fitted above s ≡ Err kind → taken (types ++ above) s ≡ Err kind
above_wrong types above s kind h e = taken_both types above s h ∙ ap (λ (r : Result OperandStack CheckKind). r >>= fitted types) e

-- those above are taken
pub above_taken : (types above : List ValType) (s rest : OperandStack) → false ≡ lacks (length types + length above) s
    → fitted above s ≡ Ok rest → taken (types ++ above) s ≡ fitted types rest
above_taken types above s rest h e = taken_both types above s h ∙ ap (λ (r : Result OperandStack CheckKind). r >>= fitted types) e
