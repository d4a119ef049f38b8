-- The lists of types that operands can have, as they are known before the code runs.
use Rattle.std.proofs.Common.{◌≡◌, ℕ, suc, ◌≤◌, Bool, true, false, ◌&&◌, nat_lt, if◌then◌else◌, List, [], ◌∷◌, ◌++◌, length, drop, Option, Some, None, Result, Ok, Err, refl, sym, ap, subst, ◌∙◌, arith}
use Rattle.std.specs.Prelude.{reverse, option_to_list}
use Rattle.std.proofs.lemmas.Bool.{and_parts, and_from, false≢true, le-ltb, ltb-false}
use Rattle.std.proofs.lemmas.List.{length-reverse}
use Rattle.wasm_types.specs.declared.val_type.ValType.{ValType}
use Rattle.wasm_types.specs.declared.val_type.ValType.TheVariants.{I32, I64}
use Rattle.wasm_types.specs.Signatures.{is_same_value}
use Rattle.wasm_check.specs.declared.fault.CheckKind.{CheckKind}
use Rattle.wasm_check.specs.declared.fault.CheckKind.TheVariants as kinds
use Rattle.wasm_check.specs.Operands.{Operand, OperandStack, ended, fits, is_bare, is_like, lacks, taken, with_result, without}
use Rattle.wasm_check.proofs.Outcomes.{go, step}

-- operands that are kept can have the types at the front, and behind those are no more unless the code is not reached
abbrev pub AreLike : List Operand → Bool → List ValType → Type 0
AreLike [] true [] = Unit {0}
AreLike [] true (t ∷ types) = ⊥
AreLike [] false types = Unit {0}
AreLike (o ∷ kept) reached [] = ⊥
AreLike (o ∷ kept) reached (t ∷ types) = (is_like t o ≡ true) × AreLike kept reached types

-- the operands can have these types, that of the topmost first
abbrev pub Admits : OperandStack → List ValType → Type 0
Admits s types = AreLike s.kept s.reached types

-- a type is the same as itself
pub same_value : (t : ValType) → is_same_value t t ≡ true
same_value I32 = refl
same_value I64 = refl

-- the test finds types that are one
pub one_value : (t u : ValType) → is_same_value t u ≡ true → t ≡ u
one_value I32 I32 e = refl
one_value I32 I64 e = absurd (false≢true e)
one_value I64 I32 e = absurd (false≢true e)
one_value I64 I64 e = refl

-- no operand is kept, and no type is there
none_alike : (reached : Bool) → AreLike [] reached []
none_alike true = tt
none_alike false = tt

-- operands have some types
pub some_types : (kept : List Operand) (reached : Bool) → (types : List ValType) × AreLike kept reached types
some_types [] reached = ([], none_alike reached)
some_types (None ∷ kept) reached = let rest = some_types kept reached in (I32 ∷ rest.0, (refl, rest.1))
some_types (Some t ∷ kept) reached = let rest = some_types kept reached in (t ∷ rest.0, (same_value t, rest.1))

-- ---- taking operands

-- as many as are taken are there, or the code is not reached
abbrev pub HasEnough : ℕ → List Operand → Bool → Type 0
HasEnough count kept reached = reached ≡ true → count ≤ length kept

-- none is missing
pub enough : (count : ℕ) (kept : List Operand) (reached : Bool) → (reached && nat_lt (length kept) count) ≡ false → HasEnough count kept reached
enough count kept true e = λ r. ltb-false (length kept) count e
enough count kept false e = λ r. absurd (false≢true r)

-- the test finds that none is missing
pub not_lacking : (count : ℕ) (kept : List Operand) (reached : Bool) → HasEnough count kept reached → (reached && nat_lt (length kept) count) ≡ false
not_lacking count kept true h = le-ltb (length kept) count (h refl)
not_lacking count kept false h = refl

-- what is left once operands are taken tells what was there
given_back : (types : List ValType) (kept : List Operand) (reached : Bool) (under : List ValType) → HasEnough (length types) kept reached → fits types kept ≡ true
    → AreLike (drop (length types) kept) reached under → AreLike kept reached (types ++ under)
given_back [] kept reached under h fit rest = rest
given_back (t ∷ types) [] true under h fit rest = let some : suc (length types) ≤ 0 = h refl in absurd (omega (arith, some))
given_back (t ∷ types) [] false under h fit rest = tt
given_back (t ∷ types) (o ∷ kept) reached under h fit rest =
    let parts = and_parts (is_like t o) (fits types kept) fit in
    (parts.0, given_back types kept reached under (λ r. omega (arith, h r)) parts.1 rest)

-- what is found once operands are taken
pub record IsTaken (types : List ValType) (kept : List Operand) (reached : Bool) (under : List ValType) : Type 0 where
  pub enough : HasEnough (length types) kept reached
  pub fit : fits types kept ≡ true
  pub rest : AreLike (drop (length types) kept) reached under

-- operands of these types can be taken
taken_away : (types : List ValType) (kept : List Operand) (reached : Bool) (under : List ValType) → AreLike kept reached (types ++ under) → IsTaken types kept reached under
taken_away [] kept reached under h = record { enough = λ r. omega arith; fit = refl; rest = h }
taken_away (t ∷ types) [] true under h = absurd h
taken_away (t ∷ types) [] false under h = record { enough = λ r. absurd (false≢true r); fit = refl; rest = tt }
taken_away (t ∷ types) (o ∷ kept) reached under h =
    let more = taken_away types kept reached under h.1 in
    record { enough = λ r. omega (arith, more.enough r); fit = and_from (is_like t o) (fits types kept) h.0 more.fit; rest = more.rest }

-- two tests that went well
pub both_passed : {A : Type 0} (lack fit : Bool) (r : Result A CheckKind) (x : A)
    → (if lack then Err kinds.Underflow else (if fit then r else Err kinds.TypeMismatch)) ≡ Ok x → (lack ≡ false) × (fit ≡ true) × (r ≡ Ok x)
both_passed true fit r x e = absurd cc
both_passed false true r x e = (refl, refl, e)
both_passed false false r x e = absurd cc

-- two tests that go well
pub both_pass : {A : Type 0} (lack fit : Bool) (r : Result A CheckKind) → lack ≡ false → fit ≡ true
    → (if lack then Err kinds.Underflow else (if fit then r else Err kinds.TypeMismatch)) ≡ r
both_pass lack fit r none all =
    ap (λ (b : Bool). if b then Err kinds.Underflow else (if fit then r else Err kinds.TypeMismatch)) none
    ∙ ap (λ (b : Bool). if b then r else Err kinds.TypeMismatch) all

-- one result is no other
pub same_ok : {A E : Type 0} (x y : A) → ◌≡◌ {A = Result A E} (Ok x) (Ok y) → x ≡ y
same_ok x y e = cc

-- operands that are taken, seen from what is left
pub taken_from : (types : List ValType) (s rest : OperandStack) (under : List ValType) → taken types s ≡ Ok rest → Admits rest under → Admits s (reverse types ++ under)
taken_from types s rest under e h =
    let tests = both_passed (lacks (length types) s) (fits (reverse types) s.kept) (Ok (without (length types) s)) rest e in
    let left : Admits (without (length types) s) under = subst (λ (u : OperandStack). Admits u under) (sym (same_ok {E = CheckKind} (without (length types) s) rest tests.2)) h in
    given_back (reverse types) s.kept s.reached under
    (subst (λ (n : ℕ). HasEnough n s.kept s.reached) (sym (length-reverse types)) (enough (length types) s.kept s.reached tests.0)) tests.1
    (subst (λ (n : ℕ). AreLike (drop n s.kept) s.reached under) (sym (length-reverse types)) left)

-- operands that can be taken, and what is left
pub taken_to : (types : List ValType) (s : OperandStack) (under : List ValType) → Admits s (reverse types ++ under)
    → (taken types s ≡ Ok (without (length types) s)) × Admits (without (length types) s) under
taken_to types s under h =
    let away = taken_away (reverse types) s.kept s.reached under h in (
      both_pass (lacks (length types) s) (fits (reverse types) s.kept) (Ok (without (length types) s))
          (not_lacking (length types) s.kept s.reached (subst (λ (n : ℕ). HasEnough n s.kept s.reached) (length-reverse types) away.enough)) away.fit,
      subst (λ (n : ℕ). AreLike (drop n s.kept) s.reached under) (length-reverse types) away.rest,
    )

-- ---- giving a result

-- what was there before a result was given
pub result_from : (gives : Option ValType) (s : OperandStack) (after : List ValType) → Admits (with_result gives s) after
    → (under : List ValType) × (after ≡ option_to_list gives ++ under) × Admits s under
result_from None s after h = (after, refl, h)
result_from (Some t) s [] h = absurd h
result_from (Some t) s (u ∷ under) h = (under, ap (λ (v : ValType). v ∷ under) (one_value u t h.0), h.1)

-- a result that is given lies on top
pub result_to : (gives : Option ValType) (s : OperandStack) (under : List ValType) → Admits s under → Admits (with_result gives s) (option_to_list gives ++ under)
result_to None s under h = h
result_to (Some t) s under h = (same_value t, h)

-- ---- the end of a block

-- one result or none, the other way round
same_reversed : (result : Option ValType) → reverse (option_to_list result) ++ [] ≡ option_to_list result
same_reversed None = refl
same_reversed (Some t) = refl

-- operands of which none is kept can have no types
bare_from : (kept : List Operand) (reached : Bool) → (let s : OperandStack = record { kept = kept; reached = reached } in is_bare s) ≡ true → AreLike kept reached []
bare_from [] reached e = none_alike reached
bare_from (o ∷ kept) reached e = absurd (false≢true e)

-- operands that can have no types are not kept
bare_to : (kept : List Operand) (reached : Bool) → AreLike kept reached [] → (let s : OperandStack = record { kept = kept; reached = reached } in is_bare s) ≡ true
bare_to [] reached h = refl
bare_to (o ∷ kept) reached h = absurd h

-- a test at the end of a block
ended_well : (bare : Bool) (rest u : OperandStack) → (if bare then Ok rest else Err kinds.TypeMismatch) ≡ Ok u → bare ≡ true
ended_well true rest u e = refl
ended_well false rest u e = absurd cc

-- a block that ends leaves its result
pub ended_from : (result : Option ValType) (s u : OperandStack) → ended result s ≡ Ok u → Admits s (option_to_list result)
ended_from result s u e =
    let t = step {r = taken (option_to_list result) s} {next = λ rest. (if is_bare rest then Ok rest else Err kinds.TypeMismatch)} e in
    subst (λ (types : List ValType). Admits s types) (same_reversed result)
    (taken_from (option_to_list result) s t.value [] t.is (bare_from t.value.kept t.value.reached (ended_well (is_bare t.value) t.value u t.after)))

-- a block whose operands can be its result ends
pub ended_to : (result : Option ValType) (s : OperandStack) → Admits s (option_to_list result) → (u : OperandStack) × (ended result s ≡ Ok u)
ended_to result s h =
    let rest : OperandStack = without (length (option_to_list result)) s in
    let away = taken_to (option_to_list result) s [] (subst (λ (types : List ValType). Admits s types) (sym (same_reversed result)) h) in (
      rest,
      go (λ rest. (if is_bare rest then Ok rest else Err kinds.TypeMismatch)) rest away.0
          (ap (λ (b : Bool). if b then Ok rest else Err kinds.TypeMismatch) (bare_to rest.kept rest.reached away.1)),
    )
