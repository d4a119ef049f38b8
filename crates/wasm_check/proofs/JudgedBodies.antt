-- Bodies that are read from their front, one after another, are judged.
use Rattle.std.proofs.Common.{◌≡◌, ℕ, ◌+◌, ◌-◌, ◌<◌, ◌≤◌, zero, suc, List, [], ◌∷◌, length, take, slice_get, nat_lt, Bool, true, false, Option, Some, None, Result, Ok, Err, refl, sym, ap, subst, ◌∙◌, arith}
use Rattle.std.specs.List.{AllZip, list_all}
use Rattle.std.proofs.lemmas.List.{length-append, take_at, take_all}
use Rattle.std.proofs.lemmas.Bool.{and_parts, ltb-true}
use Rattle.std.proofs.lemmas.Option.{none-some, same_Some}
use Rattle.wasm_types.specs.declared.val_type.ValType.{ValType}
use Rattle.wasm_types.specs.declared.func_type.FuncType.{FuncType}
use Rattle.wasm_types.specs.declared.raw_module.Body.{Body}
use Rattle.wasm_types.specs.declared.raw_module.RawModule.{RawModule}
use Rattle.wasm_types.specs.declared.op.Op.{Op}
use Rattle.wasm_types.specs.declared.op.Op.TheVariants as op
use Rattle.wasm_check.specs.declared.fault.CheckKind.{CheckKind}
use Rattle.wasm_check.specs.declared.levels.Level.{Level}
use Rattle.wasm_check.specs.declared.levels.LevelKind.TheVariants as levels
use Rattle.wasm_check.specs.Code.{Code, IsNestedAs, flat, size}
use Rattle.wasm_check.specs.Effects.{Context}
use Rattle.wasm_check.specs.Judging.{BodyFault, judge, judged, placed}
use Rattle.wasm_check.specs.Machine.{begun, ended_at_top, read_flat, run, with_operands}
use Rattle.wasm_check.specs.Modules.{functions_have_types, module_fault, unless}
use Rattle.wasm_check.specs.Operands.{OperandStack, ended, no_operands}
use Rattle.wasm_check.specs.Results.{◌>>=◌}
use Rattle.wasm_check.specs.Validity.{IsJudged, IsValidBody, body_context}
use Rattle.wasm_check.proofs.Runs.{body_runs, in_body}

-- ---- one body

-- the blocks at the end of a body with these operands
abbrev left : Option ValType → OperandStack → Result (List Level) BodyFault
left result s = Ok (with_operands (begun levels.Block result) s ∷ [])

-- what is found at the end of a body's code
ending : (result : Option ValType) (at : ℕ) (r : Result OperandStack CheckKind) → placed at (r >>= λ s. Ok (with_operands (begun levels.Block result) s ∷ [])) ≡ (placed at r >>= left result)
ending result at (Ok s) = refl
ending result at (Err kind) = refl

-- the same behind the code
found_at_end : (result : Option ValType) (at : ℕ) (r : Result OperandStack BodyFault)
    → (r >>= left result >>= λ blocks. placed at (ended_at_top blocks)) ≡ ((r >>= λ s. placed at (ended result s)) >>= left result)
found_at_end result at (Ok s) = ending result at (ended result s)
found_at_end result at (Err fault) = refl

-- a body is found so from its front if and only if it is judged so
pub flat_is_judged : (C : Context) (ops : List Op) (c : Code) → IsNestedAs ops c → read_flat C ops ≡ (judged (in_body C) c >>= left C.result)
unfolding read_flat judged
flat_is_judged C ops c h =
    let last : length ops - 1 ≡ size c = omega (arith, ap length h.1, length-append (flat c) (op.End ∷ [])) in
    let front : take (size c) ops ≡ flat c = ap (take (size c)) h.1 ∙ take_at (flat c) (op.End ∷ []) (size c) refl in
    ap (λ (n : ℕ). run C 0 (take n ops) (begun levels.Block C.result ∷ []) >>= λ blocks. placed n (ended_at_top blocks)) last
    ∙ (ap (λ (os : List Op). run C 0 os (begun levels.Block C.result ∷ []) >>= λ blocks. placed (size c) (ended_at_top blocks)) front
    ∙ (ap (λ (r : Result (List Level) BodyFault). r >>= λ blocks. placed (size c) (ended_at_top blocks)) (body_runs C c h.0)
    ∙ found_at_end C.result (size c) (judge (in_body C) 0 0 c no_operands)))

-- a body that left blocks has left operands
ended_with : (result : Option ValType) (blocks : List Level) (v : Result OperandStack BodyFault) → (v >>= left result) ≡ Ok blocks → (s : OperandStack) × (v ≡ Ok s)
ended_with result blocks (Ok s) e = (s, refl)
ended_with result blocks (Err fault) e = absurd cc

-- a body in which reading stopped has that fault
failed_with : (result : Option ValType) (fault : BodyFault) (v : Result OperandStack BodyFault) → (v >>= left result) ≡ Err fault → v ≡ Err fault
failed_with result fault (Ok s) e = absurd cc
failed_with result fault (Err other) e =
    let same : other ≡ fault = cc in
    ap (λ (f : BodyFault). let r : Result OperandStack BodyFault = Err f in r) same

-- a body that is read to its end is valid
pub read_is_valid : (raw : RawModule) (type_index : ℕ) (f : FuncType) (body : Body) (c : Code) (blocks : List Level) → slice_get raw.types type_index ≡ Some f → IsNestedAs body.code c
    → read_flat (body_context raw f body) body.code ≡ Ok blocks → IsValidBody raw type_index body
read_is_valid raw type_index f body c blocks is nested found =
    let verdict = ended_with f.result blocks (judged (body_context raw f body) c) (sym (flat_is_judged (body_context raw f body) body.code c nested) ∙ found) in
    (verdict.0, record { func_type = f; code = c; has_type = is; nested = nested; verdict_is = verdict.1 })

-- a fault at which reading stops is the body's
pub fault_is_judged : (raw : RawModule) (type_index : ℕ) (f : FuncType) (body : Body) (c : Code) (fault : BodyFault) → slice_get raw.types type_index ≡ Some f → IsNestedAs body.code c
    → read_flat (body_context raw f body) body.code ≡ Err fault → IsJudged raw type_index body (Err fault)
fault_is_judged raw type_index f body c fault is nested found =
    record {
      func_type = f;
      code = c;
      has_type = is;
      nested = nested;
      verdict_is = failed_with f.result fault (judged (body_context raw f body) c) (sym (flat_is_judged (body_context raw f body) body.code c nested) ∙ found);
    }

-- ---- one body after another

-- what holds of two lists up to a place, and there, holds up to the next
pub zipped_more : {A B : Type 0} (R : A → B → Type 0) (xs : List A) (ys : List B) (i : ℕ) (x : A) (y : B) → slice_get xs i ≡ Some x → slice_get ys i ≡ Some y → R x y → AllZip R (take i xs) (take i ys)
    → AllZip R (take (i + 1) xs) (take (i + 1) ys)
zipped_more R xs ys i x y e f holds h = subst (λ (n : ℕ). AllZip R (take n xs) (take n ys)) (let n : suc i ≡ i + 1 = omega arith in n) (next R xs ys i x y e f holds h)
  where
    next : {A B : Type 0} (R : A → B → Type 0) (xs : List A) (ys : List B) (i : ℕ) (x : A) (y : B) → slice_get xs i ≡ Some x → slice_get ys i ≡ Some y → R x y → AllZip R (take i xs) (take i ys)
        → AllZip R (take (suc i) xs) (take (suc i) ys)
    next R [] ys i x y e f holds h = absurd cc
    next R (z ∷ xs) [] i x y e f holds h = absurd cc
    next {A = A} {B = B} R (z ∷ xs) (w ∷ ys) zero x y e f holds h =
        (subst (λ (a : A). R a w) (sym (same_Some z x e)) (subst (λ (b : B). R x b) (sym (same_Some w y f)) holds), tt)
    next R (z ∷ xs) (w ∷ ys) (suc i) x y e f holds h = (h.0, next R xs ys i x y e f holds h.1)

-- what holds up to the end of two lists holds of them
pub zipped_all : {A B : Type 0} (R : A → B → Type 0) (xs : List A) (ys : List B) (n : ℕ) → length xs ≤ n → length ys ≤ n → AllZip R (take n xs) (take n ys) → AllZip R xs ys
zipped_all {A = A} {B = B} R xs ys n few fewer h =
    subst (λ (these : List A). AllZip R these ys) (take_all n xs few) (subst (λ (those : List B). AllZip R (take n xs) those) (take_all n ys fewer) h)

-- ---- the types of functions

-- where no test fails, the first passes, and so do those behind it
passed : (test : Bool) (kind : CheckKind) (later : Option CheckKind) → unless test kind later ≡ None → (test ≡ true) × (later ≡ None)
passed true kind later e = (refl, e)
passed false kind later e = absurd (none-some kind (sym e))

-- where each passes a test, so does the one at a place
passes_at : {A : Type 0} (test : A → Bool) (xs : List A) (i : ℕ) (x : A) → list_all test xs ≡ true → slice_get xs i ≡ Some x → test x ≡ true
passes_at test [] i x h e = absurd cc
passes_at test (y ∷ xs) zero x h e = sym (ap test (same_Some y x e)) ∙ (and_parts (test y) (list_all test xs) h).0
passes_at test (y ∷ xs) (suc i) x h e = passes_at test xs i x (and_parts (test y) (list_all test xs) h).1 e

-- in a module whose parts have no fault, the type of a function is there
pub function_has_type : (raw : RawModule) (function type_index : ℕ) → module_fault raw ≡ None → slice_get raw.functions function ≡ Some type_index → type_index < length raw.types
unfolding module_fault
function_has_type raw function type_index parts is =
    let types = passed (functions_have_types raw) _ _ (passed _ _ _ parts).1 in
    ltb-true type_index (length raw.types) (passes_at (λ (i : ℕ). nat_lt i (length raw.types)) raw.functions function type_index types.0 is)
