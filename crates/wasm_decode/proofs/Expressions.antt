-- Reading the instructions of an expression, one after another.
use Rattle.std.proofs.Common.{◌≡◌, ℕ, zero, suc, ◌-◌, ◌<◌, List, [], ◌∷◌, ◌++◌, length, Ok, Err, sym, ap, ◌∙◌, arith}
use Rattle.wasm_types.specs.declared.op.Op.{Op}
use Rattle.wasm_decode.specs.declared.fault.Stop.{Stop}
use Rattle.wasm_decode.specs.declared.fault.Stop.TheVariants.{Short}
use Rattle.wasm_decode.specs.declared.fault.WasmKind.TheVariants as kinds
use Rattle.wasm_decode.specs.Instructions.{Nesting, Opened, behind, inside, ended, misplaced, turn_of, turned}
use Rattle.wasm_decode.specs.Nestings.{nesting_of}
use Rattle.wasm_decode.specs.declared.expression.Place.{Place}
use Rattle.wasm_decode.specs.declared.expression.Turn.{Turn}
use Rattle.fil_base.specs.Failure.{IfFault}
use Rattle.fil_base.specs.declared.failure.Failure.{Failure}
use Rattle.fil_base.specs.declared.failure.Failure.TheVariants.{NoMemory, Fault}
use Rattle.wasm_decode.specs.ReadingInstructions.{continued, expression_at, instruction_at, instructions_at}
use Rattle.wasm_decode.specs.Stops.{◌>>=◌, Found, refused}

-- what is read behind an instruction
abbrev goes_on : ℕ → Opened → List Op → List ℕ → Op × List ℕ → Found (List Op)
goes_on left opened done bytes x =
    continued bytes (done ++ x.0 ∷ []) x.1 (λ more. instructions_at left more (done ++ x.0 ∷ []) x.1) (behind x.0 opened)

next : (left : ℕ) (opened : Opened) (done : List Op) (bytes : List ℕ) → 0 < left → instructions_at left opened done bytes ≡ (instruction_at bytes >>= goes_on (left - 1) opened done bytes)
unfolding instructions_at
next zero opened done bytes some = absurd (omega (arith, some))
next (suc left) opened done bytes some =
    ap (λ (n : ℕ). instruction_at bytes >>= goes_on n opened done bytes) (let e : left ≡ suc left - 1 = omega arith in e)

-- the instruction is read
read : (left : ℕ) (opened : Opened) (done : List Op) (bytes rest : List ℕ) (o : Op) (place : Nesting) (whole : Found (List Op)) → 0 < left → instruction_at bytes ≡ Ok (o, rest) → behind o opened ≡ place
    → instructions_at left opened done bytes ≡ whole
    → continued bytes (done ++ o ∷ []) rest (λ more. instructions_at (left - 1) more (done ++ o ∷ []) rest) place ≡ whole
read left opened done bytes rest o place whole some is stands so_far =
    ap (continued bytes (done ++ o ∷ []) rest (λ more. instructions_at (left - 1) more (done ++ o ∷ []) rest)) (sym stands)
    ∙ (sym (ap (λ (r : Found Op). r >>= goes_on (left - 1) opened done bytes) is) ∙ (sym (next left opened done bytes some) ∙ so_far))

-- the expression begins
pub begun : (bytes : List ℕ) (left : ℕ) → left ≡ length bytes → instructions_at left [] [] bytes ≡ expression_at bytes
unfolding expression_at
begun bytes left all = ap (λ (n : ℕ). instructions_at n [] [] bytes) all

-- it goes on
pub gone_on : (left : ℕ) (opened more : Opened) (done : List Op) (bytes rest : List ℕ) (o : Op) (whole : Found (List Op)) → 0 < left → instruction_at bytes ≡ Ok (o, rest) → behind o opened ≡ inside more
    → instructions_at left opened done bytes ≡ whole → instructions_at (left - 1) more (done ++ o ∷ []) rest ≡ whole
gone_on left opened more done bytes rest o whole some is stands so_far = read left opened done bytes rest o (inside more) whole some is stands so_far

-- it ends
pub has_ended : (left : ℕ) (opened : Opened) (done row : List Op) (bytes rest : List ℕ) (o : Op) (whole : Found (List Op)) → 0 < left → instruction_at bytes ≡ Ok (o, rest) → behind o opened ≡ ended → row ≡ done ++ o ∷ []
    → instructions_at left opened done bytes ≡ whole → whole ≡ Ok (row, rest)
has_ended left opened done row bytes rest o whole some is stands same so_far =
    sym (read left opened done bytes rest o ended whole some is stands so_far) ∙ ap (λ (ops : List Op). let found : Found (List Op) = Ok (ops, rest) in found) (sym same)

-- an instruction cannot stand there
pub has_misplaced : (left : ℕ) (opened : Opened) (done : List Op) (bytes rest : List ℕ) (o : Op) (whole : Found (List Op)) → 0 < left → instruction_at bytes ≡ Ok (o, rest) → behind o opened ≡ misplaced
    → instructions_at left opened done bytes ≡ whole → whole ≡ refused kinds.Form bytes
has_misplaced left opened done bytes rest o whole some is stands so_far = sym (read left opened done bytes rest o misplaced whole some is stands so_far)

-- reading stops in an instruction
pub has_stopped : (left : ℕ) (opened : Opened) (done : List Op) (bytes : List ℕ) (stop : Stop) (whole : Found (List Op)) → 0 < left → instruction_at bytes ≡ Err stop
    → instructions_at left opened done bytes ≡ whole → whole ≡ Err stop
has_stopped left opened done bytes stop whole some is so_far =
    sym so_far ∙ (next left opened done bytes some ∙ ap (λ (r : Found Op). r >>= goes_on (left - 1) opened done bytes) is)

-- there are no more bytes
pub run_out : (left : ℕ) (opened : Opened) (done : List Op) (bytes : List ℕ) (whole : Found (List Op)) → left ≡ 0 → instructions_at left opened done bytes ≡ whole → whole ≡ Err Short
unfolding instructions_at
run_out left opened done bytes whole none so_far = sym so_far ∙ ap (λ (n : ℕ). instructions_at n opened done bytes) none

-- reading fails in an instruction
pub has_failed : (left : ℕ) (opened : Opened) (done : List Op) (bytes : List ℕ) (failure : Failure Stop) (whole : Found (List Op)) → 0 < left → IfFault failure (λ stop. instruction_at bytes ≡ Err stop)
    → instructions_at left opened done bytes ≡ whole → IfFault failure (λ stop. whole ≡ Err stop)
has_failed left opened done bytes NoMemory whole some is so_far = tt
has_failed left opened done bytes (Fault stop) whole some is so_far = has_stopped left opened done bytes stop whole some is so_far

-- where an instruction leaves the blocks
pub stands : (turn : Turn) (o : Op) (opened more : Opened) (p q : Place) → turn ≡ turn_of o → turned turn opened ≡ nesting_of p more → p ≡ q → behind o opened ≡ nesting_of q more
stands turn o opened more p q same is place =
    ap (λ (t : Turn). turned t opened) (sym same) ∙ (is ∙ ap (λ (r : Place). nesting_of r more) place)
