-- The code of a body that is read from its front, one instruction after another.
use Rattle.std.proofs.Common.{◌≡◌, ℕ, ◌+◌, ◌-◌, ◌<◌, List, [], ◌∷◌, length, take, drop, get_or, Result, Ok, Err, sym, ap, subst, ◌∙◌, arith, suc}
use Rattle.std.proofs.Math.Seq.{drop-cons}
use Rattle.std.proofs.Math.ListN.{drop_of_length-le}
use Rattle.std.proofs.lemmas.List.{get_or-take, length-take}
use Rattle.fil_base.specs.declared.failure.Failure.{Failure}
use Rattle.fil_base.specs.declared.failure.Failure.TheVariants.{Fault, NoMemory}
use Rattle.fil_base.specs.Failure.{IfFault}
use Rattle.wasm_types.specs.declared.op.Op.{Op}
use Rattle.wasm_check.specs.declared.fault.BodyFault.{BodyFault as BodyFaultOfCode}
use Rattle.wasm_check.specs.declared.fault.CheckKind.{CheckKind}
use Rattle.wasm_check.specs.declared.levels.Level.{Level}
use Rattle.wasm_check.specs.declared.levels.LevelKind.TheVariants as levels
use Rattle.wasm_check.specs.Effects.{Context}
use Rattle.wasm_check.specs.Judging.{BodyFault, placed}
use Rattle.wasm_check.specs.Machine.{begun, ended_at_top, read_flat, run, step}
use Rattle.wasm_check.specs.Placing.{failure_at}
use Rattle.wasm_check.specs.Results.{◌>>=◌}

-- the code of a body in front of the `end` that ends it
abbrev pub front : List Op → List Op
front code = take (length code - 1) code

-- reading a body goes on with the instruction of this number, where these blocks are open
abbrev pub GoesOn : Context → List Op → ℕ → List Level → Type 0
GoesOn C code at blocks = run C 0 (front code) (begun levels.Block C.result ∷ []) ≡ run C at (drop at (front code)) blocks

-- it begins with the first
pub begins : (C : Context) (code : List Op) (blocks : List Level) → blocks ≡ begun levels.Block C.result ∷ [] → GoesOn C code 0 blocks
begins C code blocks e = ap (λ (b : List Level). run C 0 (front code) b) (sym e)

-- what is left begins with the instruction of this number
next_is : (code : List Op) (at : ℕ) (o : Op) → at < length code - 1 → o ≡ get_or code at o → drop at (front code) ≡ o ∷ drop (at + 1) (front code)
next_is code at o less is =
    let few : length code - 1 ≡ length (front code) = sym (length-take (length code - 1) code ∙ (omega arith)) in
    let inside : at < length (front code) = omega arith in
    let here : get_or (front code) at o ≡ o = get_or-take (length code - 1) code at o less ∙ sym is in
    drop-cons (front code) at o inside ∙ (ap (λ (p : Op). p ∷ drop (suc at) (front code)) here ∙ ap (λ (n : ℕ). o ∷ drop n (front code)) (let n : suc at ≡ at + 1 = omega arith in n))

-- what is found of a body once an instruction is read
pub one_more : (C : Context) (code : List Op) (at : ℕ) (blocks : List Level) (o : Op) → at < length code - 1 → o ≡ get_or code at o → GoesOn C code at blocks
    → run C 0 (front code) (begun levels.Block C.result ∷ []) ≡ (placed at (step C o blocks) >>= run C (at + 1) (drop (at + 1) (front code)))
unfolding run
one_more C code at blocks o less is so_far = so_far ∙ ap (λ (ops : List Op). run C at ops blocks) (next_is code at o less is)

-- where the instruction has no fault, reading goes on
pub goes_on : (C : Context) (code : List Op) (at : ℕ) (blocks left : List Level) (o : Op) → at < length code - 1 → o ≡ get_or code at o → GoesOn C code at blocks → step C o blocks ≡ Ok left → GoesOn C code (at + 1) left
goes_on C code at blocks left o less is so_far e =
    one_more C code at blocks o less is so_far ∙ ap (λ (r : Result (List Level) CheckKind). placed at r >>= run C (at + 1) (drop (at + 1) (front code))) e

-- a fault of the instruction is the body's
pub stops : (C : Context) (code : List Op) (at : ℕ) (blocks : List Level) (o : Op) (failure : Failure CheckKind) (found : Failure BodyFaultOfCode) → at < length code - 1 → o ≡ get_or code at o → GoesOn C code at blocks
    → IfFault failure (λ kind. step C o blocks ≡ Err kind) → found ≡ failure_at at failure → IfFault found (λ f. read_flat C code ≡ Err (record { position = f.position; kind = f.kind }))
unfolding read_flat
stops C code at blocks o NoMemory found less is so_far e placed_is = subst (λ (f : Failure BodyFaultOfCode). IfFault f (λ f. read_flat C code ≡ Err (record { position = f.position; kind = f.kind }))) (sym placed_is) tt
stops C code at blocks o (Fault kind) found less is so_far e placed_is =
    subst (λ (f : Failure BodyFaultOfCode). IfFault f (λ f. read_flat C code ≡ Err (record { position = f.position; kind = f.kind }))) (sym placed_is)
    (ap (λ (r : Result (List Level) BodyFault). r >>= λ left. placed (length code - 1) (ended_at_top left))
    (one_more C code at blocks o less is so_far ∙ ap (λ (r : Result (List Level) CheckKind). placed at r >>= run C (at + 1) (drop (at + 1) (front code))) e))

-- what is found of a body whose front is read
at_end : (C : Context) (code : List Op) (at : ℕ) (blocks : List Level) → at ≡ length code - 1 → GoesOn C code at blocks → read_flat C code ≡ placed (length code - 1) (ended_at_top blocks)
unfolding read_flat run
at_end C code at blocks all so_far =
    let none : drop at (front code) ≡ [] = drop_of_length-le (front code) (omega (arith, length-take (length code - 1) code)) in
    ap (λ (r : Result (List Level) BodyFault). r >>= λ left. placed (length code - 1) (ended_at_top left)) (so_far ∙ ap (λ (ops : List Op). run C at ops blocks) none)

-- a body whose end has no fault has none
pub ends : (C : Context) (code : List Op) (at : ℕ) (blocks left : List Level) → at ≡ length code - 1 → GoesOn C code at blocks → ended_at_top blocks ≡ Ok left → (found : List Level) × (read_flat C code ≡ Ok found)
ends C code at blocks left all so_far e = (left, at_end C code at blocks all so_far ∙ ap (placed (length code - 1)) e)

-- a fault of its end is the body's
pub ends_badly : (C : Context) (code : List Op) (at : ℕ) (blocks : List Level) (failure : Failure CheckKind) (found : Failure BodyFaultOfCode) → at ≡ length code - 1 → GoesOn C code at blocks
    → IfFault failure (λ kind. ended_at_top blocks ≡ Err kind) → found ≡ failure_at (length code - 1) failure → IfFault found (λ f. read_flat C code ≡ Err (record { position = f.position; kind = f.kind }))
ends_badly C code at blocks NoMemory found all so_far e placed_is = subst (λ (f : Failure BodyFaultOfCode). IfFault f (λ f. read_flat C code ≡ Err (record { position = f.position; kind = f.kind }))) (sym placed_is) tt
ends_badly C code at blocks (Fault kind) found all so_far e placed_is =
    subst (λ (f : Failure BodyFaultOfCode). IfFault f (λ f. read_flat C code ≡ Err (record { position = f.position; kind = f.kind }))) (sym placed_is)
    (at_end C code at blocks all so_far ∙ ap (placed (length code - 1)) e)
