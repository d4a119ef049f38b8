-- Expressions: what is read is spelled so, and what is spelled so is read.
use Rattle.std.proofs.Common.{◌≡◌, ℕ, zero, suc, ◌<◌, ◌≤◌, List, [], ◌∷◌, ◌++◌, length, Ok, refl, sym, ap, subst, ◌∙◌, arith}
use Rattle.std.proofs.lemmas.List.{append-nil, append_assoc, length-append}
use Rattle.wasm_types.specs.declared.op.Op.{Op}
use Rattle.wasm_types.specs.Opcodes.{Code, byte, prefixed, code_of}
use Rattle.wasm_types.specs.Ops.{opcode_of}
use Rattle.wasm_decode.specs.Instructions.{IsContinued, IsNested, Nesting, Opened, SpellsCode, SpellsExpression, SpellsInstruction, behind, ended, inside, misplaced}
use Rattle.wasm_decode.specs.Layout.{SpellsAll}
use Rattle.wasm_decode.specs.ReadingInstructions.{continued, expression_at, instruction_at, instructions_at}
use Rattle.wasm_decode.specs.Stops.{Found}
use Rattle.wasm_decode.proofs.Fronts.{Again, Front, Takes, both, found, go, just_is, same_found, seen, split, step}
use Rattle.wasm_decode.proofs.InstructionLaws.{instruction_again, instruction_takes}

-- instructions that are read behind others, up to the end of the outermost block
record NewOps (opened : Opened) (done all : List Op) (bytes rest : List ℕ) : Type 0 where
  new : List Op
  joined : all ≡ done ++ new
  nested : IsNested opened new
  laid : Front (SpellsAll SpellsInstruction new) bytes rest

-- one more instruction, and where it leaves the blocks
continued_take : (place bytes middle rest : List ℕ) (o : Op) (opened : Opened) (done all : List Op) (go_on : Opened → Found (List Op)) (nesting : Nesting) → behind o opened ≡ nesting → Front (SpellsInstruction o) bytes middle
    → ((more : Opened) → go_on more ≡ Ok (all, rest) → NewOps more (done ++ o ∷ []) all middle rest)
    → continued place (done ++ o ∷ []) middle go_on nesting ≡ Ok (all, rest) → NewOps opened done all bytes rest
continued_take place bytes middle rest o opened done all go_on (inside more) is h later e =
    let m = later more e in
    record {
      new = o ∷ m.new;
      joined = m.joined ∙ append_assoc done (o ∷ []) m.new;
      nested = subst (λ (n : Nesting). IsContinued n m.new (λ x. IsNested x m.new)) (sym is) m.nested;
      laid = both h m.laid;
    }
continued_take place bytes middle rest o opened done all go_on ended is h later e =
    let same = same_found e in
    record {
      new = o ∷ [];
      joined = sym same.0;
      nested = subst (λ (n : Nesting). IsContinued n [] (λ x. IsNested x [])) (sym is) refl;
      laid = both h (record { front = []; parts = same.1; laid = refl });
    }
continued_take place bytes middle rest o opened done all go_on misplaced is h later e = absurd cc

instructions_take : (most : ℕ) (opened : Opened) (done : List Op) (bytes rest : List ℕ) (all : List Op) → instructions_at most opened done bytes ≡ Ok (all, rest) → NewOps opened done all bytes rest
unfolding instructions_at
instructions_take zero opened done bytes rest all e = absurd cc
instructions_take (suc most) opened done bytes rest all e =
    let x = step {r = instruction_at bytes} {next = λ x. continued bytes (done ++ x.0 ∷ []) x.1 (λ more. instructions_at most more (done ++ x.0 ∷ []) x.1) (behind x.0 opened)} e in
    continued_take bytes bytes x.value.1 rest x.value.0 opened done all (λ more. instructions_at most more (done ++ x.value.0 ∷ []) x.value.1) (behind x.value.0 opened) refl
    (instruction_takes bytes x.value.1 x.value.0 x.is)
    (λ more f. instructions_take most more (done ++ x.value.0 ∷ []) x.value.1 rest all f) x.after

pub expression_takes : Takes expression_at SpellsExpression
unfolding expression_at
expression_takes bytes rest ops e =
    let m = instructions_take (length bytes) [] [] bytes rest ops e in
    subst (λ (os : List Op). Front (SpellsExpression os) bytes rest) (sym m.joined) (seen (λ front laid. (m.nested, laid)) m.laid)

-- ---- how many bytes instructions take

pub shorter : {P : List ℕ → Type 0} {bytes rest : List ℕ} → Front P bytes rest → length rest ≤ length bytes
shorter {rest = rest} h = omega (arith, ap length h.parts, length-append h.front rest)

code_takes_one : (code : Code) (bytes rest : List ℕ) → Front (SpellsCode code) bytes rest → length rest < length bytes
code_takes_one (byte b) bytes rest h = omega (arith, ap length (just_is (b ∷ []) bytes rest h))
code_takes_one (prefixed n) bytes rest h =
    let two = split h in
    omega (arith, ap length (just_is (0xfc ∷ []) bytes two.middle two.first), shorter two.second)

few : (ops : List Op) (bytes rest : List ℕ) → Front (SpellsAll SpellsInstruction ops) bytes rest → length ops ≤ length bytes
few [] bytes rest h = omega arith
few (o ∷ ops) bytes rest h =
    let two = split h in
    let parts = split two.first in
    omega (arith, few ops two.middle rest two.second, code_takes_one (code_of (opcode_of o)) bytes parts.middle parts.first, shorter parts.second)

-- ---- and the other way round

continued_again : (place middle rest : List ℕ) (done all ops : List Op) (go_on : Opened → Found (List Op)) (nesting : Nesting) → IsContinued nesting ops (λ more. IsNested more ops) → all ≡ done ++ ops
    → Front (SpellsAll SpellsInstruction ops) middle rest → ((more : Opened) → IsNested more ops → go_on more ≡ Ok (all, rest)) → continued place done middle go_on nesting ≡ Ok (all, rest)
continued_again place middle rest done all ops go_on (inside more) nested is h later = later more nested
continued_again place middle rest done all [] go_on ended nested is h later =
    ap (found done) (just_is [] middle rest h) ∙ ap (λ (os : List Op). found os rest) (sym (is ∙ append-nil done))
continued_again place middle rest done all (o ∷ ops) go_on ended nested is h later = absurd cc
continued_again place middle rest done all ops go_on misplaced nested is h later = absurd nested

instructions_again : (most : ℕ) (opened : Opened) (done ops : List Op) (bytes rest : List ℕ) → length ops ≤ most → IsNested opened ops → Front (SpellsAll SpellsInstruction ops) bytes rest
    → instructions_at most opened done bytes ≡ Ok (done ++ ops, rest)
unfolding instructions_at
instructions_again most opened done [] bytes rest enough nested h = absurd nested
instructions_again zero opened done (o ∷ ops) bytes rest enough nested h = absurd (omega (arith, enough))
instructions_again (suc most) opened done (o ∷ ops) bytes rest enough nested h =
    let two = split h in
    let joined : done ++ o ∷ ops ≡ (done ++ o ∷ []) ++ ops = sym (append_assoc done (o ∷ []) ops) in
    go (λ x. continued bytes (done ++ x.0 ∷ []) x.1 (λ more. instructions_at most more (done ++ x.0 ∷ []) x.1) (behind x.0 opened)) (o, two.middle) (instruction_again bytes two.middle o two.first)
    (continued_again bytes two.middle rest (done ++ o ∷ []) (done ++ o ∷ ops) ops (λ more. instructions_at most more (done ++ o ∷ []) two.middle) (behind o opened) nested joined two.second
    (λ more inner. instructions_again most more (done ++ o ∷ []) ops two.middle rest (omega (arith, enough)) inner two.second ∙ ap (λ (os : List Op). found os rest) (sym joined)))

pub expression_again : Again expression_at SpellsExpression
unfolding expression_at
expression_again bytes rest ops h =
    let laid : Front (SpellsAll SpellsInstruction ops) bytes rest = seen (λ front spelled. spelled.1) h in
    instructions_again (length bytes) [] [] ops bytes rest (few ops bytes rest laid) h.laid.0 laid
