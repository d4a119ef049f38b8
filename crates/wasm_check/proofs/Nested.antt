-- Instructions in which each block ends are the code of a body, and the `end` behind it.
use Rattle.std.proofs.Common.{◌≡◌, ℕ, zero, suc, ◌≤◌, List, [], ◌∷◌, ◌++◌, length, true, false, Option, refl, sym, ap, ◌∙◌, arith}
use Rattle.std.proofs.lemmas.List.{append_assoc, length-append}
use Rattle.wasm_types.specs.declared.val_type.ValType.{ValType}
use Rattle.wasm_types.specs.declared.op.Op.{Op}
use Rattle.wasm_types.specs.declared.op.Op.TheVariants as op
use Rattle.wasm_decode.specs.Instructions.{IsNested, Opened}
use Rattle.wasm_check.specs.Code.{Code, HasPlainOps, IsNestedAs, done, flat, in_block, in_if, in_if_else, in_loop, plain}

-- instructions inside blocks: code in the innermost one, and the `end` or `else` behind it, with others
data Parted (opened : Opened) (ops : List Op) : Type 0 where
  by_end : (c : Code) (rest : List Op) → HasPlainOps c → ops ≡ flat c ++ (op.End ∷ rest) → IsNested opened (op.End ∷ rest) → Parted opened ops
  by_else : (c : Code) (rest : List Op) → HasPlainOps c → ops ≡ flat c ++ (op.Else ∷ rest) → IsNested opened (op.Else ∷ rest) → Parted opened ops

-- what is in front of instructions joins the code in front of them
grown : (opened : Opened) (ops rest : List Op) (before : List Op → List Op) (front : Code → Code) → ((c : Code) → HasPlainOps c → HasPlainOps (front c))
    → ((c : Code) (tail : List Op) → flat (front c) ++ tail ≡ before (flat c ++ tail)) → ops ≡ before rest → Parted opened rest → Parted opened ops
grown opened ops rest before front keeps laid e (by_end c more p f h) = by_end (front c) more (keeps c p) (e ∙ (ap before f ∙ sym (laid c (op.End ∷ more)))) h
grown opened ops rest before front keeps laid e (by_else c more p f h) = by_else (front c) more (keeps c p) (e ∙ (ap before f ∙ sym (laid c (op.Else ∷ more)))) h

-- so many instructions are parted
abbrev Parts : ℕ → Type 0
Parts most = (opened : Opened) (ops : List Op) → length ops ≤ most → IsNested opened ops → Parted opened ops

-- fewer instructions stand behind code
fewer : (most : ℕ) (ops code rest : List Op) (o : Op) → ops ≡ code ++ (o ∷ rest) → length ops ≤ most → length rest ≤ most
fewer most ops code rest o e few = omega (arith, few, ap length e, length-append code (o ∷ rest))

-- a block of one part, and what is behind it
one_part : (most : ℕ) (opened : Opened) (ops : List Op) (first : Op) (front : Code → Code → Code) → ((body c : Code) → HasPlainOps body → HasPlainOps c → HasPlainOps (front body c))
    → ((body c : Code) (tail : List Op) → flat (front body c) ++ tail ≡ first ∷ (flat body ++ (op.End ∷ (flat c ++ tail)))) → Parts most → length ops ≤ most → Parted (false ∷ opened) ops → Parted opened (first ∷ ops)
one_part most opened ops first front keeps laid parts few (by_end body rest p e h) =
    grown opened (first ∷ ops) rest (λ more. first ∷ (flat body ++ (op.End ∷ more))) (front body) (λ c q. keeps body c p q) (laid body) (ap (λ (os : List Op). first ∷ os) e)
    (parts opened rest (fewer most ops (flat body) rest op.End e few) h)
one_part most opened ops first front keeps laid parts few (by_else body rest p e h) = absurd h

-- the second part of an `if`, and what is behind it
second_part : (most : ℕ) (opened : Opened) (ops rest : List Op) (result : Option ValType) (first : Code) → HasPlainOps first → ops ≡ flat first ++ (op.Else ∷ rest) → Parts most → length rest ≤ most → Parted (false ∷ opened) rest
    → Parted opened (op.If result ∷ ops)
second_part most opened ops rest result first p e parts few (by_end second more q f h) =
    grown opened (op.If result ∷ ops) more (λ os. op.If result ∷ (flat first ++ (op.Else ∷ (flat second ++ (op.End ∷ os))))) (in_if_else result first second) (λ c r. (p, q, r))
    (λ c tail.
    ap (λ (os : List Op). op.If result ∷ os) (append_assoc (flat first) (op.Else ∷ (flat second ++ (op.End ∷ flat c))) tail)
    ∙ ap (λ (os : List Op). op.If result ∷ (flat first ++ (op.Else ∷ os))) (append_assoc (flat second) (op.End ∷ flat c) tail))
    (ap (λ (os : List Op). op.If result ∷ os) e ∙ ap (λ (os : List Op). op.If result ∷ (flat first ++ (op.Else ∷ os))) f)
    (parts opened more (fewer most rest (flat second) more op.End f few) h)
second_part most opened ops rest result first p e parts few (by_else second more q f h) = absurd h

-- an `if`, and what is behind it
if_part : (most : ℕ) (opened : Opened) (ops : List Op) (result : Option ValType) → Parts most → length ops ≤ most → Parted (true ∷ opened) ops → Parted opened (op.If result ∷ ops)
if_part most opened ops result parts few (by_end body rest p e h) =
    grown opened (op.If result ∷ ops) rest (λ more. op.If result ∷ (flat body ++ (op.End ∷ more))) (in_if result body) (λ c q. (p, q))
    (λ c tail. ap (λ (os : List Op). op.If result ∷ os) (append_assoc (flat body) (op.End ∷ flat c) tail)) (ap (λ (os : List Op). op.If result ∷ os) e)
    (parts opened rest (fewer most ops (flat body) rest op.End e few) h)
if_part most opened ops result parts few (by_else first rest p e h) =
    let less : length rest ≤ most = fewer most ops (flat first) rest op.Else e few in
    second_part most opened ops rest result first p e parts less (parts (false ∷ opened) rest less h)

-- instructions inside blocks are parted
parted : (most : ℕ) → Parts most
parted most opened [] few h = absurd h
parted zero opened (o ∷ ops) few h = absurd (omega (arith, few))
parted (suc most) opened (op.Block result ∷ ops) few h =
    one_part most opened ops (op.Block result) (in_block result) (λ body c p q. (p, q)) (λ body c tail. ap (λ (os : List Op). op.Block result ∷ os) (append_assoc (flat body) (op.End ∷ flat c) tail))
    (λ more rest less inner. parted most more rest less inner) (omega (arith, few)) (parted most (false ∷ opened) ops (omega (arith, few)) h)
parted (suc most) opened (op.Loop result ∷ ops) few h =
    one_part most opened ops (op.Loop result) (in_loop result) (λ body c p q. (p, q)) (λ body c tail. ap (λ (os : List Op). op.Loop result ∷ os) (append_assoc (flat body) (op.End ∷ flat c) tail))
    (λ more rest less inner. parted most more rest less inner) (omega (arith, few)) (parted most (false ∷ opened) ops (omega (arith, few)) h)
parted (suc most) opened (op.If result ∷ ops) few h =
    if_part most opened ops result (λ more rest less inner. parted most more rest less inner) (omega (arith, few)) (parted most (true ∷ opened) ops (omega (arith, few)) h)
parted (suc most) opened (op.End ∷ ops) few h = by_end done ops tt refl h
parted (suc most) opened (op.Else ∷ ops) few h = by_else done ops tt refl h
parted (suc most) opened (o ∷ ops) few h =
    grown opened (o ∷ ops) ops (λ more. o ∷ more) (plain o) (λ c q. (refl, q)) (λ c tail. refl) refl (parted most opened ops (omega (arith, few)) h)

-- what the last `end` closes is the body
body_of : (ops : List Op) → Parted [] ops → (c : Code) × IsNestedAs ops c
body_of ops (by_end c rest p e none) = (c, (p, e ∙ ap (λ (more : List Op). flat c ++ (op.End ∷ more)) none))
body_of ops (by_else c rest p e h) = absurd h

-- instructions in which each block ends are the code of a body
pub nested_code : (ops : List Op) → IsNested [] ops → (c : Code) × IsNestedAs ops c
nested_code ops h = body_of ops (parted (length ops) [] ops (omega arith) h)
