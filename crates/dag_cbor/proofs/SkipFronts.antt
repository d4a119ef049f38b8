-- The front of bytes that is passed over is the spelling of a value.
use Rattle.std.proofs.Common.{◌≡◌, ℕ, ◌-◌, ◌≤◌, List, ◌++◌, length, take, drop, Result, Ok, Err, refl, sym, ap, ◌∙◌, arith, length-append}
use Rattle.std.specs.Prelude.{IsErr}
use Rattle.std.proofs.lemmas.List.{take_at, drop_at}
use Rattle.dag_cbor.specs.declared.value.Value.{Value}
use Rattle.dag_cbor.specs.declared.fault.Flaw.{Flaw}
use Rattle.dag_cbor.specs.Plain.{IsPlain}
use Rattle.dag_cbor.specs.Spelling.{spelled}
use Rattle.dag_cbor.specs.Reading.{item_at}
use Rattle.dag_cbor.specs.Behind.{behind}
use Rattle.dag_cbor.proofs.Steps.{ok_is}
use Rattle.dag_cbor.proofs.Numbers.{IsBytes}
use Rattle.dag_cbor.proofs.Items.{item_takes, item_again}
use Rattle.dag_cbor.proofs.Stack.{Read}

-- a value that is read
abbrev found : Value × List ℕ → Read
found x = Ok x

-- a fault in the place of a value
abbrev fault : Flaw → Read
fault at = Err at

-- a fault in the place of the bytes that are left
abbrev nothing_left : Flaw → Result (List ℕ) Flaw
nothing_left at = Err at

-- a fault is no value
apart : (at : Flaw) (x : Value × List ℕ) → fault at ≡ found x → ⊥
apart at x e = absurd cc

same_fault : (a b : Flaw) → nothing_left a ≡ nothing_left b → a ≡ b
same_fault a b e = cc

-- a value is read, and these bytes are left
read_behind : (r : Read) (rest : List ℕ) → behind r ≡ Ok rest → (value : Value) × (r ≡ found (value, rest))
read_behind (Ok x) rest e = (x.0, ap (λ (t : List ℕ). found (x.0, t)) (ok_is x.1 rest e))
read_behind (Err at) rest e = absurd cc

-- reading has a fault
fault_behind : (r : Read) (at : Flaw) → behind r ≡ Err at → r ≡ fault at
fault_behind (Ok x) at e = absurd cc
fault_behind (Err other) at e = ap fault (same_fault other at e)

-- what is passed over
pub record IsPassed (depth : ℕ) (bytes rest : List ℕ) : Type 0 where
  pub value : Value
  pub plain : IsPlain depth value
  pub parts : bytes ≡ spelled value ++ rest
  pub read : item_at depth bytes ≡ Ok (value, rest)

pub is_passed : (depth : ℕ) (bytes rest : List ℕ) → IsBytes bytes → behind (item_at depth bytes) ≡ Ok rest → IsPassed depth bytes rest
is_passed depth bytes rest fits e =
    let r = read_behind (item_at depth bytes) rest e in
    let taken = item_takes depth bytes (r.0, rest) fits r.1 in
    record { value = r.0; plain = taken.1; parts = taken.0.parts; read = r.1 }

-- the bytes that are left are no more
pub no_longer : (depth : ℕ) (bytes rest : List ℕ) → IsBytes bytes → behind (item_at depth bytes) ≡ Ok rest → length rest ≤ length bytes
no_longer depth bytes rest fits e =
    let passed = is_passed depth bytes rest fits e in
    omega (arith, ap length passed.parts, length-append (spelled passed.value) rest)

-- the front is cut off where the bytes that are left begin
pub cut_off : (depth : ℕ) (bytes rest front back : List ℕ) (at : ℕ) → IsBytes bytes → behind (item_at depth bytes) ≡ Ok rest → at ≡ length bytes - length rest → front ≡ take at bytes → back ≡ drop at bytes
    → (value : Value) × IsPlain depth value × (front ≡ spelled value) × (bytes ≡ front ++ back) × (item_at depth bytes ≡ Ok (value, back))
cut_off depth bytes rest front back at fits e place front_is back_is =
    let passed = is_passed depth bytes rest fits e in
    let len : length (spelled passed.value) ≡ at = omega (arith, ap length passed.parts, length-append (spelled passed.value) rest) in
    let is_front : front ≡ spelled passed.value = front_is ∙ ap (take at) passed.parts ∙ take_at (spelled passed.value) rest at len in
    let is_back : back ≡ rest = back_is ∙ ap (drop at) passed.parts ∙ drop_at (spelled passed.value) rest at len in
    (passed.value, passed.plain, is_front, passed.parts ∙ ap (λ (t : List ℕ). t ++ rest) (sym is_front) ∙ ap (λ (t : List ℕ). front ++ t) (sym is_back), passed.read ∙ ap (λ (t : List ℕ). found (passed.value, t)) (sym is_back))

-- where reading has a fault, no value is spelled at the front
pub no_item_there : (depth : ℕ) (bytes : List ℕ) (at : Flaw) → behind (item_at depth bytes) ≡ Err at → (value : Value) (rest : List ℕ) → IsPlain depth value → bytes ≡ spelled value ++ rest → ⊥
no_item_there depth bytes at e value rest plain is =
    apart at (value, rest) (sym (fault_behind (item_at depth bytes) at e) ∙ ap (item_at depth) is ∙ item_again depth value rest plain)

-- reading has a fault
pub is_fault : (depth : ℕ) (bytes : List ℕ) (at : Flaw) → behind (item_at depth bytes) ≡ Err at → IsErr (item_at depth bytes)
is_fault depth bytes at e = rw (fault_behind (item_at depth bytes) at e) refl
