-- Steps of judging, one behind the other: what is known if they went well, and what their faults may be.
use Rattle.std.proofs.Common.{◌≡◌, ℕ, Result, Ok, Err, refl, ap, ◌∙◌}
use Rattle.wasm_check.specs.declared.fault.CheckKind.{CheckKind}
use Rattle.wasm_check.specs.Judging.{BodyFault, placed}
use Rattle.wasm_check.specs.Results.{◌>>=◌}

-- the value of a step that had no fault
pub record Step {A B E : Type 0} (r : Result A E) (next : A → Result B E) (y : B) : Type 0 where
  pub value : A
  pub is : r ≡ Ok value
  pub after : next value ≡ Ok y

-- both steps had none
pub step : {A B E : Type 0} {r : Result A E} {next : A → Result B E} {y : B} → (r >>= next) ≡ Ok y → Step r next y
step {r = Ok x} e = record { value = x; is = refl; after = e }
step {r = Err fault} e = absurd cc

-- a step that has no fault
pub go : {A B E : Type 0} {r : Result A E} (next : A → Result B E) {y : Result B E} (x : A) → r ≡ Ok x → next x ≡ y → (r >>= next) ≡ y
go next x is after = ap (λ s. s >>= next) is ∙ after

-- a step that had no fault at its place had none
pub unplaced : {A : Type 0} (at : ℕ) (r : Result A CheckKind) (x : A) → placed at r ≡ Ok x → r ≡ Ok x
unplaced {A = A} at (Ok y) x e = ap (λ (z : A). let r : Result A CheckKind = Ok z in r) (inside y x e)
  where
    inside : (y x : A) → ◌≡◌ {A = Result A BodyFault} (Ok y) (Ok x) → y ≡ x
    inside y x e = cc
unplaced at (Err kind) x e = absurd cc

-- what is known of a value, or of a fault
abbrev pub IsEither : {A E : Type 0} → (A → Type 0) → (E → Type 0) → Result A E → Type 0
IsEither Good Bad (Ok x) = Good x
IsEither Good Bad (Err fault) = Bad fault

-- one step behind another
pub and_then : {A B E : Type 0} (Good : A → Type 0) (Better : B → Type 0) (Bad : E → Type 0) (r : Result A E) (next : A → Result B E)
    → IsEither Good Bad r → ((x : A) → Good x → IsEither Better Bad (next x)) → IsEither Better Bad (r >>= next)
and_then Good Better Bad (Ok x) next h later = later x h
and_then Good Better Bad (Err fault) next h later = h

-- what is known of a fault's kind is known of the fault
pub at_place : {A : Type 0} (Good : A → Type 0) (Bad : CheckKind → Type 0) (at : ℕ) (r : Result A CheckKind) → IsEither Good Bad r
    → IsEither Good (λ (fault : BodyFault). Bad fault.kind) (placed at r)
at_place Good Bad at (Ok x) h = h
at_place Good Bad at (Err kind) h = h
