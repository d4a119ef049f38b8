-- What is left where a `?` returns.
use Rattle.std.proofs.Common.{◌≡◌, Result, Ok, Err, sym, subst}
use Rattle.std.specs.Result.{IsErrAnd}
use Rattle.wasm_check.specs.Machine.{Leaves}

-- a fault is handed on as it is
pub handed_on : {A B E : Type 0} (r : Result A E) (left : B) (answer : Result B E) (kind : E) → IsErrAnd r (λ e. e ≡ kind)
    → answer ≡ Err kind → Leaves r left answer
handed_on (Ok x) left answer kind h e = absurd h
handed_on {E = E} (Err f) left answer kind h e = let P : E → Type 0 = λ k. answer ≡ Err k in subst P (sym h) e

-- the same answer in other words
pub leaves_as : {A B E : Type 0} (r : Result A E) (left : B) (answer other : Result B E) → other ≡ answer
    → Leaves r left answer → Leaves r left other
leaves_as {B = B} {E = E} r left answer other e h = let P : Result B E → Type 0 = λ a. Leaves r left a in subst P (sym e) h
