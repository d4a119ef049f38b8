-- Reading all of the bytes: what it gives is spelled so, and where it gives a fault nothing is.
use Rattle.std.proofs.Common.{◌≡◌, ℕ, ◌++◌, List, [], length, eqb, cond, Result, Ok, Err, sym, ap, subst, ◌∙◌}
use Rattle.std.proofs.lemmas.Bool.{eqb-true}
use Rattle.std.proofs.lemmas.List.{append-nil, nil_from_length}
use Rattle.dag_cbor.specs.declared.value.Value.{Value}
use Rattle.dag_cbor.specs.declared.fault.Flaw.{Flaw}
use Rattle.dag_cbor.specs.declared.fault.CborKind.TheVariants as kinds
use Rattle.dag_cbor.specs.declared.decoding.TheConstants.{MAX_DEPTH}
use Rattle.dag_cbor.specs.Plain.{IsPlain}
use Rattle.dag_cbor.specs.Spelling.{spelled}
use Rattle.dag_cbor.specs.Reading.{◌>>=◌, flaw, item_at, whole_at}
use Rattle.dag_cbor.proofs.Steps.{bind_ok, check_ok}
use Rattle.dag_cbor.proofs.Numbers.{IsBytes}
use Rattle.dag_cbor.proofs.Items.{item_takes, item_again}

-- what is read of all the bytes is spelled so
pub whole_takes : (bytes : List ℕ) (x : Value) → IsBytes bytes → whole_at bytes ≡ Ok x → IsPlain MAX_DEPTH x × (bytes ≡ spelled x)
unfolding whole_at
whole_takes bytes x fits e =
    let a = bind_ok (item_at MAX_DEPTH bytes) (λ y. cond (eqb (length y.1) 0) (Ok y.0) (Err (flaw kinds.Trailing (length y.1)))) x e in
    let g = check_ok (eqb (length a.0.1) 0) (flaw kinds.Trailing (length a.0.1)) a.0.0 x a.2 in
    let taken = item_takes MAX_DEPTH bytes a.0 fits a.1 in
    let nothing : a.0.1 ≡ [] = nil_from_length a.0.1 (eqb-true _ _ g.0) in
    let whole : bytes ≡ spelled a.0.0 = taken.0.parts ∙ ap (λ (r : List ℕ). spelled a.0.0 ++ r) nothing ∙ append-nil (spelled a.0.0) in
    subst (λ (y : Value). IsPlain MAX_DEPTH y × (bytes ≡ spelled y)) g.1 (taken.1, whole)

-- the spelling of a value is read again
pub whole_again : (x : Value) → IsPlain MAX_DEPTH x → whole_at (spelled x) ≡ Ok x
unfolding whole_at
whole_again x plain =
    let item : item_at MAX_DEPTH (spelled x) ≡ Ok (x, []) = ap (item_at MAX_DEPTH) (sym (append-nil (spelled x))) ∙ item_again MAX_DEPTH x [] plain in
    ap (λ (r : Result (Value × List ℕ) Flaw). r >>= λ y. cond (eqb (length y.1) 0) (Ok y.0) (Err (flaw kinds.Trailing (length y.1)))) item

-- where reading has a fault, nothing is spelled so
pub nothing_whole : (bytes : List ℕ) (at : Flaw) → whole_at bytes ≡ Err at → (x : Value) → IsPlain MAX_DEPTH x → bytes ≡ spelled x → ⊥
nothing_whole bytes at e x plain is = let both : Err at ≡ Ok x = sym e ∙ ap whole_at is ∙ whole_again x plain in cc
