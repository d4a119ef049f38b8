-- No spelling begins another.
use Rattle.std.proofs.Common.{◌≡◌, ℕ, ◌++◌, List, sym, ap, ◌∙◌}
use Rattle.dag_cbor.specs.declared.value.Value.{Value}
use Rattle.dag_cbor.specs.declared.decoding.TheConstants.{MAX_DEPTH}
use Rattle.dag_cbor.specs.Plain.{IsPlain}
use Rattle.dag_cbor.specs.Spelling.{spelled}
use Rattle.dag_cbor.specs.Reading.{item_at}
use Rattle.dag_cbor.proofs.Steps.{ok_is}
use Rattle.dag_cbor.proofs.Items.{item_again}

-- no spelling begins another, at any bound on the depth
pub one_spelling_within : (d : ℕ) (x y : Value) (r s : List ℕ) → IsPlain d x → IsPlain d y → spelled x ++ r ≡ spelled y ++ s → (x ≡ y) × (r ≡ s)
one_spelling_within d x y r s plain-x plain-y same =
    let both : (x, r) ≡ (y, s) = ok_is (x, r) (y, s) (sym (item_again d x r plain-x) ∙ ap (item_at d) same ∙ item_again d y s plain-y) in
    (ap (λ (p : Value × List ℕ). p.0) both, ap (λ (p : Value × List ℕ). p.1) both)

-- no spelling begins another
pub one_spelling : (x y : Value) (r s : List ℕ) → IsPlain MAX_DEPTH x → IsPlain MAX_DEPTH y → spelled x ++ r ≡ spelled y ++ s → (x ≡ y) × (r ≡ s)
one_spelling x y r s plain-x plain-y same = one_spelling_within MAX_DEPTH x y r s plain-x plain-y same
