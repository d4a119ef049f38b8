-- Comparing types of functions.
use Rattle.std.proofs.Common.{◌≡◌, ◌↔◌, Bool, true, false, List, Option, Some, None, refl, ap, ◌∙◌}
use Rattle.std.specs.Bool.{Decides, IsTrue}
use Rattle.std.specs.Cmp.Lexicographic.{pointwise}
use Rattle.std.proofs.lemmas.Bool.{and_parts, and_from, false≢true}
use Rattle.std.proofs.lemmas.Slice.Eq.{slice_eq-Decides}
use Rattle.wasm_types.specs.declared.val_type.ValType.{ValType}
use Rattle.wasm_types.specs.declared.val_type.ValType.TheVariants.{I32, I64}
use Rattle.wasm_types.specs.declared.func_type.FuncType.{FuncType}
use Rattle.wasm_types.specs.Signatures.{is_same_value, is_same_result, is_same_type}

value_decides : (a b : ValType) → Decides (is_same_value a b) (a ≡ b)
value_decides I32 I32 = (λ h. refl, λ e. refl)
value_decides I32 I64 = (λ h. absurd (false≢true h), λ e. cc)
value_decides I64 I32 = (λ h. absurd (false≢true h), λ e. cc)
value_decides I64 I64 = (λ h. refl, λ e. refl)

some_same : (a b : ValType) → Some a ≡ Some b → a ≡ b
some_same a b e = cc

result_decides : (a b : Option ValType) → Decides (is_same_result a b) (a ≡ b)
result_decides None None = (λ h. refl, λ e. refl)
result_decides None (Some b) = (λ h. absurd (false≢true h), λ e. cc)
result_decides (Some a) None = (λ h. absurd (false≢true h), λ e. cc)
result_decides (Some a) (Some b) = (λ h. ap (λ x. Some x) ((value_decides a b).0 h), λ e. (value_decides a b).1 (some_same a b e))

params_decide : (xs ys : List ValType) → Decides (pointwise is_same_value xs ys) (xs ≡ ys)
params_decide xs ys = slice_eq-Decides value_decides xs ys (pointwise is_same_value xs ys) refl

joined : (f g : FuncType) → f.params ≡ g.params → f.result ≡ g.result → f ≡ g
joined f g params result =
    ap (λ (p : List ValType). let t : FuncType = record { params = p; result = f.result } in t) params
    ∙ ap (λ (r : Option ValType). let t : FuncType = record { params = g.params; result = r } in t) result

-- the test says whether two types are one
pub type_decides : (f g : FuncType) → Decides (is_same_type f g) (f ≡ g)
unfolding is_same_type
type_decides f g = (
  λ h.
      let parts = and_parts (pointwise is_same_value f.params g.params) (is_same_result f.result g.result) h in
      joined f g ((params_decide f.params g.params).0 parts.0) ((result_decides f.result g.result).0 parts.1),
  λ e. and_from (pointwise is_same_value f.params g.params) (is_same_result f.result g.result) ((params_decide f.params g.params).1 (ap (λ (t : FuncType). t.params) e)) ((result_decides f.result g.result).1 (ap (λ (t : FuncType). t.result) e)),
)

same_answers : (b t : Bool) (P : Type 0) → Decides b P → Decides t P → b ≡ t
same_answers true true P d e = refl
same_answers true false P d e = absurd (false≢true (e.1 (d.0 refl)))
same_answers false true P d e = absurd (false≢true (d.1 (e.0 refl)))
same_answers false false P d e = refl

-- so does any other that says so
pub same_test : (b : Bool) (f g : FuncType) → (IsTrue b ↔ (f ≡ g)) → b ≡ is_same_type f g
same_test b f g says = same_answers b (is_same_type f g) (f ≡ g) says (type_decides f g)
