-- Bodies that are valid have types, and those that have types are valid but for the limits.
use Rattle.std.proofs.Common.{◌≡◌, ℕ, List, [], ◌∷◌, Some, Result, Err, sym, ap, subst, ◌∙◌}
use Rattle.std.specs.Prelude.{IfErr, option_to_list}
use Rattle.std.specs.List.{AllZip}
use Rattle.wasm_types.specs.declared.func_type.FuncType.{FuncType}
use Rattle.wasm_types.specs.declared.raw_module.Body.{Body}
use Rattle.wasm_types.specs.declared.raw_module.RawModule.{RawModule}
use Rattle.wasm_check.specs.Code.{Code}
use Rattle.wasm_check.specs.Judging.{BodyFault, judged}
use Rattle.wasm_check.specs.Operands.{OperandStack}
use Rattle.wasm_check.specs.TypedBody.{IsTypedBody}
use Rattle.wasm_check.specs.Typing.{HasType}
use Rattle.wasm_check.specs.Validity.{IsJudged, IsValidBody, body_context}
use Rattle.wasm_check.proofs.Nestings.{one_nesting}
use Rattle.wasm_check.proofs.Typed.{IsLimit, Limited, accepted_from, typed_to}

-- what holds of each two holds of them in weaker words
weaker : {A B : Type 0} (P Q : A → B → Type 0) → ((x : A) (y : B) → P x y → Q x y) → (xs : List A) (ys : List B) → AllZip P xs ys → AllZip Q xs ys
weaker P Q follows [] [] h = h
weaker P Q follows [] (y ∷ ys) h = absurd h
weaker P Q follows (x ∷ xs) [] h = absurd h
weaker P Q follows (x ∷ xs) (y ∷ ys) h = (follows x y h.0, weaker P Q follows xs ys h.1)

-- a body without a fault has a type
valid_body : (raw : RawModule) (type_index : ℕ) (body : Body) → IsValidBody raw type_index body → IsTypedBody raw type_index body
valid_body raw type_index body h = record {
  func_type = h.1.func_type;
  code = h.1.code;
  has_type = h.1.has_type;
  nested = h.1.nested;
  typed = accepted_from (body_context raw h.1.func_type body) h.1.code h.0 h.1.verdict_is;
}

-- so have all of a valid module
pub valid_bodies : (raw : RawModule) → AllZip (IsValidBody raw) raw.functions raw.bodies → AllZip (IsTypedBody raw) raw.functions raw.bodies
valid_bodies raw h = weaker (IsValidBody raw) (IsTypedBody raw) (valid_body raw) raw.functions raw.bodies h

-- ---- faults of bodies that have types

-- a type that is found is one
same_some : (f g : FuncType) → Some f ≡ Some g → f ≡ g
same_some f g e = cc

-- what is judged of code with a type
fault_of_typed : (raw : RawModule) (body : Body) (f g : FuncType) (a b : Code) (fault : BodyFault) → f ≡ g → a ≡ b → judged (body_context raw f body) a ≡ Err fault
    → HasType (body_context raw g body) b [] (option_to_list g.result) → IsLimit fault.kind
fault_of_typed raw body f g a b fault same_type same_code verdict typed =
    let as_judged : judged (body_context raw g body) b ≡ Err fault =
    ap (λ (h : FuncType). judged (body_context raw h body) b) (sym same_type) ∙ (ap (judged (body_context raw f body)) (sym same_code) ∙ verdict) in
    subst (λ (r : Result OperandStack BodyFault). IfErr r Limited) as_judged (typed_to (body_context raw g body) b typed)

-- a fault in a body that has a type is a limit
pub typed_body_fault : (raw : RawModule) (type_index : ℕ) (body : Body) (fault : BodyFault) → IsJudged raw type_index body (Err fault) → IsTypedBody raw type_index body → IsLimit fault.kind
typed_body_fault raw type_index body fault h typed =
    fault_of_typed raw body h.func_type typed.func_type h.code typed.code fault (same_some h.func_type typed.func_type (sym h.has_type ∙ typed.has_type))
    (one_nesting body.code h.code typed.code h.nested typed.nested) h.verdict_is typed.typed
