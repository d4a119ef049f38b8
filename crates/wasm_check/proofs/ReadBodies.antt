-- What is found of bodies that are read from their front, and of the module that they belong to.
use Rattle.std.proofs.Common.{◌≡◌, ℕ, ◌+◌, ◌<◌, ◌≤◌, List, [], ◌∷◌, ◌++◌, length, take, get_or, slice_get, Some, None, Result, Ok, Err, refl, sym, ap, subst, ◌∙◌, arith}
use Rattle.std.specs.Prelude.{IfErr, IfOk}
use Rattle.std.specs.List.{AllZip}
use Rattle.std.proofs.lemmas.List.{length-append}
use Rattle.std.proofs.lemmas.List.Elements.{All-get_or}
use Rattle.std.proofs.lemmas.Option.{get_or_from_slice_get, slice_get-get_or, slice_get_read}
use Rattle.fil_base.specs.declared.failure.Failure.{Failure}
use Rattle.fil_base.specs.declared.failure.Failure.TheVariants.{Fault, NoMemory}
use Rattle.fil_base.specs.Failure.{IfFault}
use Rattle.wasm_types.specs.declared.func_type.FuncType.{FuncType}
use Rattle.wasm_types.specs.declared.op.Op.{Op}
use Rattle.wasm_types.specs.declared.op.Op.TheVariants as op
use Rattle.wasm_types.specs.declared.raw_module.Body.{Body}
use Rattle.wasm_types.specs.declared.raw_module.RawModule.{RawModule}
use Rattle.wasm_check.specs.declared.fault.BodyFault.{BodyFault as BodyFaultOfCode}
use Rattle.wasm_check.specs.declared.fault.CheckFault.{CheckFault}
use Rattle.wasm_check.specs.Code.{Code, IsNestedAs, flat}
use Rattle.wasm_check.specs.Effects.{Context}
use Rattle.wasm_check.specs.Machine.{IsFoundFlat, read_flat}
use Rattle.wasm_check.specs.Modules.{module_fault}
use Rattle.wasm_check.specs.Placing.{failure_in}
use Rattle.wasm_check.specs.Readable.{IsReadable, IsReadableBody}
use Rattle.wasm_check.specs.Validity.{IsBodyFault, IsFirstFault, IsJudged, IsValid, IsValidBody, body_context}
use Rattle.wasm_check.proofs.JudgedBodies.{fault_is_judged, flat_is_judged, function_has_type, read_is_valid, zipped_all, zipped_more}
use Rattle.wasm_check.proofs.Runs.{none_beside}

-- ---- one body

-- code has its `end`
pub is_ended : (ops code : List Op) (c : Code) → ops ≡ code → IsNestedAs code c → 0 < length ops
is_ended ops code c same h = omega (arith, ap length same, ap length h.1, length-append (flat c) (op.End ∷ []))

-- an item that is read at a place of a list stands there in the same list
pub stands_at : {A : Type 0} (xs ys : List A) (i : ℕ) (x : A) → xs ≡ ys → i < length ys → x ≡ get_or xs i x → slice_get ys i ≡ Some x
stands_at {A = A} xs ys i x same less is = slice_get_read ys (length ys) i x refl less (is ∙ ap (λ (zs : List A). get_or zs i x) same)

-- where a body's code stands, without labels
abbrev pub place_of : RawModule → FuncType → Body → Context
place_of raw f body = record { raw = raw; locals = f.params ++ body.locals; result = f.result; labels = [] }

-- the labels of its place have no part in reading a body
same_reading : (raw : RawModule) (f : FuncType) (body : Body) (code : List Op) (c : Code) → code ≡ body.code → IsNestedAs body.code c → read_flat (body_context raw f body) body.code ≡ read_flat (place_of raw f body) code
same_reading raw f body code c same h =
    flat_is_judged (body_context raw f body) body.code c h ∙ (sym (flat_is_judged (place_of raw f body) body.code c h) ∙ ap (λ (ops : List Op). read_flat (place_of raw f body) ops) (sym same))

-- a body that is read to its end is valid
pub found_valid : {A : Type 0} (raw : RawModule) (type_index : ℕ) (f : FuncType) (body : Body) (code : List Op) (nested : (c : Code) × IsNestedAs body.code c) (result : Result A (Failure BodyFaultOfCode))
    → slice_get raw.types type_index ≡ Some f → code ≡ body.code → IsFoundFlat result (read_flat (place_of raw f body) code) → IfOk result (λ _. IsValidBody raw type_index body)
found_valid raw type_index f body code nested (Ok x) is same found =
    read_is_valid raw type_index f body nested.0 found.0 is nested.1 (same_reading raw f body code nested.0 same nested.1 ∙ found.1)
found_valid raw type_index f body code nested (Err failure) is same found = tt

-- a fault at which reading stops is the body's
pub found_fault : {A : Type 0} (raw : RawModule) (type_index : ℕ) (f : FuncType) (body : Body) (code : List Op) (nested : (c : Code) × IsNestedAs body.code c) (result : Result A (Failure BodyFaultOfCode))
    → slice_get raw.types type_index ≡ Some f → code ≡ body.code → IsFoundFlat result (read_flat (place_of raw f body) code)
    → IfErr result (λ failure. IfFault failure (λ fault. IsJudged raw type_index body (Err (record { position = fault.position; kind = fault.kind }))))
found_fault raw type_index f body code nested (Ok x) is same found = tt
found_fault raw type_index f body code nested (Err NoMemory) is same found = tt
found_fault raw type_index f body code nested (Err (Fault fault)) is same found =
    fault_is_judged raw type_index f body nested.0 (record { position = fault.position; kind = fault.kind }) is nested.1 (same_reading raw f body code nested.0 same nested.1 ∙ found)

-- ---- one body after another

-- the bodies in front of this one are valid
abbrev pub AreValid : RawModule → ℕ → Type 0
AreValid raw count = AllZip (IsValidBody raw) (take count raw.functions) (take count raw.bodies)

-- a body of a module that can be checked, and the type of its function
pub record IsBodyAt (raw : RawModule) (i type_index : ℕ) (body : Body) : Type 0 where
  pub readable : IsReadable raw
  pub parts : module_fault raw ≡ None
  pub less : i < length raw.bodies
  pub function_is : slice_get raw.functions i ≡ Some type_index
  pub body_is : slice_get raw.bodies i ≡ Some body

-- what is read at a place of both lists is such a body
pub body_at : (raw : RawModule) (functions : List ℕ) (bodies : List Body) (i : ℕ) (body : Body) → IsReadable raw → module_fault raw ≡ None → functions ≡ raw.functions → bodies ≡ raw.bodies → i < length bodies
    → body ≡ get_or bodies i body → IsBodyAt raw i (get_or functions i 0) body
body_at raw functions bodies i body h parts same_functions same_bodies less is =
    let less_there : i < length raw.bodies = omega (arith, less, ap length same_bodies) in
    let less_here : i < length functions = omega (arith, less, ap length same_functions, ap length same_bodies, h.paired) in
    record {
      readable = h;
      parts = parts;
      less = less_there;
      function_is = ap (λ (these : List ℕ). slice_get these i) (sym same_functions) ∙ slice_get-get_or functions i 0 less_here;
      body_is = stands_at bodies raw.bodies i body same_bodies less_there is;
    }

-- it can be read
pub is_readable : (raw : RawModule) (i type_index : ℕ) (body : Body) → IsBodyAt raw i type_index body → IsReadableBody body
is_readable raw i type_index body h =
    subst IsReadableBody (get_or_from_slice_get raw.bodies i body body h.body_is) (All-get_or IsReadableBody raw.bodies i body h.less h.readable.bodies)

-- the type of its function is there
pub is_typed : (raw : RawModule) (i type_index : ℕ) (body : Body) → IsBodyAt raw i type_index body → type_index < length raw.types
is_typed raw i type_index body h = function_has_type raw i type_index h.parts h.function_is

-- if it is valid, one more is
pub one_more_valid : (raw : RawModule) (i type_index : ℕ) (body : Body) → IsBodyAt raw i type_index body → IsValidBody raw type_index body → AreValid raw i → AreValid raw (i + 1)
one_more_valid raw i type_index body h valid so_far = zipped_more (IsValidBody raw) raw.functions raw.bodies i type_index body h.function_is h.body_is valid so_far

-- its fault is the first of bodies if those in front of it are valid
pub body_fails : (raw : RawModule) (i type_index : ℕ) (body : Body) (failure : Failure BodyFaultOfCode) (found : Failure CheckFault) → IsBodyAt raw i type_index body
    → IfFault failure (λ fault. IsJudged raw type_index body (Err (record { position = fault.position; kind = fault.kind }))) → AreValid raw i → found ≡ failure_in i failure → IfFault found (λ fault. IsBodyFault raw fault)
body_fails raw i type_index body NoMemory found h judged so_far e = subst (λ (f : Failure CheckFault). IfFault f (λ fault. IsBodyFault raw fault)) (sym e) tt
body_fails raw i type_index body (Fault fault) found h judged so_far e =
    subst (λ (f : Failure CheckFault). IfFault f (λ fault. IsBodyFault raw fault)) (sym e)
    (record { parts = h.parts; earlier = so_far; type_index = type_index; body = body; function_is = h.function_is; body_is = h.body_is; verdict = judged })

-- all are valid
pub all_valid : (raw : RawModule) (bodies : List Body) (i : ℕ) → IsReadable raw → bodies ≡ raw.bodies → length bodies ≤ i → AreValid raw i → AllZip (IsValidBody raw) raw.functions raw.bodies
all_valid raw bodies i h same all so_far =
    zipped_all (IsValidBody raw) raw.functions raw.bodies i (omega (arith, h.paired, ap length same)) (omega (arith, ap length same)) so_far

-- ---- the module

-- a module with a first fault is not valid
pub not_valid : {A : Type 0} (raw : RawModule) (result : Result A (Failure CheckFault)) → IfErr result (λ failure. IfFault failure (λ fault. IsFirstFault raw fault))
    → IfErr result (λ failure. IfFault failure (λ fault. IsValid raw → ⊥))
not_valid raw (Ok x) h = tt
not_valid raw (Err NoMemory) h = tt
not_valid raw (Err (Fault fault)) h = λ valid. none_beside valid h
