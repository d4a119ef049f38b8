-- Valid modules, and the first fault of others (WebAssembly 1.0, section 3.4).
use Rattle.std.specs.Prelude.{◌≡◌, ℕ, [], ◌∷◌, ◌++◌, take, slice_get, Some, None, Result, Ok, Err}
use Rattle.std.specs.List.{AllZip}
use Rattle.wasm_types.specs.declared.func_type.FuncType.{FuncType}
use Rattle.wasm_types.specs.declared.raw_module.Body.{Body}
use Rattle.wasm_types.specs.declared.raw_module.RawModule.{RawModule}
use Rattle.wasm_check.specs.declared.fault.CheckFault.{CheckFault}
use Rattle.wasm_check.specs.Code.{Code, IsNestedAs}
use Rattle.wasm_check.specs.Effects.{Context}
use Rattle.wasm_check.specs.Judging.{BodyFault, judged}
use Rattle.wasm_check.specs.Modules.{module_fault}
use Rattle.wasm_check.specs.Operands.{OperandStack}

-- where the code of a function's body stands: its parameters are its first locals, and its result is what its label asks for
abbrev pub body_context : RawModule → FuncType → Body → Context
body_context raw f body = record { raw = raw; locals = f.params ++ body.locals; result = f.result; labels = f.result ∷ [] }

-- what is found of a body, whose function has the type of this index
pub record IsJudged (raw : RawModule) (type_index : ℕ) (body : Body) (verdict : Result OperandStack BodyFault) : Type 0 where
  pub func_type : FuncType
  pub code : Code
  pub has_type : slice_get raw.types type_index ≡ Some func_type
  pub nested : IsNestedAs body.code code
  pub verdict_is : judged (body_context raw func_type body) code ≡ verdict

-- a body without a fault
abbrev pub IsValidBody : RawModule → ℕ → Body → Type 0
IsValidBody raw type_index body = (s : OperandStack) × IsJudged raw type_index body (Ok s)

-- a valid module: its parts are, and so is the body of each function
pub record IsValid (raw : RawModule) : Type 0 where
  pub parts : module_fault raw ≡ None
  pub bodies : AllZip (IsValidBody raw) raw.functions raw.bodies

-- the first fault in a body is this, and those before it have none
pub record IsBodyFault (raw : RawModule) (fault : CheckFault) : Type 0 where
  pub parts : module_fault raw ≡ None
  pub earlier : AllZip (IsValidBody raw) (take fault.function raw.functions) (take fault.function raw.bodies)
  pub type_index : ℕ
  pub body : Body
  pub function_is : slice_get raw.functions fault.function ≡ Some type_index
  pub body_is : slice_get raw.bodies fault.function ≡ Some body
  pub verdict : IsJudged raw type_index body (Err (record { position = fault.position; kind = fault.kind }))

-- the first fault of a module: one outside the bodies goes first
pub data IsFirstFault (raw : RawModule) (fault : CheckFault) : Type 0 where
  of_module : module_fault raw ≡ Some fault.kind → fault.function ≡ 0 → fault.position ≡ 0 → IsFirstFault raw fault
  of_body : IsBodyFault raw fault → IsFirstFault raw fault
