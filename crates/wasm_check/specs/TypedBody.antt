-- Bodies of functions that the standard's typing rules accept (WebAssembly 1.0, section 3.4.1). They have no limits.
use Rattle.std.specs.Prelude.{◌≡◌, ℕ, [], slice_get, Some, option_to_list}
use Rattle.wasm_types.specs.declared.func_type.FuncType.{FuncType}
use Rattle.wasm_types.specs.declared.raw_module.Body.{Body}
use Rattle.wasm_types.specs.declared.raw_module.RawModule.{RawModule}
use Rattle.wasm_check.specs.Code.{Code, IsNestedAs}
use Rattle.wasm_check.specs.Typing.{HasType}
use Rattle.wasm_check.specs.Validity.{body_context}

-- a body whose code finds no operands and leaves the result of its function, which has the type of this index
pub record IsTypedBody (raw : RawModule) (type_index : ℕ) (body : Body) : Type 0 where
  pub func_type : FuncType
  pub code : Code
  pub has_type : slice_get raw.types type_index ≡ Some func_type
  pub nested : IsNestedAs body.code code
  pub typed : HasType (body_context raw func_type body) code [] (option_to_list func_type.result)
