-- Types of functions, also such as are known when the program is built.
use Rattle.std.specs.Prelude.{Bool, true, false, ◌&&◌, Option, Some, None}
use Rattle.std.specs.Cmp.Lexicographic.{pointwise}
use Rattle.wasm_types.specs.declared.val_type.ValType.{ValType}
use Rattle.wasm_types.specs.declared.val_type.ValType.TheVariants.{I32, I64}
use Rattle.wasm_types.specs.declared.func_type.FuncType.{FuncType}
use Rattle.wasm_types.specs.declared.signature.Signature.{Signature}

-- the same as a function type
abbrev pub type_of : Signature → FuncType
type_of signature = record { params = signature.takes.now; result = signature.gives }

-- whether two types of values are one
abbrev pub is_same_value : ValType → ValType → Bool
is_same_value I32 I32 = true
is_same_value I32 I64 = false
is_same_value I64 I32 = false
is_same_value I64 I64 = true

-- whether two results are one
abbrev pub is_same_result : Option ValType → Option ValType → Bool
is_same_result None None = true
is_same_result None (Some b) = false
is_same_result (Some a) None = false
is_same_result (Some a) (Some b) = is_same_value a b

-- whether two types of functions are one
unfoldable pub is_same_type : FuncType → FuncType → Bool
is_same_type f g = pointwise is_same_value f.params g.params && is_same_result f.result g.result
