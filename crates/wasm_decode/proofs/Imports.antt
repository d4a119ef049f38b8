-- Judging the types of imports.
use Rattle.std.proofs.Common.{◌≡◌, Bool, false, Option, Some, None, sym, ap, ◌∙◌}
use Rattle.wasm_types.specs.declared.func_type.FuncType.{FuncType}
use Rattle.wasm_types.specs.Signatures.{is_same_type}
use Rattle.wasm_types.specs.Syscalls.{Syscall}
use Rattle.wasm_decode.specs.ReadingSections.{has_type_of}

-- there is no type of this index
pub no_type_found : (read : Option Syscall) (got : Option FuncType) (call : Syscall) → read ≡ Some call → got ≡ None → has_type_of read got ≡ false
no_type_found read got call is none = ap (λ (r : Option Syscall). has_type_of r got) is ∙ ap (has_type_of (Some call)) none

-- there is one
pub type_judged : (read : Option Syscall) (got : Option FuncType) (call : Syscall) (typing t : FuncType) (answer : Bool) → read ≡ Some call → got ≡ Some t → typing ≡ call.typing → answer ≡ is_same_type typing t → has_type_of read got ≡ answer
type_judged read got call typing t answer is found same told =
    ap (λ (r : Option Syscall). has_type_of r got) is ∙ (ap (has_type_of (Some call)) found ∙ (ap (λ (f : FuncType). is_same_type f t) (sym same) ∙ sym told))
