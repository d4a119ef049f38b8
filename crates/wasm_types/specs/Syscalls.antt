-- The system calls (Filecoin FVM, "system calls"), by their numbers.
use Rattle.std.specs.Prelude.{◌≡◌, ℕ, List, [], ◌∷◌, Option, Some, None, codes, slice_get, Bool, ◌&&◌, suc, if◌then◌else◌}
use Rattle.std.specs.Str.{bytes_eq}
use Rattle.wasm_types.specs.declared.val_type.ValType.{ValType}
use Rattle.wasm_types.specs.declared.val_type.ValType.TheVariants.{I32, I64}
use Rattle.wasm_types.specs.declared.func_type.FuncType.{FuncType}
use Rattle.wasm_types.specs.declared.syscall.SyscallRow.{SyscallRow}
use Rattle.wasm_types.specs.Signatures.{type_of}

-- a system call: the module_name and the name under which it is imported, and its type
pub record Syscall : Type 0 where
  pub module_name : List ℕ
  pub name : List ℕ
  pub typing : FuncType

-- parameters, and an error number as the result
abbrev pub answers : List ValType → FuncType
answers params = record { params = params; result = Some I32 }

-- the system calls, in the order of their numbers, which begin at 0
abbrev pub syscalls : List Syscall
syscalls =
    (record { module_name = codes "ipld"; name = codes "block_open"; typing = answers (I32 ∷ I32 ∷ []) }) ∷ (
    (record { module_name = codes "ipld"; name = codes "block_create"; typing = answers (I32 ∷ I64 ∷ I32 ∷ I32 ∷ []) }) ∷ (
    (record { module_name = codes "ipld"; name = codes "block_read"; typing = answers (I32 ∷ I32 ∷ I32 ∷ I32 ∷ I32 ∷ []) }) ∷ (
    (record { module_name = codes "ipld"; name = codes "block_stat"; typing = answers (I32 ∷ I32 ∷ []) }) ∷ (
    (record { module_name = codes "ipld"; name = codes "block_link"; typing = answers (I32 ∷ I32 ∷ I64 ∷ I32 ∷ I32 ∷ I32 ∷ []) }) ∷ (
    (record { module_name = codes "self"; name = codes "root"; typing = answers (I32 ∷ I32 ∷ I32 ∷ []) }) ∷ (
    (record { module_name = codes "self"; name = codes "set_root"; typing = answers (I32 ∷ []) }) ∷ (
    (record { module_name = codes "self"; name = codes "current_balance"; typing = answers (I32 ∷ []) }) ∷ (
    (record { module_name = codes "self"; name = codes "self_destruct"; typing = answers (I32 ∷ []) }) ∷ (
    (record { module_name = codes "actor"; name = codes "resolve_address"; typing = answers (I32 ∷ I32 ∷ I32 ∷ []) }) ∷ (
    (record { module_name = codes "actor"; name = codes "get_actor_code_cid"; typing = answers (I32 ∷ I64 ∷ I32 ∷ I32 ∷ []) }) ∷ (
    (record { module_name = codes "send"; name = codes "send"; typing = answers (I32 ∷ I32 ∷ I32 ∷ I64 ∷ I32 ∷ I64 ∷ I64 ∷ []) }) ∷ (
    (record { module_name = codes "vm"; name = codes "message_context"; typing = answers (I32 ∷ []) }) ∷ (
    (record { module_name = codes "vm"; name = codes "exit"; typing = record { params = I32 ∷ I32 ∷ I32 ∷ I32 ∷ []; result = None } }) ∷ (
    (record { module_name = codes "network"; name = codes "context"; typing = answers (I32 ∷ []) }) ∷ (
    (record { module_name = codes "gas"; name = codes "available"; typing = answers (I32 ∷ []) }) ∷ (
    (record { module_name = codes "gas"; name = codes "charge"; typing = answers (I32 ∷ I32 ∷ I64 ∷ []) }) ∷ (
    (record { module_name = codes "debug"; name = codes "enabled"; typing = answers (I32 ∷ []) }) ∷ (
    (record { module_name = codes "debug"; name = codes "log"; typing = answers (I32 ∷ I32 ∷ []) }) ∷ (
    (record { module_name = codes "crypto"; name = codes "hash"; typing = answers (I32 ∷ I64 ∷ I32 ∷ I32 ∷ I32 ∷ I32 ∷ []) }) ∷ (
    []))))))))))))))))))))

-- the number has this system call
abbrev pub IsSyscall : ℕ → Syscall → Type 0
IsSyscall number call = slice_get syscalls number ≡ Some call

-- the number has the system call of these names
abbrev pub IsNamed : ℕ → List ℕ → List ℕ → Type 0
IsNamed number module_name name = (call : Syscall) × IsSyscall number call × (call.module_name ≡ module_name) × (call.name ≡ name)

-- whether the system call has these names
abbrev pub has_names : List ℕ → List ℕ → Syscall → Bool
has_names module_name name call = bytes_eq call.module_name module_name && bytes_eq call.name name

-- the number of the first system call of these names in a list whose numbers begin at n
abbrev pub number_from : List ℕ → List ℕ → ℕ → List Syscall → Option ℕ
number_from module_name name n [] = None
number_from module_name name n (call ∷ calls) =
    if has_names module_name name call then Some n else number_from module_name name (suc n) calls

-- the number of the system call of these names, if there is one
unfoldable pub number_of : List ℕ → List ℕ → Option ℕ
number_of module_name name = number_from module_name name 0 syscalls

-- a row of the code's table as a system call
abbrev pub call_of : SyscallRow → Syscall
call_of row = record { module_name = row.module_name.now; name = row.name.now; typing = type_of row.signature }
