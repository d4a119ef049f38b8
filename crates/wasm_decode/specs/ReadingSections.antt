-- Reading the entries of sections.
use Rattle.std.specs.Prelude.{ℕ, ◌-◌, ◌^◌, zero, suc, List, [], ◌++◌, length, replicate, slice_get, Bool, false, not, nat_lt, ◌==◌, if◌then◌else◌, Result, Ok, Err, Option, Some, None}
use Rattle.std.specs.Str.{is_utf8}
use Rattle.wasm_types.specs.declared.val_type.ValType.{ValType}
use Rattle.wasm_types.specs.declared.func_type.FuncType.{FuncType}
use Rattle.wasm_types.specs.declared.raw_module.Body.{Body}
use Rattle.wasm_types.specs.declared.raw_module.ElementPart.{ElementPart}
use Rattle.wasm_types.specs.declared.raw_module.Export.{Export}
use Rattle.wasm_types.specs.declared.raw_module.ExportKind.{ExportKind}
use Rattle.wasm_types.specs.declared.raw_module.ExportKind.TheVariants as exports
use Rattle.wasm_types.specs.declared.raw_module.GlobalPart.{GlobalPart}
use Rattle.wasm_types.specs.declared.raw_module.Import.{Import}
use Rattle.wasm_types.specs.declared.raw_module.Limits.{Limits}
use Rattle.wasm_types.specs.declared.raw_module.SegmentPart.{SegmentPart}
use Rattle.wasm_types.specs.declared.limits.TheConstants.{MOST_FIRST_PAGES, MOST_LOCALS, MOST_PAGES, MOST_TABLE_ELEMENTS}
use Rattle.wasm_types.specs.Signatures.{is_same_type}
use Rattle.wasm_types.specs.Syscalls.{Syscall, number_of, syscalls}
use Rattle.wasm_decode.specs.declared.fault.Stop.{Stop}
use Rattle.wasm_decode.specs.declared.fault.WasmKind.TheVariants as kinds
use Rattle.wasm_decode.specs.ReadingInstructions.{expression_at}
use Rattle.wasm_decode.specs.ReadingTypes.{limits_at, no_type, switch_at, value_type_at}
use Rattle.wasm_decode.specs.ReadingValues.{byte_at, bytes_at, count_at, items_at, name_at, same_count_at, sized_at, u32_at, vector_at}
use Rattle.wasm_decode.specs.Stops.{◌>>=◌, Found, refused, unless}

-- ---- imports

-- what is read behind a name at `place`. Where that stops, a name that is no UTF-8 is at fault before it
abbrev pub blamed : {A : Type 0} → List ℕ → List ℕ → Result A Stop → Result A Stop
blamed place name (Ok x) = Ok x
blamed place name (Err stop) = if is_utf8 name then Err stop else refused kinds.Form place

-- the names of an import, whether texts or not, and the byte of its kind
pub record ImportFront : Type 0 where
  pub module_name : List ℕ
  pub name : List ℕ
  pub kind : ℕ

-- the kind behind two names
abbrev pub kind_behind : List ℕ → List ℕ → List ℕ → Found ImportFront
kind_behind module_name name bytes = byte_at bytes >>= λ kind. Ok (record { module_name = module_name; name = name; kind = kind.0 }, kind.1)

-- the second name and the kind behind the first name
abbrev pub name_behind : List ℕ → List ℕ → Found ImportFront
name_behind module_name bytes = bytes_at bytes >>= λ name. blamed bytes name.0 (kind_behind module_name name.0 name.1)

-- the names and the kind of an import
unfoldable pub import_front_at : List ℕ → Found ImportFront
import_front_at bytes = bytes_at bytes >>= λ name. blamed bytes name.0 (name_behind name.0 name.1)

-- whether a type is that of the system call of this number
abbrev pub has_type_of : Option Syscall → Option FuncType → Bool
has_type_of (Some call) (Some t) = is_same_type call.typing t
has_type_of _ _ = false

-- the type index of the import at `place` of a system call of this number
abbrev pub type_behind : List FuncType → List ℕ → ℕ → List ℕ → Found Import
type_behind types place number bytes =
    u32_at bytes >>= λ n.
    unless (not (has_type_of (slice_get syscalls number) (slice_get types n.0))) kinds.UnknownImport place
    (record { syscall = number; type_index = n.0 }, n.1)

-- what stands behind the names of the import at `place`
abbrev pub call_behind : List FuncType → List ℕ → Option ℕ → List ℕ → Found Import
call_behind types place (Some number) bytes = type_behind types place number bytes
call_behind types place None bytes = refused kinds.UnknownImport place

-- an import
unfoldable pub import_at : List FuncType → List ℕ → Found Import
import_at types bytes =
    import_front_at bytes >>= λ front.
    (if front.0.kind == 0 then call_behind types bytes (number_of front.0.module_name front.0.name) front.1
    else refused kinds.Unsupported bytes)

-- ---- tables, memories, globals and exports

-- the entries of a section that has one at most
unfoldable pub single_at : {A : Type 0} → (List ℕ → Found A) → List ℕ → Found (List A)
single_at item bytes = u32_at bytes >>= λ n. (if nat_lt 1 n.0 then refused kinds.Unsupported bytes else items_at item [] n.0 n.1)

-- a table
unfoldable pub table_at : List ℕ → Found Limits
table_at bytes =
    byte_at bytes >>= λ t. (if t.0 == 0x70 then limits_at MOST_TABLE_ELEMENTS (2 ^ 32 - 1) t.1 else refused (no_type t.0) bytes)

-- a memory
unfoldable pub memory_at : List ℕ → Found Limits
memory_at bytes = limits_at MOST_FIRST_PAGES MOST_PAGES bytes

-- a global
unfoldable pub global_at : List ℕ → Found GlobalPart
global_at bytes =
    value_type_at bytes >>= λ t. switch_at t.1 >>= λ mutable. expression_at mutable.1
    >>= λ e. Ok (record { kind = t.0; mutable = mutable.0; init = e.0 }, e.1)

-- a byte as what an export's index counts
abbrev pub as_export_kind : List ℕ → ℕ × List ℕ → Found ExportKind
as_export_kind bytes (b, rest) =
    if b == 0 then Ok (exports.Function, rest)
    else (if b == 1 then Ok (exports.Table, rest)
    else (if b == 2 then Ok (exports.Memory, rest)
    else (if b == 3 then Ok (exports.Global, rest)
    else refused kinds.Form bytes)))

-- what an export's index counts
unfoldable pub export_kind_at : List ℕ → Found ExportKind
export_kind_at bytes = byte_at bytes >>= as_export_kind bytes

-- an export
unfoldable pub export_at : List ℕ → Found Export
export_at bytes =
    name_at bytes >>= λ name. export_kind_at name.1 >>= λ kind. u32_at kind.1
    >>= λ index. Ok (record { name = name.0; kind = kind.0; index = index.0 }, index.1)

-- ---- segments

-- the flag of a segment, which is 0: the rest
unfoldable pub flag_at : List ℕ → Result (List ℕ) Stop
flag_at bytes = u32_at bytes >>= λ n. unless (not (n.0 == 0)) kinds.Unsupported bytes n.1

-- an element segment
unfoldable pub element_at : List ℕ → Found ElementPart
element_at bytes =
    flag_at bytes >>= expression_at >>= λ e. vector_at (2 ^ 32 - 1) u32_at e.1
    >>= λ fs. Ok (record { offset = e.0; functions = fs.0 }, fs.1)

-- a data segment
unfoldable pub segment_at : List ℕ → Found SegmentPart
segment_at bytes =
    flag_at bytes >>= expression_at >>= λ e. bytes_at e.1 >>= λ held. Ok (record { offset = e.0; bytes = held.0 }, held.1)

-- ---- bodies

-- locals, of which these are read and so many groups are still wanted
unfoldable pub groups_at : List ValType → ℕ → List ℕ → Found (List ValType)
groups_at locals zero bytes = Ok (locals, bytes)
groups_at locals (suc wanted) bytes =
    count_at (MOST_LOCALS - length locals) bytes >>= λ n. value_type_at n.1 >>= λ t. groups_at (locals ++ replicate n.0 t.0) wanted t.1

-- the locals of a function
unfoldable pub locals_at : List ℕ → Found (List ValType)
locals_at bytes = u32_at bytes >>= λ groups. groups_at [] groups.0 groups.1

-- the locals and the instructions of a function
unfoldable pub function_at : List ℕ → Found Body
function_at bytes = locals_at bytes >>= λ locals. expression_at locals.1 >>= λ e. Ok (record { locals = locals.0; code = e.0 }, e.1)

-- the body of a function
unfoldable pub body_at : List ℕ → Found Body
body_at bytes = sized_at function_at bytes

-- a number of items that is given elsewhere, if it is, and at most `most`
abbrev pub wanted_count_at : Option ℕ → ℕ → List ℕ → Found ℕ
wanted_count_at None most bytes = count_at most bytes
wanted_count_at (Some wanted) most bytes = same_count_at wanted most bytes

-- a vector of such a number of items
unfoldable pub counted_at : {A : Type 0} → Option ℕ → ℕ → (List ℕ → Found A) → List ℕ → Found (List A)
counted_at wanted most item bytes = wanted_count_at wanted most bytes >>= λ n. items_at item [] n.0 n.1
