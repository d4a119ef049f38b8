-- Modules but for their bodies (WebAssembly 1.0, section 3.4), with the two exports that a machine enters by.
use Rattle.std.specs.Prelude.{ℕ, Bool, true, false, not, ◌&&◌, nat_eq, nat_lt, nat_le, if◌then◌else◌, List, [], ◌∷◌, length, Option, Some, None}
use Rattle.std.specs.List.{list_all, list_any}
use Rattle.std.specs.Cmp.Lexicographic.{pointwise}
use Rattle.wasm_types.specs.declared.val_type.ValType.{ValType}
use Rattle.wasm_types.specs.declared.val_type.ValType.TheVariants.{I32, I64}
use Rattle.wasm_types.specs.declared.func_type.FuncType.{FuncType}
use Rattle.wasm_types.specs.declared.op.Op.{Op}
use Rattle.wasm_types.specs.declared.op.Op.TheVariants as op
use Rattle.wasm_types.specs.declared.raw_module.Export.{Export}
use Rattle.wasm_types.specs.declared.raw_module.ExportKind.{ExportKind}
use Rattle.wasm_types.specs.declared.raw_module.ExportKind.TheVariants as exports
use Rattle.wasm_types.specs.declared.raw_module.RawModule.{RawModule}
use Rattle.wasm_types.specs.Signatures.{is_same_type}
use Rattle.wasm_check.specs.declared.fault.CheckKind.{CheckKind}
use Rattle.wasm_check.specs.declared.fault.CheckKind.TheVariants as kinds
use Rattle.wasm_check.specs.Effects.{function_indexes, function_type}

-- whether two names are one
abbrev pub is_same_name : List ℕ → List ℕ → Bool
is_same_name = pointwise nat_eq

-- whether indexes are all below a count
abbrev pub are_below : ℕ → List ℕ → Bool
are_below count indexes = list_all (λ index. nat_lt index count) indexes

-- whether the functions that element segments name are there
abbrev pub elements_are_functions : RawModule → Bool
elements_are_functions raw = list_all (λ e. are_below (length (function_indexes raw)) e.functions) raw.elements

-- whether the types of the module's own functions are there
abbrev pub functions_have_types : RawModule → Bool
functions_have_types raw = are_below (length raw.types) raw.functions

-- whether there is a memory for data segments, and a table for element segments
abbrev pub is_needed_and_absent : {A B : Type 0} → List A → List B → Bool
is_needed_and_absent users used = nat_lt 0 (length users) && not (nat_lt 0 (length used))

-- whether an expression is a constant of this type
abbrev pub is_constant : ValType → List Op → Bool
is_constant I32 (op.I32Const n ∷ (op.End ∷ [])) = true
is_constant I64 (op.I64Const n ∷ (op.End ∷ [])) = true
is_constant t ops = false

-- whether an expression is the place of a segment
abbrev pub is_place : List Op → Bool
is_place ops = is_constant I32 ops

-- whether the first values of globals are constants
abbrev pub has_constant_globals : RawModule → Bool
has_constant_globals raw = list_all (λ g. is_constant g.kind g.init) raw.globals

-- whether the places of element segments are constants
abbrev pub has_constant_elements : RawModule → Bool
has_constant_elements raw = list_all (λ e. is_place e.offset) raw.elements

-- whether the places of data segments are constants
abbrev pub has_constant_segments : RawModule → Bool
has_constant_segments raw = list_all (λ s. is_place s.offset) raw.segments

-- whether the first values of globals and the places of segments are constants
abbrev pub has_constants : RawModule → Bool
has_constants raw = has_constant_globals raw && (has_constant_elements raw && has_constant_segments raw)

-- how many things of a kind there are
abbrev pub count_of : RawModule → ExportKind → ℕ
count_of raw exports.Function = length (function_indexes raw)
count_of raw exports.Table = length raw.tables
count_of raw exports.Memory = length raw.memories
count_of raw exports.Global = length raw.globals

-- whether names differ, each from all behind it
abbrev pub are_distinct : List Export → Bool
are_distinct [] = true
are_distinct (e ∷ rest) = not (list_any (λ other. is_same_name e.name other.name) rest) && are_distinct rest

-- whether exports are of things that are there
abbrev pub exports_are_there : RawModule → Bool
exports_are_there raw = list_all (λ e. nat_lt e.index (count_of raw e.kind)) raw.exports

-- whether exports are of things that are there, and their names differ
abbrev pub has_good_exports : RawModule → Bool
has_good_exports raw = exports_are_there raw && are_distinct raw.exports

-- `memory`
abbrev pub memory_name : List ℕ
memory_name = 0x6d ∷ (0x65 ∷ (0x6d ∷ (0x6f ∷ (0x72 ∷ (0x79 ∷ [])))))

-- `invoke`
abbrev pub invoke_name : List ℕ
invoke_name = 0x69 ∷ (0x6e ∷ (0x76 ∷ (0x6f ∷ (0x6b ∷ (0x65 ∷ [])))))

abbrev pub is_memory : ExportKind → Bool
is_memory exports.Memory = true
is_memory _ = false

abbrev pub is_function : ExportKind → Bool
is_function exports.Function = true
is_function _ = false

-- the type of `invoke`: from i32 to i32
abbrev pub entry_type : FuncType
entry_type = record { params = I32 ∷ []; result = Some I32 }

abbrev pub is_entry_type : Option FuncType → Bool
is_entry_type None = false
is_entry_type (Some f) = is_same_type entry_type f

-- whether an export is the memory that a machine writes to
abbrev pub lends_memory : Export → Bool
lends_memory e = is_same_name e.name memory_name && is_memory e.kind

-- whether the function with an index is one of the module's own
abbrev pub is_own : RawModule → ℕ → Bool
is_own raw index = nat_le (length raw.imports) index

-- whether an export is the function that a machine calls: one of the module's own, of that type
abbrev pub lends_entry : RawModule → Export → Bool
lends_entry raw e =
    is_same_name e.name invoke_name
    && (is_function e.kind && (is_own raw e.index && is_entry_type (function_type raw e.index)))

-- whether that memory is exported
abbrev pub has_memory : RawModule → Bool
has_memory raw = list_any lends_memory raw.exports

-- whether that function is exported
abbrev pub has_entry : RawModule → Bool
has_entry raw = list_any (lends_entry raw) raw.exports

-- whether a machine can enter the module
abbrev pub has_entries : RawModule → Bool
has_entries raw = has_memory raw && has_entry raw

-- this kind of fault, unless the test holds; else what comes behind it
abbrev pub unless : Bool → CheckKind → Option CheckKind → Option CheckKind
unless test kind later = if test then later else Some kind

-- the first fault of a module but for its bodies, in the order of the kinds
unfoldable pub module_fault : RawModule → Option CheckKind
module_fault raw =
    unless (elements_are_functions raw) kinds.Function
    (unless (functions_have_types raw) kinds.TypeIndex
    (unless (not (is_needed_and_absent raw.segments raw.memories)) kinds.NoMemory0
    (unless (not (is_needed_and_absent raw.elements raw.tables)) kinds.NoTable
    (unless (has_constants raw) kinds.Init
    (unless (has_good_exports raw) kinds.Export
    (unless (has_entries raw) kinds.Entry None))))))
