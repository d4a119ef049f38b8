-- What instructions without a block ask of their place, and what they do to the operands (WebAssembly 1.0, section 3.3).
use Rattle.std.specs.Prelude.{ℕ, Bool, nat_lt, nat_le, ◌^◌, if◌then◌else◌, List, [], ◌∷◌, ◌++◌, length, map, slice_get, slice_index_or, Option, Some, None, option_to_list, ok_or, Result, Ok, Err}
use Rattle.std.specs.List.{list_all}
use Rattle.wasm_types.specs.declared.access_op.MemArg.{MemArg}
use Rattle.wasm_types.specs.declared.val_type.ValType.{ValType}
use Rattle.wasm_types.specs.declared.val_type.ValType.TheVariants.{I32}
use Rattle.wasm_types.specs.declared.func_type.FuncType.{FuncType}
use Rattle.wasm_types.specs.declared.op.Op.{Op}
use Rattle.wasm_types.specs.declared.op.Op.TheVariants as op
use Rattle.wasm_types.specs.declared.raw_module.GlobalPart.{GlobalPart}
use Rattle.wasm_types.specs.declared.raw_module.RawModule.{RawModule}
use Rattle.wasm_types.specs.Accesses.{load_width, store_width}
use Rattle.wasm_types.specs.Opcodes.{typing_of}
use Rattle.wasm_types.specs.Ops.{opcode_of}
use Rattle.wasm_types.specs.Signatures.{is_same_result}
use Rattle.wasm_check.specs.declared.fault.CheckKind.{CheckKind}
use Rattle.wasm_check.specs.declared.fault.CheckKind.TheVariants as kinds
use Rattle.wasm_check.specs.Operands.{OperandStack, behind_jump, dropped, selected, lacks, taken, with_result}
use Rattle.wasm_check.specs.Results.{◌>>=◌}

-- where code stands: its module, the locals and the result of its function, and what the labels around it ask for, that
-- of the innermost block first and that of the function last
pub record Context : Type 0 where
  pub raw : RawModule
  pub locals : List ValType
  pub result : Option ValType
  pub labels : List (Option ValType)

-- what an instruction does to the operands
pub data Effect : Type 0 where
  -- it takes these, the last one topmost, and gives a result or none
  moves : List ValType → Option ValType → Effect
  -- it takes these, and what is written behind it is not reached
  leaves : List ValType → Effect
  -- the same, but it has a fault that goes behind missing operands: its labels ask for different ones
  disagrees : List ValType → Effect
  drops : Effect
  selects : Effect

-- the type index of each function, imported ones first
abbrev pub function_indexes : RawModule → List ℕ
function_indexes raw = map (λ i. i.type_index) raw.imports ++ raw.functions

abbrev pub type_under : RawModule → Option ℕ → Option FuncType
type_under raw None = None
type_under raw (Some index) = slice_get raw.types index

-- the type of a function
abbrev pub function_type : RawModule → ℕ → Option FuncType
function_type raw index = type_under raw (slice_get (function_indexes raw) index)

-- a memory is declared
abbrev pub with_memory : RawModule → Effect → Result Effect CheckKind
with_memory raw effect = if nat_lt 0 (length raw.memories) then Ok effect else Err kinds.NoMemory0

-- a table is declared
abbrev pub with_table : RawModule → Effect → Result Effect CheckKind
with_table raw effect = if nat_lt 0 (length raw.tables) then Ok effect else Err kinds.NoTable

-- the alignment is not above so many bytes
abbrev pub aligned : MemArg → ℕ → Effect → Result Effect CheckKind
aligned arg width effect = if nat_le (2 ^ arg.align) width then Ok effect else Err kinds.Align

-- what a global is set to
abbrev pub set_global : GlobalPart → Result Effect CheckKind
set_global g = if g.mutable then Ok (moves (g.kind ∷ []) None) else Err kinds.Immutable

-- what a label asks for, or none where there is no such label
abbrev pub label_type : Context → ℕ → Option ValType
label_type C label = slice_index_or C.labels label None

-- whether there is such a label
abbrev pub is_label : Context → ℕ → Bool
is_label C label = nat_lt label (length C.labels)

-- the effect of a jump to one of some labels, if all of them ask for the same as the default one
abbrev pub jumps_among : Context → ℕ → List ℕ → Effect
jumps_among C default labels =
    if list_all (λ label. is_same_result (label_type C label) (label_type C default)) labels
    then leaves (option_to_list (label_type C default) ++ (I32 ∷ []))
    else disagrees (option_to_list (label_type C default) ++ (I32 ∷ []))

-- the effect of an instruction whose immediates and place have no part in it
abbrev pub moves_as : Option FuncType → Effect
moves_as None = moves [] None
moves_as (Some f) = moves f.params f.result

abbrev pub table_effect : Op → Effect
table_effect o = moves_as (typing_of (opcode_of o))

-- the effect of an instruction at its place, or why it cannot stand there
abbrev pub effect_of : Context → Op → Result Effect CheckKind
effect_of C op.Unreachable = Ok (leaves [])
effect_of C (op.Br label) = ok_or (slice_get C.labels label) kinds.Label >>= λ t. Ok (leaves (option_to_list t))
effect_of C (op.BrIf label) = ok_or (slice_get C.labels label) kinds.Label >>= λ t. Ok (moves (option_to_list t ++ (I32 ∷ [])) t)
effect_of C (op.BrTable default labels) =
    if list_all (is_label C) (default ∷ labels) then Ok (jumps_among C default labels) else Err kinds.Label
effect_of C op.Return = Ok (leaves (option_to_list C.result))
effect_of C (op.Call function) = ok_or (function_type C.raw function) kinds.Function >>= λ f. Ok (moves f.params f.result)
effect_of C (op.CallIndirect type_index) =
    ok_or (slice_get C.raw.types type_index) kinds.TypeIndex >>= λ f. with_table C.raw (moves (f.params ++ (I32 ∷ [])) f.result)
effect_of C op.Drop = Ok drops
effect_of C op.Select = Ok selects
effect_of C (op.LocalGet index) = ok_or (slice_get C.locals index) kinds.Local >>= λ t. Ok (moves [] (Some t))
effect_of C (op.LocalSet index) = ok_or (slice_get C.locals index) kinds.Local >>= λ t. Ok (moves (t ∷ []) None)
effect_of C (op.LocalTee index) = ok_or (slice_get C.locals index) kinds.Local >>= λ t. Ok (moves (t ∷ []) (Some t))
effect_of C (op.GlobalGet index) = ok_or (slice_get C.raw.globals index) kinds.Global >>= λ g. Ok (moves [] (Some g.kind))
effect_of C (op.GlobalSet index) = ok_or (slice_get C.raw.globals index) kinds.Global >>= set_global
effect_of C (op.Load load arg) = with_memory C.raw (table_effect (op.Load load arg)) >>= aligned arg (load_width load)
effect_of C (op.Store store arg) = with_memory C.raw (table_effect (op.Store store arg)) >>= aligned arg (store_width store)
effect_of C op.MemorySize = with_memory C.raw (table_effect op.MemorySize)
effect_of C op.MemoryGrow = with_memory C.raw (table_effect op.MemoryGrow)
effect_of C op.MemoryCopy = with_memory C.raw (table_effect op.MemoryCopy)
effect_of C op.MemoryFill = with_memory C.raw (table_effect op.MemoryFill)
effect_of C o = Ok (table_effect o)

-- the operands behind an instruction with this effect
abbrev pub performed : Effect → OperandStack → Result OperandStack CheckKind
performed (moves takes gives) s = taken takes s >>= λ rest. Ok (with_result gives rest)
performed (leaves takes) s = taken takes s >>= λ rest. Ok behind_jump
performed (disagrees takes) s = if lacks (length takes) s then Err kinds.Underflow else Err kinds.TypeMismatch
performed drops s = dropped s
performed selects s = selected s
