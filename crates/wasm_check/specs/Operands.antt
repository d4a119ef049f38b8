-- Operands as they are known before the code runs (WebAssembly 1.0, section 3.3 and the appendix on validation).
use Rattle.std.specs.Prelude.{ℕ, Bool, true, false, ◌&&◌, nat_lt, if◌then◌else◌, List, [], ◌∷◌, length, drop, reverse, slice_index_or, Option, Some, None, option_to_list, Result, Ok, Err}
use Rattle.wasm_types.specs.declared.val_type.ValType.{ValType}
use Rattle.wasm_types.specs.declared.val_type.ValType.TheVariants.{I32}
use Rattle.wasm_types.specs.Signatures.{is_same_value}
use Rattle.wasm_check.specs.declared.fault.CheckKind.{CheckKind}
use Rattle.wasm_check.specs.declared.fault.CheckKind.TheVariants as kinds
use Rattle.wasm_check.specs.Results.{◌>>=◌}

-- an operand's type, or none where it may have any, which only code that is not reached can make
abbrev pub Operand : Type 0
Operand = Option ValType

-- the operands of a block, the topmost first. In code that is not reached, operands of any type lie below those kept
pub record OperandStack : Type 0 where
  pub kept : List Operand
  pub reached : Bool

-- the operands at the beginning of a block
abbrev pub no_operands : OperandStack
no_operands = record { kept = []; reached = true }

-- the operands behind a jump
abbrev pub behind_jump : OperandStack
behind_jump = record { kept = []; reached = false }

-- whether fewer operands are there than so many
abbrev pub lacks : ℕ → OperandStack → Bool
lacks count s = s.reached && nat_lt (length s.kept) count

-- whether an operand can have this type
abbrev pub is_like : ValType → Operand → Bool
is_like t None = true
is_like t (Some u) = is_same_value t u

-- whether the topmost operands can have these types, that of the topmost first
abbrev pub fits : List ValType → List Operand → Bool
fits [] kept = true
fits (t ∷ types) [] = true
fits (t ∷ types) (o ∷ kept) = is_like t o && fits types kept

-- without the topmost ones
abbrev pub without : ℕ → OperandStack → OperandStack
without count s = record { kept = drop count s.kept; reached = s.reached }

-- with one more on top
abbrev pub with_operand : Operand → OperandStack → OperandStack
with_operand o s = record { kept = o ∷ s.kept; reached = s.reached }

-- with a result, if there is one
abbrev pub with_result : Option ValType → OperandStack → OperandStack
with_result None s = s
with_result (Some t) s = with_operand (Some t) s

-- once operands of these types are taken, of which the last one lies topmost, if enough are there
abbrev pub fitted : List ValType → OperandStack → Result OperandStack CheckKind
fitted types s = if fits (reverse types) s.kept then Ok (without (length types) s) else Err kinds.TypeMismatch

-- the same. That one is missing goes before a wrong type
abbrev pub taken : List ValType → OperandStack → Result OperandStack CheckKind
taken types s = if lacks (length types) s then Err kinds.Underflow else fitted types s

-- once one of any type is taken
abbrev pub dropped : OperandStack → Result OperandStack CheckKind
dropped s = if lacks 1 s then Err kinds.Underflow else Ok (without 1 s)

-- the operand at this place from the top: of any type where none is kept there
abbrev pub operand_at : ℕ → OperandStack → Operand
operand_at place s = slice_index_or s.kept place None

-- what two operands are that can have one type
abbrev pub common : Operand → Operand → Result Operand CheckKind
common None b = Ok b
common (Some t) None = Ok (Some t)
common (Some t) (Some u) = if is_same_value t u then Ok (Some t) else Err kinds.TypeMismatch

-- once a condition and two operands of one type are taken, and one of that type is given
abbrev pub selected : OperandStack → Result OperandStack CheckKind
selected s =
    if lacks 3 s then Err kinds.Underflow
    else (if is_like I32 (operand_at 0 s)
    then (common (operand_at 1 s) (operand_at 2 s) >>= λ o. Ok (with_operand o (without 3 s)))
    else Err kinds.TypeMismatch)

-- whether there is none of some operands
abbrev pub is_none_of : List Operand → Bool
is_none_of [] = true
is_none_of (o ∷ kept) = false

-- whether none is kept
abbrev pub is_bare : OperandStack → Bool
is_bare s = is_none_of s.kept

-- at the end of a block with this result: its operands are the result and no others
abbrev pub ended : Option ValType → OperandStack → Result OperandStack CheckKind
ended result s = taken (option_to_list result) s >>= λ rest. (if is_bare rest then Ok rest else Err kinds.TypeMismatch)

-- at the end of an `if` without `else`: a part that is not there gives no result
abbrev pub ended_alone : Option ValType → OperandStack → Result OperandStack CheckKind
ended_alone None s = ended None s
ended_alone (Some t) s = Err kinds.Underflow
