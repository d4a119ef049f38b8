-- How the blocks that are open stand between two instructions, when code is read from its front. No public contract
-- speaks of them.
use Rattle.std.specs.Prelude.{◌≡◌, ◌≤◌, ◌<◌, ℕ, ◌+◌, ◌-◌, nat_lt, take, if◌then◌else◌, List, [], ◌∷◌, length, map, Option, None, Result, Ok, Err}
use Rattle.fil_base.specs.declared.failure.Failure.{Failure}
use Rattle.fil_base.specs.Failure.{IfFault}
use Rattle.wasm_types.specs.declared.val_type.ValType.{ValType}
use Rattle.wasm_types.specs.declared.val_type.ValType.TheVariants.{I32}
use Rattle.wasm_types.specs.declared.op.Op.{Op}
use Rattle.wasm_types.specs.declared.op.Op.TheVariants as op
use Rattle.wasm_check.specs.declared.fault.CheckKind.{CheckKind}
use Rattle.wasm_check.specs.declared.fault.CheckKind.TheVariants as kinds
use Rattle.wasm_check.specs.declared.fault.BodyFault.{BodyFault as BodyFaultOfCode}
use Rattle.wasm_check.specs.declared.levels.Level.{Level}
use Rattle.wasm_check.specs.declared.levels.LevelKind.{LevelKind}
use Rattle.wasm_check.specs.declared.levels.LevelKind.TheVariants as levels
use Rattle.wasm_check.specs.declared.limits.TheConstants.{MOST_NESTING}
use Rattle.wasm_check.specs.Effects.{Context, Effect, effect_of, performed, table_effect, with_memory}
use Rattle.wasm_check.specs.Judging.{BodyFault, placed, within_height}
use Rattle.wasm_check.specs.Operands.{OperandStack, ended, ended_alone, no_operands, taken, with_result}
use Rattle.wasm_check.specs.Results.{◌>>=◌}

-- what the label of a block asks for
abbrev pub label_by : LevelKind → Option ValType → Option ValType
label_by levels.Block result = result
label_by levels.Loop result = None
label_by levels.If result = result

abbrev pub label_of : Level → Option ValType
label_of level = label_by level.kind level.result_type

-- a block with other operands
abbrev pub with_operands : Level → OperandStack → Level
with_operands level s = record { kind = level.kind; result_type = level.result_type; operands = s }

-- a block that begins
abbrev pub begun : LevelKind → Option ValType → Level
begun kind result = record { kind = kind; result_type = result; operands = no_operands }

-- how many operands some blocks have
abbrev pub height_of : List Level → ℕ
height_of [] = 0
height_of (level ∷ outer) = length level.operands.kept + height_of outer

-- the context inside these blocks, the innermost first, of which the last one is the function's
abbrev pub context_in : Context → List Level → Context
context_in C blocks = record { raw = C.raw; locals = C.locals; result = C.result; labels = map label_of blocks }

-- at the end of a block
abbrev pub ended_by : LevelKind → Option ValType → OperandStack → Result OperandStack CheckKind
ended_by levels.Block result s = ended result s
ended_by levels.Loop result s = ended result s
ended_by levels.If result s = ended_alone result s

abbrev pub ended_level : Level → Result OperandStack CheckKind
ended_level level = ended_by level.kind level.result_type level.operands

-- the result of a block at its end
abbrev pub result_at_end : Level → Result (Option ValType) CheckKind
result_at_end level = ended_level level >>= λ s. Ok level.result_type

-- the blocks behind the beginning of one in the innermost, whose operands are then these
abbrev pub entered : LevelKind → Option ValType → Level → List Level → OperandStack → Result (List Level) CheckKind
entered kind result level outer s = Ok (begun kind result ∷ (with_operands level s ∷ outer))

-- where one block more may be open
abbrev pub may_nest : List Level → OperandStack → Result OperandStack CheckKind
may_nest blocks s = if nat_lt MOST_NESTING (length blocks) then Err kinds.Nesting else Ok s

-- one block more may be open, or not
abbrev pub IsNestable : List Level → Type 0
IsNestable blocks = length blocks ≤ MOST_NESTING

abbrev pub IsTooDeep : CheckKind → List Level → Type 0
IsTooDeep kind blocks = (kind ≡ kinds.Nesting) × (MOST_NESTING < length blocks)

-- the blocks behind the beginning of a `block` or a `loop`
abbrev pub opened_in : LevelKind → Option ValType → List Level → Result (List Level) CheckKind
opened_in kind result [] = Ok []
opened_in kind result (level ∷ outer) = may_nest (level ∷ outer) level.operands >>= entered kind result level outer

-- the blocks behind the beginning of an `if`
abbrev pub opened_if_in : Option ValType → List Level → Result (List Level) CheckKind
opened_if_in result [] = Ok []
opened_if_in result (level ∷ outer) =
    may_nest (level ∷ outer) level.operands >>= taken (I32 ∷ []) >>= entered levels.If result level outer

-- the blocks behind an `else`
abbrev pub else_in : List Level → Result (List Level) CheckKind
else_in [] = Ok []
else_in (level ∷ outer) = ended level.result_type level.operands >>= λ s. Ok (begun levels.Block level.result_type ∷ outer)

-- the operands of the innermost
abbrev pub operands_of : List Level → OperandStack
operands_of [] = no_operands
operands_of (level ∷ outer) = level.operands

-- the blocks at the end of the outermost
abbrev pub ended_at_top : List Level → Result (List Level) CheckKind
ended_at_top [] = Ok []
ended_at_top (level ∷ outer) = ended level.result_type level.operands >>= λ s. Ok (with_operands level s ∷ outer)

-- the blocks once the innermost has these operands, if they are not too many
abbrev pub raised : OperandStack → List Level → Result (List Level) CheckKind
raised s [] = Ok []
raised s (level ∷ outer) = within_height (height_of outer) s >>= λ t. Ok (with_operands level t ∷ outer)

-- the blocks behind the end of the innermost. The outermost stays
abbrev pub closed_in : List Level → Result (List Level) CheckKind
closed_in [] = Ok []
closed_in (level ∷ []) = Ok (level ∷ [])
closed_in (level ∷ (parent ∷ outer)) =
    ended_level level >>= λ s. raised (with_result level.result_type parent.operands) (parent ∷ outer)

-- the blocks behind an instruction with this effect
abbrev pub acted : Effect → List Level → Result (List Level) CheckKind
acted effect [] = Ok []
acted effect (level ∷ outer) = performed effect level.operands >>= λ s. raised s (level ∷ outer)

-- the blocks behind an instruction without a block
abbrev pub effected : Context → Op → List Level → Result (List Level) CheckKind
effected C o blocks = effect_of (context_in C blocks) o >>= λ effect. acted effect blocks

-- the same for an instruction on the whole memory
abbrev pub acted_with_memory : Context → Op → List Level → Result (List Level) CheckKind
acted_with_memory C o blocks = with_memory C.raw (table_effect o) >>= λ effect. acted effect blocks

-- the blocks behind an instruction
abbrev pub step : Context → Op → List Level → Result (List Level) CheckKind
step C (op.Block result) blocks = opened_in levels.Block result blocks
step C (op.Loop result) blocks = opened_in levels.Loop result blocks
step C (op.If result) blocks = opened_if_in result blocks
step C op.Else blocks = else_in blocks
step C op.End blocks = closed_in blocks
step C o blocks = effected C o blocks

-- the blocks behind instructions of which the first has this number
unfoldable pub run : Context → ℕ → List Op → List Level → Result (List Level) BodyFault
run C at [] blocks = Ok blocks
run C at (o ∷ ops) blocks = placed at (step C o blocks) >>= run C (at + 1) ops

-- what a call returned and left is this answer
abbrev pub Leaves : {A B E : Type 0} → Result A E → B → Result B E → Type 0
Leaves (Ok x) left answer = answer ≡ Ok left
Leaves (Err fault) left answer = answer ≡ Err fault

-- the same, unless there was no memory
abbrev pub LeavesOrNoMemory : {A B E : Type 0} → Result A (Failure E) → B → Result B E → Type 0
LeavesOrNoMemory (Ok x) left answer = answer ≡ Ok left
LeavesOrNoMemory (Err failure) left answer = IfFault failure (λ fault. answer ≡ Err fault)

-- what is found of a body when it is read from its front, up to the `end` that ends it
unfoldable pub read_flat : Context → List Op → Result (List Level) BodyFault
read_flat C ops =
    run C 0 (take (length ops - 1) ops) (begun levels.Block C.result ∷ []) >>= λ blocks.
    placed (length ops - 1) (ended_at_top blocks)

-- a body was found so, unless there was no memory
abbrev pub IsFoundFlat : {A : Type 0} → Result A (Failure BodyFaultOfCode) → Result (List Level) BodyFault → Type 0
IsFoundFlat (Ok x) answer = (blocks : List Level) × (answer ≡ Ok blocks)
IsFoundFlat (Err failure) answer = IfFault failure (λ f. answer ≡ Err (record { position = f.position; kind = f.kind }))
