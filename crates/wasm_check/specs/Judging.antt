-- The code of a body: its first fault, or the operands that it leaves (WebAssembly 1.0, section 3.3, with two limits).
use Rattle.std.specs.Prelude.{ℕ, ◌+◌, nat_lt, if◌then◌else◌, [], ◌∷◌, length, Option, None, Result, Ok, Err}
use Rattle.wasm_types.specs.declared.val_type.ValType.{ValType}
use Rattle.wasm_types.specs.declared.val_type.ValType.TheVariants.{I32}
use Rattle.wasm_types.specs.declared.op.Op.{Op}
use Rattle.wasm_check.specs.declared.fault.CheckKind.{CheckKind}
use Rattle.wasm_check.specs.declared.fault.CheckKind.TheVariants as kinds
use Rattle.wasm_check.specs.declared.limits.TheConstants.{MOST_HEIGHT, MOST_NESTING}
use Rattle.wasm_check.specs.Code.{Code, done, plain, in_block, in_loop, in_if, in_if_else, size}
use Rattle.wasm_check.specs.Effects.{Context, effect_of, performed}
use Rattle.wasm_check.specs.Operands.{OperandStack, no_operands, ended, ended_alone, taken, with_result}
use Rattle.wasm_check.specs.Results.{◌>>=◌}

-- a fault in a body: its kind, and the number of the instruction
pub record BodyFault : Type 0 where
  pub position : ℕ
  pub kind : CheckKind

-- a fault of the instruction of this number
abbrev pub placed : {A : Type 0} → ℕ → Result A CheckKind → Result A BodyFault
placed position (Ok x) = Ok x
placed position (Err kind) = Err (record { position = position; kind = kind })

-- not too many operands, those of the blocks around, so many, with them
abbrev pub within_height : ℕ → OperandStack → Result OperandStack CheckKind
within_height below s = if nat_lt MOST_HEIGHT (length s.kept + below) then Err kinds.Height else Ok s

-- behind an instruction without a block
abbrev pub stepped : Context → ℕ → Op → OperandStack → Result OperandStack CheckKind
stepped C below o s = effect_of C o >>= λ effect. (performed effect s >>= within_height below)

-- where one block more may be open. The function's label is no block's
abbrev pub opened : Context → OperandStack → Result OperandStack CheckKind
opened C s = if nat_lt MOST_NESTING (length C.labels) then Err kinds.Nesting else Ok s

-- the same for an `if`, which takes its condition
abbrev pub opened_if : Context → OperandStack → Result OperandStack CheckKind
opened_if C s = opened C s >>= taken (I32 ∷ [])

-- inside a block whose label asks for this
abbrev pub inside : Context → Option ValType → Context
inside C label = record { raw = C.raw; locals = C.locals; result = C.result; labels = label ∷ C.labels }

-- behind a block with this result
abbrev pub behind_block : ℕ → Option ValType → OperandStack → OperandStack → Result OperandStack CheckKind
behind_block below result s rest = within_height below (with_result result s)

-- the operands behind code whose first instruction has this number
unfoldable pub judge : Context → ℕ → ℕ → Code → OperandStack → Result OperandStack BodyFault
judge C below at done s = Ok s
judge C below at (plain o rest) s = placed at (stepped C below o s) >>= judge C below (at + 1) rest
judge C below at (in_block result body rest) s =
    placed at (opened C s) >>= λ outside.
    (judge (inside C result) (length outside.kept + below) (at + 1) body no_operands >>= λ t.
    (placed (at + 1 + size body) (ended result t >>= behind_block below result outside) >>=
    judge C below (at + 2 + size body) rest))
judge C below at (in_loop result body rest) s =
    placed at (opened C s) >>= λ outside.
    (judge (inside C None) (length outside.kept + below) (at + 1) body no_operands >>= λ t.
    (placed (at + 1 + size body) (ended result t >>= behind_block below result outside) >>=
    judge C below (at + 2 + size body) rest))
judge C below at (in_if result body rest) s =
    placed at (opened_if C s) >>= λ outside.
    (judge (inside C result) (length outside.kept + below) (at + 1) body no_operands >>= λ t.
    (placed (at + 1 + size body) (ended_alone result t >>= behind_block below result outside) >>=
    judge C below (at + 2 + size body) rest))
judge C below at (in_if_else result first second rest) s =
    placed at (opened_if C s) >>= λ outside.
    (judge (inside C result) (length outside.kept + below) (at + 1) first no_operands >>= λ t.
    (placed (at + 1 + size first) (ended result t) >>= λ u.
    (judge (inside C result) (length outside.kept + below) (at + 2 + size first) second no_operands >>= λ v.
    (placed (at + 2 + size first + size second) (ended result v >>= behind_block below result outside) >>=
    judge C below (at + 3 + size first + size second) rest))))

-- a whole body, whose `end` stands behind its code
unfoldable pub judged : Context → Code → Result OperandStack BodyFault
judged C code = judge C 0 0 code no_operands >>= λ s. placed (size code) (ended C.result s)
