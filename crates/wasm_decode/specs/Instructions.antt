-- Instructions and expressions (WebAssembly 1.0, section 5.4; WebAssembly 2.0 for sign extension, `memory.copy` and
-- `memory.fill`).
use Rattle.std.specs.Prelude.{◌≡◌, ℕ, ◌-◌, ◌^◌, Bool, true, false, List, [], ◌∷◌}
use Rattle.wasm_types.specs.declared.op.Op.{Op}
use Rattle.wasm_types.specs.declared.op.Op.TheVariants as op
use Rattle.wasm_types.specs.Opcodes.{Code, byte, prefixed, code_of}
use Rattle.wasm_types.specs.Ops.{opcode_of}
use Rattle.wasm_decode.specs.declared.expression.Turn.{Turn}
use Rattle.wasm_decode.specs.declared.expression.Turn.TheVariants as turns
use Rattle.wasm_decode.specs.Layout.{◌⨾◌, Just, SpellsAll, SpellsVectorUpTo}
use Rattle.wasm_decode.specs.Types.{SpellsBlockType}
use Rattle.wasm_decode.specs.Values.{SpellsU32, SpellsI32, SpellsI64}

-- an opcode
abbrev pub SpellsCode : Code → List ℕ → Type 0
SpellsCode (byte b) = Just (b ∷ [])
SpellsCode (prefixed n) = Just (0xfc ∷ []) ⨾ SpellsU32 n

-- the immediates of an instruction. A table or memory number is 0
abbrev pub SpellsImmediates : Op → List ℕ → Type 0
SpellsImmediates (op.Block result) = SpellsBlockType result
SpellsImmediates (op.Loop result) = SpellsBlockType result
SpellsImmediates (op.If result) = SpellsBlockType result
SpellsImmediates (op.Br label) = SpellsU32 label
SpellsImmediates (op.BrIf label) = SpellsU32 label
SpellsImmediates (op.BrTable default labels) = SpellsVectorUpTo (2 ^ 32 - 1) SpellsU32 labels ⨾ SpellsU32 default
SpellsImmediates (op.Call function) = SpellsU32 function
SpellsImmediates (op.CallIndirect type_index) = SpellsU32 type_index ⨾ SpellsU32 0
SpellsImmediates (op.LocalGet index) = SpellsU32 index
SpellsImmediates (op.LocalSet index) = SpellsU32 index
SpellsImmediates (op.LocalTee index) = SpellsU32 index
SpellsImmediates (op.GlobalGet index) = SpellsU32 index
SpellsImmediates (op.GlobalSet index) = SpellsU32 index
SpellsImmediates (op.Load load arg) = SpellsU32 arg.align ⨾ SpellsU32 arg.offset
SpellsImmediates (op.Store store arg) = SpellsU32 arg.align ⨾ SpellsU32 arg.offset
SpellsImmediates op.MemorySize = SpellsU32 0
SpellsImmediates op.MemoryGrow = SpellsU32 0
SpellsImmediates op.MemoryCopy = SpellsU32 0 ⨾ SpellsU32 0
SpellsImmediates op.MemoryFill = SpellsU32 0
SpellsImmediates (op.I32Const n) = SpellsI32 n
SpellsImmediates (op.I64Const n) = SpellsI64 n
SpellsImmediates _ = Just []

-- an instruction
abbrev pub SpellsInstruction : Op → List ℕ → Type 0
SpellsInstruction o = SpellsCode (code_of (opcode_of o)) ⨾ SpellsImmediates o

-- the blocks that are open, innermost first, each with whether it is an `if` that may have an `else`
abbrev pub Opened : Type 0
Opened = List Bool

-- where an instruction leaves the blocks: so many are open, the outermost ended, or it cannot stand there
pub data Nesting : Type 0 where
  inside : Opened → Nesting
  ended : Nesting
  misplaced : Nesting

-- the blocks behind an `else`
abbrev pub behind_else : Opened → Nesting
behind_else (true ∷ opened) = inside (false ∷ opened)
behind_else (false ∷ opened) = misplaced
behind_else [] = misplaced

-- the blocks behind an `end`
abbrev pub behind_end : Opened → Nesting
behind_end (first ∷ opened) = inside opened
behind_end [] = ended

-- what an instruction does to the blocks
abbrev pub turn_of : Op → Turn
turn_of (op.Block result) = turns.Opens false
turn_of (op.Loop result) = turns.Opens false
turn_of (op.If result) = turns.Opens true
turn_of op.Else = turns.Else
turn_of op.End = turns.End
turn_of _ = turns.Stays

-- the blocks behind it
abbrev pub turned : Turn → Opened → Nesting
turned (turns.Opens may_else) opened = inside (may_else ∷ opened)
turned turns.Else opened = behind_else opened
turned turns.End opened = behind_end opened
turned turns.Stays opened = inside opened

-- the blocks behind an instruction
abbrev pub behind : Op → Opened → Nesting
behind o opened = turned (turn_of o) opened

-- instructions behind one: others that go on inside blocks, or none where the outermost block ended
abbrev pub IsContinued : Nesting → List Op → (Opened → Type 0) → Type 0
IsContinued (inside opened) ops GoesOn = GoesOn opened
IsContinued ended ops GoesOn = ops ≡ []
IsContinued misplaced ops GoesOn = ⊥

-- instructions that end the outermost block with the last of them
abbrev pub IsNested : Opened → List Op → Type 0
IsNested opened [] = ⊥
IsNested opened (o ∷ ops) = IsContinued (behind o opened) ops (λ more. IsNested more ops)

-- an expression: instructions up to the `end` of the outermost block
abbrev pub SpellsExpression : List Op → List ℕ → Type 0
SpellsExpression ops bytes = IsNested [] ops × SpellsAll SpellsInstruction ops bytes
