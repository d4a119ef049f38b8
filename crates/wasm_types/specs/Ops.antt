-- Instructions, and what they are without their immediates.
use Rattle.std.specs.Prelude.{ℕ, Option}
use Rattle.wasm_types.specs.declared.val_type.ValType.{ValType}
use Rattle.wasm_types.specs.declared.op.Op.{Op}
use Rattle.wasm_types.specs.declared.op.Op.TheVariants as op
use Rattle.wasm_types.specs.declared.opcode.Opcode.{Opcode}
use Rattle.wasm_types.specs.declared.opcode.Opcode.TheVariants.{Bare, Block, Index, BrTable, CallIndirect, Load, Store, Memory, I32Const, I64Const, Unary, Binary}
use Rattle.wasm_types.specs.declared.opcode.BareOp.{BareOp}
use Rattle.wasm_types.specs.declared.opcode.BareOp.TheVariants as bare
use Rattle.wasm_types.specs.declared.opcode.BlockOp.{BlockOp}
use Rattle.wasm_types.specs.declared.opcode.BlockOp.TheVariants as block
use Rattle.wasm_types.specs.declared.opcode.IndexOp.{IndexOp}
use Rattle.wasm_types.specs.declared.opcode.IndexOp.TheVariants as index
use Rattle.wasm_types.specs.declared.opcode.MemoryOp.{MemoryOp}
use Rattle.wasm_types.specs.declared.opcode.MemoryOp.TheVariants as memory

-- an instruction that has no immediates and computes no number
abbrev pub bare_op : BareOp → Op
bare_op bare.Unreachable = op.Unreachable
bare_op bare.Nop = op.Nop
bare_op bare.Else = op.Else
bare_op bare.End = op.End
bare_op bare.Return = op.Return
bare_op bare.Drop = op.Drop
bare_op bare.Select = op.Select

-- the beginning of a block with this result
abbrev pub block_op : BlockOp → Option ValType → Op
block_op block.Block result = op.Block result
block_op block.Loop result = op.Loop result
block_op block.If result = op.If result

-- an instruction with this index
abbrev pub index_op : IndexOp → ℕ → Op
index_op index.Br n = op.Br n
index_op index.BrIf n = op.BrIf n
index_op index.Call n = op.Call n
index_op index.LocalGet n = op.LocalGet n
index_op index.LocalSet n = op.LocalSet n
index_op index.LocalTee n = op.LocalTee n
index_op index.GlobalGet n = op.GlobalGet n
index_op index.GlobalSet n = op.GlobalSet n

-- an instruction on a whole memory
abbrev pub memory_op : MemoryOp → Op
memory_op memory.Size = op.MemorySize
memory_op memory.Grow = op.MemoryGrow
memory_op memory.Copy = op.MemoryCopy
memory_op memory.Fill = op.MemoryFill

-- an instruction without its immediates
abbrev pub opcode_of : Op → Opcode
opcode_of op.Unreachable = Bare bare.Unreachable
opcode_of op.Nop = Bare bare.Nop
opcode_of (op.Block result) = Block block.Block
opcode_of (op.Loop result) = Block block.Loop
opcode_of (op.If result) = Block block.If
opcode_of op.Else = Bare bare.Else
opcode_of op.End = Bare bare.End
opcode_of (op.Br n) = Index index.Br
opcode_of (op.BrIf n) = Index index.BrIf
opcode_of (op.BrTable default labels) = BrTable
opcode_of op.Return = Bare bare.Return
opcode_of (op.Call n) = Index index.Call
opcode_of (op.CallIndirect n) = CallIndirect
opcode_of op.Drop = Bare bare.Drop
opcode_of op.Select = Bare bare.Select
opcode_of (op.LocalGet n) = Index index.LocalGet
opcode_of (op.LocalSet n) = Index index.LocalSet
opcode_of (op.LocalTee n) = Index index.LocalTee
opcode_of (op.GlobalGet n) = Index index.GlobalGet
opcode_of (op.GlobalSet n) = Index index.GlobalSet
opcode_of (op.Load load arg) = Load load
opcode_of (op.Store store arg) = Store store
opcode_of op.MemorySize = Memory memory.Size
opcode_of op.MemoryGrow = Memory memory.Grow
opcode_of op.MemoryCopy = Memory memory.Copy
opcode_of op.MemoryFill = Memory memory.Fill
opcode_of (op.I32Const n) = I32Const
opcode_of (op.I64Const n) = I64Const
opcode_of (op.Unary unary) = Unary unary
opcode_of (op.Binary binary) = Binary binary
