-- Groups of instructions whose operands their immediates decide.
use Rattle.std.proofs.Common.{◌≡◌, None, refl}
use Rattle.wasm_types.specs.declared.opcode.Opcode.TheVariants.{Block, Index}
use Rattle.wasm_types.specs.declared.opcode.BlockOp.{BlockOp}
use Rattle.wasm_types.specs.declared.opcode.BlockOp.TheVariants as block
use Rattle.wasm_types.specs.declared.opcode.IndexOp.{IndexOp}
use Rattle.wasm_types.specs.declared.opcode.IndexOp.TheVariants as index
use Rattle.wasm_types.specs.Opcodes.{row, typing_of}

pub block_typing : (op : BlockOp) → typing_of (Block op) ≡ None
unfolding row
block_typing block.Block = refl
block_typing block.Loop = refl
block_typing block.If = refl

pub index_typing : (op : IndexOp) → typing_of (Index op) ≡ None
unfolding row
index_typing index.Br = refl
index_typing index.BrIf = refl
index_typing index.Call = refl
index_typing index.LocalGet = refl
index_typing index.LocalSet = refl
index_typing index.LocalTee = refl
index_typing index.GlobalGet = refl
index_typing index.GlobalSet = refl
