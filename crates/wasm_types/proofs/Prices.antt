-- What groups of instructions are charged as.
use Rattle.std.proofs.Common.{◌≡◌, Some, refl}
use Rattle.wasm_types.specs.declared.price_class.PriceClass.TheVariants.{Plain, Branch, Access}
use Rattle.wasm_types.specs.declared.opcode.Opcode.TheVariants.{Block, Load, Store, Unary}
use Rattle.wasm_types.specs.declared.opcode.BlockOp.{BlockOp}
use Rattle.wasm_types.specs.declared.opcode.BlockOp.TheVariants as block
use Rattle.wasm_types.specs.declared.number_op.UnOp.{UnOp}
use Rattle.wasm_types.specs.declared.number_op.UnOp.TheVariants as un
use Rattle.wasm_types.specs.declared.access_op.LoadOp.{LoadOp}
use Rattle.wasm_types.specs.declared.access_op.LoadOp.TheVariants as load
use Rattle.wasm_types.specs.declared.access_op.StoreOp.{StoreOp}
use Rattle.wasm_types.specs.declared.access_op.StoreOp.TheVariants as store
use Rattle.wasm_types.specs.Opcodes.{row, price_of}

pub block_price : (op : BlockOp) → Some Branch ≡ price_of (Block op)
unfolding row
block_price block.Block = refl
block_price block.Loop = refl
block_price block.If = refl

pub load_price : (op : LoadOp) → Some Access ≡ price_of (Load op)
unfolding row
load_price load.I32Load = refl
load_price load.I64Load = refl
load_price load.I32Load8S = refl
load_price load.I32Load8U = refl
load_price load.I32Load16S = refl
load_price load.I32Load16U = refl
load_price load.I64Load8S = refl
load_price load.I64Load8U = refl
load_price load.I64Load16S = refl
load_price load.I64Load16U = refl
load_price load.I64Load32S = refl
load_price load.I64Load32U = refl

pub store_price : (op : StoreOp) → Some Access ≡ price_of (Store op)
unfolding row
store_price store.I32Store = refl
store_price store.I64Store = refl
store_price store.I32Store8 = refl
store_price store.I32Store16 = refl
store_price store.I64Store8 = refl
store_price store.I64Store16 = refl
store_price store.I64Store32 = refl

pub unary_price : (op : UnOp) → Some Plain ≡ price_of (Unary op)
unfolding row
unary_price un.I32Eqz = refl
unary_price un.I64Eqz = refl
unary_price un.I32Clz = refl
unary_price un.I32Ctz = refl
unary_price un.I32Popcnt = refl
unary_price un.I64Clz = refl
unary_price un.I64Ctz = refl
unary_price un.I64Popcnt = refl
unary_price un.I32WrapI64 = refl
unary_price un.I64ExtendI32S = refl
unary_price un.I64ExtendI32U = refl
unary_price un.I32Extend8S = refl
unary_price un.I32Extend16S = refl
unary_price un.I64Extend8S = refl
unary_price un.I64Extend16S = refl
unary_price un.I64Extend32S = refl
