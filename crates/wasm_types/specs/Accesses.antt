-- What loads and stores move (WebAssembly 1.0, section 2.4.4).
use Rattle.std.specs.Prelude.{ℕ, Bool, true, false}
use Rattle.wasm_types.specs.declared.access_op.LoadOp.{LoadOp}
use Rattle.wasm_types.specs.declared.access_op.LoadOp.TheVariants as load
use Rattle.wasm_types.specs.declared.access_op.StoreOp.{StoreOp}
use Rattle.wasm_types.specs.declared.access_op.StoreOp.TheVariants as store

-- how many bytes a load takes, and whether it extends them by the sign
abbrev pub load_row : LoadOp → ℕ × Bool
load_row load.I32Load = (4, false)
load_row load.I64Load = (8, false)
load_row load.I32Load8S = (1, true)
load_row load.I32Load8U = (1, false)
load_row load.I32Load16S = (2, true)
load_row load.I32Load16U = (2, false)
load_row load.I64Load8S = (1, true)
load_row load.I64Load8U = (1, false)
load_row load.I64Load16S = (2, true)
load_row load.I64Load16U = (2, false)
load_row load.I64Load32S = (4, true)
load_row load.I64Load32U = (4, false)

-- how many bytes a load takes
abbrev pub load_width : LoadOp → ℕ
load_width op = (load_row op).0

-- whether a load extends what it takes by the sign
abbrev pub extends_sign : LoadOp → Bool
extends_sign op = (load_row op).1

-- how many bytes a store writes
abbrev pub store_width : StoreOp → ℕ
store_width store.I32Store = 4
store_width store.I64Store = 8
store_width store.I32Store8 = 1
store_width store.I32Store16 = 2
store_width store.I64Store8 = 1
store_width store.I64Store16 = 2
store_width store.I64Store32 = 4
