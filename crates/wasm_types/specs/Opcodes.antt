-- The table of opcodes (WebAssembly 1.0, section 5.4 and appendix A.2; WebAssembly 2.0 for sign extension,
-- `memory.copy` and `memory.fill`).
use Rattle.std.specs.Prelude.{◌≡◌, ◌≢◌, ℕ, Bool, true, false, not, ◌&&◌, ◌||◌, nat_lt, ◌==◌, if◌then◌else◌, List, [], ◌∷◌, Option, Some, None, slice_index_or}
use Rattle.wasm_types.specs.declared.val_type.ValType.{ValType}
use Rattle.wasm_types.specs.declared.val_type.ValType.TheVariants.{I32, I64}
use Rattle.wasm_types.specs.declared.func_type.FuncType.{FuncType}
use Rattle.wasm_types.specs.declared.price_class.PriceClass.{PriceClass}
use Rattle.wasm_types.specs.declared.price_class.PriceClass.TheVariants as price
use Rattle.wasm_types.specs.declared.number_op.UnOp.TheVariants as un
use Rattle.wasm_types.specs.declared.number_op.BinOp.TheVariants as bin
use Rattle.wasm_types.specs.declared.access_op.LoadOp.TheVariants as load
use Rattle.wasm_types.specs.declared.access_op.StoreOp.TheVariants as store
use Rattle.wasm_types.specs.declared.opcode.Opcode.{Opcode}
use Rattle.wasm_types.specs.declared.opcode.Opcode.TheVariants.{Bare, Block, Index, BrTable, CallIndirect, Load, Store, Memory, I32Const, I64Const, Unary, Binary}
use Rattle.wasm_types.specs.declared.opcode.BareOp.TheVariants as bare
use Rattle.wasm_types.specs.declared.opcode.BlockOp.TheVariants as block
use Rattle.wasm_types.specs.declared.opcode.IndexOp.TheVariants as index
use Rattle.wasm_types.specs.declared.opcode.MemoryOp.TheVariants as memory
use Rattle.wasm_types.specs.declared.opcode_table.OpcodeEntry.{OpcodeEntry}
use Rattle.wasm_types.specs.declared.opcode_table.OpcodeEntry.TheVariants.{Known, Prefix, Float, Unknown}
use Rattle.wasm_types.specs.declared.opcode_table.TheConstants.{OPCODES}

-- how an opcode is spelled: by a byte, or by the byte fc and a number
pub data Code : Type 0 where
  byte : ℕ → Code
  prefixed : ℕ → Code

-- what the table says of an instruction: its opcode; what it is charged as, if it costs anything; and its operands and
-- result, where its immediates and its place have no part in them
pub record OpcodeRow : Type 0 where
  pub code : Code
  pub price : Option PriceClass
  pub typing : Option FuncType

-- operands, the first one deepest, and a result
abbrev pub takes_gives : List ValType → Option ValType → Option FuncType
takes_gives takes gives = Some (record { params = takes; result = gives })

-- the table of opcodes
unfoldable pub row : Opcode → OpcodeRow
row (Bare bare.Unreachable) = record { code = byte 0x00; price = Some price.Plain; typing = None }
row (Bare bare.Nop) = record { code = byte 0x01; price = Some price.Plain; typing = takes_gives ([]) None }
row (Block block.Block) = record { code = byte 0x02; price = Some price.Branch; typing = None }
row (Block block.Loop) = record { code = byte 0x03; price = Some price.Branch; typing = None }
row (Block block.If) = record { code = byte 0x04; price = Some price.Branch; typing = None }
row (Bare bare.Else) = record { code = byte 0x05; price = None; typing = None }
row (Bare bare.End) = record { code = byte 0x0b; price = None; typing = None }
row (Index index.Br) = record { code = byte 0x0c; price = Some price.Branch; typing = None }
row (Index index.BrIf) = record { code = byte 0x0d; price = Some price.Branch; typing = None }
row BrTable = record { code = byte 0x0e; price = Some price.Branch; typing = None }
row (Bare bare.Return) = record { code = byte 0x0f; price = Some price.Branch; typing = None }
row (Index index.Call) = record { code = byte 0x10; price = Some price.Invoke; typing = None }
row CallIndirect = record { code = byte 0x11; price = Some price.Invoke; typing = None }
row (Bare bare.Drop) = record { code = byte 0x1a; price = Some price.Plain; typing = None }
row (Bare bare.Select) = record { code = byte 0x1b; price = Some price.Plain; typing = None }
row (Index index.LocalGet) = record { code = byte 0x20; price = Some price.Plain; typing = None }
row (Index index.LocalSet) = record { code = byte 0x21; price = Some price.Plain; typing = None }
row (Index index.LocalTee) = record { code = byte 0x22; price = Some price.Plain; typing = None }
row (Index index.GlobalGet) = record { code = byte 0x23; price = Some price.Plain; typing = None }
row (Index index.GlobalSet) = record { code = byte 0x24; price = Some price.Plain; typing = None }
row (Load load.I32Load) = record { code = byte 0x28; price = Some price.Access; typing = takes_gives (I32 ∷ []) (Some I32) }
row (Load load.I64Load) = record { code = byte 0x29; price = Some price.Access; typing = takes_gives (I32 ∷ []) (Some I64) }
row (Load load.I32Load8S) = record { code = byte 0x2c; price = Some price.Access; typing = takes_gives (I32 ∷ []) (Some I32) }
row (Load load.I32Load8U) = record { code = byte 0x2d; price = Some price.Access; typing = takes_gives (I32 ∷ []) (Some I32) }
row (Load load.I32Load16S) = record { code = byte 0x2e; price = Some price.Access; typing = takes_gives (I32 ∷ []) (Some I32) }
row (Load load.I32Load16U) = record { code = byte 0x2f; price = Some price.Access; typing = takes_gives (I32 ∷ []) (Some I32) }
row (Load load.I64Load8S) = record { code = byte 0x30; price = Some price.Access; typing = takes_gives (I32 ∷ []) (Some I64) }
row (Load load.I64Load8U) = record { code = byte 0x31; price = Some price.Access; typing = takes_gives (I32 ∷ []) (Some I64) }
row (Load load.I64Load16S) = record { code = byte 0x32; price = Some price.Access; typing = takes_gives (I32 ∷ []) (Some I64) }
row (Load load.I64Load16U) = record { code = byte 0x33; price = Some price.Access; typing = takes_gives (I32 ∷ []) (Some I64) }
row (Load load.I64Load32S) = record { code = byte 0x34; price = Some price.Access; typing = takes_gives (I32 ∷ []) (Some I64) }
row (Load load.I64Load32U) = record { code = byte 0x35; price = Some price.Access; typing = takes_gives (I32 ∷ []) (Some I64) }
row (Store store.I32Store) = record { code = byte 0x36; price = Some price.Access; typing = takes_gives (I32 ∷ I32 ∷ []) None }
row (Store store.I64Store) = record { code = byte 0x37; price = Some price.Access; typing = takes_gives (I32 ∷ I64 ∷ []) None }
row (Store store.I32Store8) = record { code = byte 0x3a; price = Some price.Access; typing = takes_gives (I32 ∷ I32 ∷ []) None }
row (Store store.I32Store16) = record { code = byte 0x3b; price = Some price.Access; typing = takes_gives (I32 ∷ I32 ∷ []) None }
row (Store store.I64Store8) = record { code = byte 0x3c; price = Some price.Access; typing = takes_gives (I32 ∷ I64 ∷ []) None }
row (Store store.I64Store16) = record { code = byte 0x3d; price = Some price.Access; typing = takes_gives (I32 ∷ I64 ∷ []) None }
row (Store store.I64Store32) = record { code = byte 0x3e; price = Some price.Access; typing = takes_gives (I32 ∷ I64 ∷ []) None }
row (Memory memory.Size) = record { code = byte 0x3f; price = Some price.Plain; typing = takes_gives ([]) (Some I32) }
row (Memory memory.Grow) = record { code = byte 0x40; price = Some price.Grow; typing = takes_gives (I32 ∷ []) (Some I32) }
row I32Const = record { code = byte 0x41; price = Some price.Plain; typing = takes_gives ([]) (Some I32) }
row I64Const = record { code = byte 0x42; price = Some price.Plain; typing = takes_gives ([]) (Some I64) }
row (Unary un.I32Eqz) = record { code = byte 0x45; price = Some price.Plain; typing = takes_gives (I32 ∷ []) (Some I32) }
row (Binary bin.I32Eq) = record { code = byte 0x46; price = Some price.Plain; typing = takes_gives (I32 ∷ I32 ∷ []) (Some I32) }
row (Binary bin.I32Ne) = record { code = byte 0x47; price = Some price.Plain; typing = takes_gives (I32 ∷ I32 ∷ []) (Some I32) }
row (Binary bin.I32LtS) = record { code = byte 0x48; price = Some price.Plain; typing = takes_gives (I32 ∷ I32 ∷ []) (Some I32) }
row (Binary bin.I32LtU) = record { code = byte 0x49; price = Some price.Plain; typing = takes_gives (I32 ∷ I32 ∷ []) (Some I32) }
row (Binary bin.I32GtS) = record { code = byte 0x4a; price = Some price.Plain; typing = takes_gives (I32 ∷ I32 ∷ []) (Some I32) }
row (Binary bin.I32GtU) = record { code = byte 0x4b; price = Some price.Plain; typing = takes_gives (I32 ∷ I32 ∷ []) (Some I32) }
row (Binary bin.I32LeS) = record { code = byte 0x4c; price = Some price.Plain; typing = takes_gives (I32 ∷ I32 ∷ []) (Some I32) }
row (Binary bin.I32LeU) = record { code = byte 0x4d; price = Some price.Plain; typing = takes_gives (I32 ∷ I32 ∷ []) (Some I32) }
row (Binary bin.I32GeS) = record { code = byte 0x4e; price = Some price.Plain; typing = takes_gives (I32 ∷ I32 ∷ []) (Some I32) }
row (Binary bin.I32GeU) = record { code = byte 0x4f; price = Some price.Plain; typing = takes_gives (I32 ∷ I32 ∷ []) (Some I32) }
row (Unary un.I64Eqz) = record { code = byte 0x50; price = Some price.Plain; typing = takes_gives (I64 ∷ []) (Some I32) }
row (Binary bin.I64Eq) = record { code = byte 0x51; price = Some price.Plain; typing = takes_gives (I64 ∷ I64 ∷ []) (Some I32) }
row (Binary bin.I64Ne) = record { code = byte 0x52; price = Some price.Plain; typing = takes_gives (I64 ∷ I64 ∷ []) (Some I32) }
row (Binary bin.I64LtS) = record { code = byte 0x53; price = Some price.Plain; typing = takes_gives (I64 ∷ I64 ∷ []) (Some I32) }
row (Binary bin.I64LtU) = record { code = byte 0x54; price = Some price.Plain; typing = takes_gives (I64 ∷ I64 ∷ []) (Some I32) }
row (Binary bin.I64GtS) = record { code = byte 0x55; price = Some price.Plain; typing = takes_gives (I64 ∷ I64 ∷ []) (Some I32) }
row (Binary bin.I64GtU) = record { code = byte 0x56; price = Some price.Plain; typing = takes_gives (I64 ∷ I64 ∷ []) (Some I32) }
row (Binary bin.I64LeS) = record { code = byte 0x57; price = Some price.Plain; typing = takes_gives (I64 ∷ I64 ∷ []) (Some I32) }
row (Binary bin.I64LeU) = record { code = byte 0x58; price = Some price.Plain; typing = takes_gives (I64 ∷ I64 ∷ []) (Some I32) }
row (Binary bin.I64GeS) = record { code = byte 0x59; price = Some price.Plain; typing = takes_gives (I64 ∷ I64 ∷ []) (Some I32) }
row (Binary bin.I64GeU) = record { code = byte 0x5a; price = Some price.Plain; typing = takes_gives (I64 ∷ I64 ∷ []) (Some I32) }
row (Unary un.I32Clz) = record { code = byte 0x67; price = Some price.Plain; typing = takes_gives (I32 ∷ []) (Some I32) }
row (Unary un.I32Ctz) = record { code = byte 0x68; price = Some price.Plain; typing = takes_gives (I32 ∷ []) (Some I32) }
row (Unary un.I32Popcnt) = record { code = byte 0x69; price = Some price.Plain; typing = takes_gives (I32 ∷ []) (Some I32) }
row (Binary bin.I32Add) = record { code = byte 0x6a; price = Some price.Plain; typing = takes_gives (I32 ∷ I32 ∷ []) (Some I32) }
row (Binary bin.I32Sub) = record { code = byte 0x6b; price = Some price.Plain; typing = takes_gives (I32 ∷ I32 ∷ []) (Some I32) }
row (Binary bin.I32Mul) = record { code = byte 0x6c; price = Some price.MulDiv; typing = takes_gives (I32 ∷ I32 ∷ []) (Some I32) }
row (Binary bin.I32DivS) = record { code = byte 0x6d; price = Some price.MulDiv; typing = takes_gives (I32 ∷ I32 ∷ []) (Some I32) }
row (Binary bin.I32DivU) = record { code = byte 0x6e; price = Some price.MulDiv; typing = takes_gives (I32 ∷ I32 ∷ []) (Some I32) }
row (Binary bin.I32RemS) = record { code = byte 0x6f; price = Some price.MulDiv; typing = takes_gives (I32 ∷ I32 ∷ []) (Some I32) }
row (Binary bin.I32RemU) = record { code = byte 0x70; price = Some price.MulDiv; typing = takes_gives (I32 ∷ I32 ∷ []) (Some I32) }
row (Binary bin.I32And) = record { code = byte 0x71; price = Some price.Plain; typing = takes_gives (I32 ∷ I32 ∷ []) (Some I32) }
row (Binary bin.I32Or) = record { code = byte 0x72; price = Some price.Plain; typing = takes_gives (I32 ∷ I32 ∷ []) (Some I32) }
row (Binary bin.I32Xor) = record { code = byte 0x73; price = Some price.Plain; typing = takes_gives (I32 ∷ I32 ∷ []) (Some I32) }
row (Binary bin.I32Shl) = record { code = byte 0x74; price = Some price.Plain; typing = takes_gives (I32 ∷ I32 ∷ []) (Some I32) }
row (Binary bin.I32ShrS) = record { code = byte 0x75; price = Some price.Plain; typing = takes_gives (I32 ∷ I32 ∷ []) (Some I32) }
row (Binary bin.I32ShrU) = record { code = byte 0x76; price = Some price.Plain; typing = takes_gives (I32 ∷ I32 ∷ []) (Some I32) }
row (Binary bin.I32Rotl) = record { code = byte 0x77; price = Some price.Plain; typing = takes_gives (I32 ∷ I32 ∷ []) (Some I32) }
row (Binary bin.I32Rotr) = record { code = byte 0x78; price = Some price.Plain; typing = takes_gives (I32 ∷ I32 ∷ []) (Some I32) }
row (Unary un.I64Clz) = record { code = byte 0x79; price = Some price.Plain; typing = takes_gives (I64 ∷ []) (Some I64) }
row (Unary un.I64Ctz) = record { code = byte 0x7a; price = Some price.Plain; typing = takes_gives (I64 ∷ []) (Some I64) }
row (Unary un.I64Popcnt) = record { code = byte 0x7b; price = Some price.Plain; typing = takes_gives (I64 ∷ []) (Some I64) }
row (Binary bin.I64Add) = record { code = byte 0x7c; price = Some price.Plain; typing = takes_gives (I64 ∷ I64 ∷ []) (Some I64) }
row (Binary bin.I64Sub) = record { code = byte 0x7d; price = Some price.Plain; typing = takes_gives (I64 ∷ I64 ∷ []) (Some I64) }
row (Binary bin.I64Mul) = record { code = byte 0x7e; price = Some price.MulDiv; typing = takes_gives (I64 ∷ I64 ∷ []) (Some I64) }
row (Binary bin.I64DivS) = record { code = byte 0x7f; price = Some price.MulDiv; typing = takes_gives (I64 ∷ I64 ∷ []) (Some I64) }
row (Binary bin.I64DivU) = record { code = byte 0x80; price = Some price.MulDiv; typing = takes_gives (I64 ∷ I64 ∷ []) (Some I64) }
row (Binary bin.I64RemS) = record { code = byte 0x81; price = Some price.MulDiv; typing = takes_gives (I64 ∷ I64 ∷ []) (Some I64) }
row (Binary bin.I64RemU) = record { code = byte 0x82; price = Some price.MulDiv; typing = takes_gives (I64 ∷ I64 ∷ []) (Some I64) }
row (Binary bin.I64And) = record { code = byte 0x83; price = Some price.Plain; typing = takes_gives (I64 ∷ I64 ∷ []) (Some I64) }
row (Binary bin.I64Or) = record { code = byte 0x84; price = Some price.Plain; typing = takes_gives (I64 ∷ I64 ∷ []) (Some I64) }
row (Binary bin.I64Xor) = record { code = byte 0x85; price = Some price.Plain; typing = takes_gives (I64 ∷ I64 ∷ []) (Some I64) }
row (Binary bin.I64Shl) = record { code = byte 0x86; price = Some price.Plain; typing = takes_gives (I64 ∷ I64 ∷ []) (Some I64) }
row (Binary bin.I64ShrS) = record { code = byte 0x87; price = Some price.Plain; typing = takes_gives (I64 ∷ I64 ∷ []) (Some I64) }
row (Binary bin.I64ShrU) = record { code = byte 0x88; price = Some price.Plain; typing = takes_gives (I64 ∷ I64 ∷ []) (Some I64) }
row (Binary bin.I64Rotl) = record { code = byte 0x89; price = Some price.Plain; typing = takes_gives (I64 ∷ I64 ∷ []) (Some I64) }
row (Binary bin.I64Rotr) = record { code = byte 0x8a; price = Some price.Plain; typing = takes_gives (I64 ∷ I64 ∷ []) (Some I64) }
row (Unary un.I32WrapI64) = record { code = byte 0xa7; price = Some price.Plain; typing = takes_gives (I64 ∷ []) (Some I32) }
row (Unary un.I64ExtendI32S) = record { code = byte 0xac; price = Some price.Plain; typing = takes_gives (I32 ∷ []) (Some I64) }
row (Unary un.I64ExtendI32U) = record { code = byte 0xad; price = Some price.Plain; typing = takes_gives (I32 ∷ []) (Some I64) }
row (Unary un.I32Extend8S) = record { code = byte 0xc0; price = Some price.Plain; typing = takes_gives (I32 ∷ []) (Some I32) }
row (Unary un.I32Extend16S) = record { code = byte 0xc1; price = Some price.Plain; typing = takes_gives (I32 ∷ []) (Some I32) }
row (Unary un.I64Extend8S) = record { code = byte 0xc2; price = Some price.Plain; typing = takes_gives (I64 ∷ []) (Some I64) }
row (Unary un.I64Extend16S) = record { code = byte 0xc3; price = Some price.Plain; typing = takes_gives (I64 ∷ []) (Some I64) }
row (Unary un.I64Extend32S) = record { code = byte 0xc4; price = Some price.Plain; typing = takes_gives (I64 ∷ []) (Some I64) }
row (Memory memory.Copy) = record { code = prefixed 10; price = Some price.Bulk; typing = takes_gives (I32 ∷ I32 ∷ I32 ∷ []) None }
row (Memory memory.Fill) = record { code = prefixed 11; price = Some price.Bulk; typing = takes_gives (I32 ∷ I32 ∷ I32 ∷ []) None }

-- the opcode of an instruction, what it is charged as, and its operands and result
abbrev pub code_of : Opcode → Code
code_of opcode = (row opcode).code

abbrev pub price_of : Opcode → Option PriceClass
price_of opcode = (row opcode).price

abbrev pub typing_of : Opcode → Option FuncType
typing_of opcode = (row opcode).typing

-- a number in a range
abbrev pub is_in : ℕ → ℕ → ℕ → Bool
is_in from upto n = not (nat_lt n from) && not (nat_lt upto n)

-- whether an opcode is that of an instruction on floating-point numbers
abbrev pub is_float : Code → Bool
is_float (byte b) =
    is_in 0x2a 0x2b b || is_in 0x38 0x39 b || is_in 0x43 0x44 b || is_in 0x5b 0x66 b || is_in 0x8b 0xa6 b || is_in 0xa8 0xab b || is_in 0xae 0xbf b
is_float (prefixed n) = nat_lt n 8

-- what an opcode is
abbrev pub IsEntry : Code → OpcodeEntry → Type 0
IsEntry code (Known opcode) = code_of opcode ≡ code
IsEntry code Prefix = code ≡ byte 0xfc
IsEntry code Float = is_float code ≡ true
IsEntry code Unknown = (code ≢ byte 0xfc) × (is_float code ≡ false) × ((opcode : Opcode) → code_of opcode ≢ code)

-- the same as a function, for a byte by the code's table
unfoldable pub entry_of : Code → OpcodeEntry
entry_of (byte b) = slice_index_or OPCODES b Unknown
entry_of (prefixed n) =
    if nat_lt n 8 then Float
    else (if n == 10 then Known (Memory memory.Copy)
    else (if n == 11 then Known (Memory memory.Fill)
    else Unknown))
