-- The table of the code is that of the definition.
use Rattle.std.proofs.Common.{◌≡◌, ◌≢◌, ℕ, ◌<◌, ◌≤◌, Bool, true, false, not, ◌&&◌, ◌==◌, nat_lt, if◌then◌else◌, get_or, refl, sym, ap, ◌∙◌}
use Rattle.std.proofs.lemmas.List.{get_or_past}
use Rattle.std.proofs.lemmas.Bool.{agree_below_at, eqb-true, eqb-false, and_parts, not-true, false≢true, both_ways}
use Rattle.wasm_types.specs.declared.opcode.Opcode.{Opcode}
use Rattle.wasm_types.specs.declared.opcode.Opcode.TheVariants.{Bare, Block, Index, BrTable, CallIndirect, Load, Store, Memory, I32Const, I64Const, Unary, Binary}
use Rattle.wasm_types.specs.declared.opcode.BareOp.TheVariants as bare
use Rattle.wasm_types.specs.declared.opcode.BlockOp.TheVariants as block
use Rattle.wasm_types.specs.declared.opcode.IndexOp.TheVariants as index
use Rattle.wasm_types.specs.declared.opcode.MemoryOp.TheVariants as memory
use Rattle.wasm_types.specs.declared.number_op.UnOp.TheVariants as un
use Rattle.wasm_types.specs.declared.number_op.BinOp.TheVariants as bin
use Rattle.wasm_types.specs.declared.access_op.LoadOp.TheVariants as load
use Rattle.wasm_types.specs.declared.access_op.StoreOp.TheVariants as store
use Rattle.wasm_types.specs.declared.opcode_table.OpcodeEntry.{OpcodeEntry}
use Rattle.wasm_types.specs.declared.opcode_table.OpcodeEntry.TheVariants.{Known, Prefix, Float, Unknown}
use Rattle.wasm_types.specs.declared.opcode_table.TheConstants.{OPCODES}
use Rattle.wasm_types.specs.Opcodes.{Code, byte, prefixed, row, code_of, is_float, IsEntry, entry_of}

-- an instruction is found at its opcode, which is not one of a float instruction
pub found_at_code : (opcode : Opcode) → (entry_of (code_of opcode) ≡ Known opcode) × (is_float (code_of opcode) ≡ false)
unfolding row entry_of
found_at_code (Bare bare.Unreachable) = (refl, refl)
found_at_code (Bare bare.Nop) = (refl, refl)
found_at_code (Block block.Block) = (refl, refl)
found_at_code (Block block.Loop) = (refl, refl)
found_at_code (Block block.If) = (refl, refl)
found_at_code (Bare bare.Else) = (refl, refl)
found_at_code (Bare bare.End) = (refl, refl)
found_at_code (Index index.Br) = (refl, refl)
found_at_code (Index index.BrIf) = (refl, refl)
found_at_code BrTable = (refl, refl)
found_at_code (Bare bare.Return) = (refl, refl)
found_at_code (Index index.Call) = (refl, refl)
found_at_code CallIndirect = (refl, refl)
found_at_code (Bare bare.Drop) = (refl, refl)
found_at_code (Bare bare.Select) = (refl, refl)
found_at_code (Index index.LocalGet) = (refl, refl)
found_at_code (Index index.LocalSet) = (refl, refl)
found_at_code (Index index.LocalTee) = (refl, refl)
found_at_code (Index index.GlobalGet) = (refl, refl)
found_at_code (Index index.GlobalSet) = (refl, refl)
found_at_code (Load load.I32Load) = (refl, refl)
found_at_code (Load load.I64Load) = (refl, refl)
found_at_code (Load load.I32Load8S) = (refl, refl)
found_at_code (Load load.I32Load8U) = (refl, refl)
found_at_code (Load load.I32Load16S) = (refl, refl)
found_at_code (Load load.I32Load16U) = (refl, refl)
found_at_code (Load load.I64Load8S) = (refl, refl)
found_at_code (Load load.I64Load8U) = (refl, refl)
found_at_code (Load load.I64Load16S) = (refl, refl)
found_at_code (Load load.I64Load16U) = (refl, refl)
found_at_code (Load load.I64Load32S) = (refl, refl)
found_at_code (Load load.I64Load32U) = (refl, refl)
found_at_code (Store store.I32Store) = (refl, refl)
found_at_code (Store store.I64Store) = (refl, refl)
found_at_code (Store store.I32Store8) = (refl, refl)
found_at_code (Store store.I32Store16) = (refl, refl)
found_at_code (Store store.I64Store8) = (refl, refl)
found_at_code (Store store.I64Store16) = (refl, refl)
found_at_code (Store store.I64Store32) = (refl, refl)
found_at_code (Memory memory.Size) = (refl, refl)
found_at_code (Memory memory.Grow) = (refl, refl)
found_at_code I32Const = (refl, refl)
found_at_code I64Const = (refl, refl)
found_at_code (Unary un.I32Eqz) = (refl, refl)
found_at_code (Binary bin.I32Eq) = (refl, refl)
found_at_code (Binary bin.I32Ne) = (refl, refl)
found_at_code (Binary bin.I32LtS) = (refl, refl)
found_at_code (Binary bin.I32LtU) = (refl, refl)
found_at_code (Binary bin.I32GtS) = (refl, refl)
found_at_code (Binary bin.I32GtU) = (refl, refl)
found_at_code (Binary bin.I32LeS) = (refl, refl)
found_at_code (Binary bin.I32LeU) = (refl, refl)
found_at_code (Binary bin.I32GeS) = (refl, refl)
found_at_code (Binary bin.I32GeU) = (refl, refl)
found_at_code (Unary un.I64Eqz) = (refl, refl)
found_at_code (Binary bin.I64Eq) = (refl, refl)
found_at_code (Binary bin.I64Ne) = (refl, refl)
found_at_code (Binary bin.I64LtS) = (refl, refl)
found_at_code (Binary bin.I64LtU) = (refl, refl)
found_at_code (Binary bin.I64GtS) = (refl, refl)
found_at_code (Binary bin.I64GtU) = (refl, refl)
found_at_code (Binary bin.I64LeS) = (refl, refl)
found_at_code (Binary bin.I64LeU) = (refl, refl)
found_at_code (Binary bin.I64GeS) = (refl, refl)
found_at_code (Binary bin.I64GeU) = (refl, refl)
found_at_code (Unary un.I32Clz) = (refl, refl)
found_at_code (Unary un.I32Ctz) = (refl, refl)
found_at_code (Unary un.I32Popcnt) = (refl, refl)
found_at_code (Binary bin.I32Add) = (refl, refl)
found_at_code (Binary bin.I32Sub) = (refl, refl)
found_at_code (Binary bin.I32Mul) = (refl, refl)
found_at_code (Binary bin.I32DivS) = (refl, refl)
found_at_code (Binary bin.I32DivU) = (refl, refl)
found_at_code (Binary bin.I32RemS) = (refl, refl)
found_at_code (Binary bin.I32RemU) = (refl, refl)
found_at_code (Binary bin.I32And) = (refl, refl)
found_at_code (Binary bin.I32Or) = (refl, refl)
found_at_code (Binary bin.I32Xor) = (refl, refl)
found_at_code (Binary bin.I32Shl) = (refl, refl)
found_at_code (Binary bin.I32ShrS) = (refl, refl)
found_at_code (Binary bin.I32ShrU) = (refl, refl)
found_at_code (Binary bin.I32Rotl) = (refl, refl)
found_at_code (Binary bin.I32Rotr) = (refl, refl)
found_at_code (Unary un.I64Clz) = (refl, refl)
found_at_code (Unary un.I64Ctz) = (refl, refl)
found_at_code (Unary un.I64Popcnt) = (refl, refl)
found_at_code (Binary bin.I64Add) = (refl, refl)
found_at_code (Binary bin.I64Sub) = (refl, refl)
found_at_code (Binary bin.I64Mul) = (refl, refl)
found_at_code (Binary bin.I64DivS) = (refl, refl)
found_at_code (Binary bin.I64DivU) = (refl, refl)
found_at_code (Binary bin.I64RemS) = (refl, refl)
found_at_code (Binary bin.I64RemU) = (refl, refl)
found_at_code (Binary bin.I64And) = (refl, refl)
found_at_code (Binary bin.I64Or) = (refl, refl)
found_at_code (Binary bin.I64Xor) = (refl, refl)
found_at_code (Binary bin.I64Shl) = (refl, refl)
found_at_code (Binary bin.I64ShrS) = (refl, refl)
found_at_code (Binary bin.I64ShrU) = (refl, refl)
found_at_code (Binary bin.I64Rotl) = (refl, refl)
found_at_code (Binary bin.I64Rotr) = (refl, refl)
found_at_code (Unary un.I32WrapI64) = (refl, refl)
found_at_code (Unary un.I64ExtendI32S) = (refl, refl)
found_at_code (Unary un.I64ExtendI32U) = (refl, refl)
found_at_code (Unary un.I32Extend8S) = (refl, refl)
found_at_code (Unary un.I32Extend16S) = (refl, refl)
found_at_code (Unary un.I64Extend8S) = (refl, refl)
found_at_code (Unary un.I64Extend16S) = (refl, refl)
found_at_code (Unary un.I64Extend32S) = (refl, refl)
found_at_code (Memory memory.Copy) = (refl, refl)
found_at_code (Memory memory.Fill) = (refl, refl)

-- the number in an opcode
abbrev number_in : Code → ℕ
number_in (byte b) = b
number_in (prefixed n) = n

-- no instruction has an opcode at which none is found
pub none_at : (code : Code) → entry_of code ≡ Unknown → (opcode : Opcode) → code_of opcode ≢ code
none_at code unknown opcode same =
    let met : Unknown ≡ Known opcode = sym unknown ∙ (ap entry_of (sym same) ∙ (found_at_code opcode).0) in
    cc

other_byte : (b n : ℕ) → (b == n) ≡ false → byte b ≢ byte n
other_byte b n differs same = eqb-false b n differs (ap number_in same)

-- whether an opcode is this byte
abbrev is_byte : ℕ → Code → Bool
is_byte n (byte b) = b == n
is_byte n (prefixed k) = false

-- what a row of the code's table has to be at a byte
abbrev is_right : ℕ → OpcodeEntry → Bool
is_right n (Known opcode) = is_byte n (code_of opcode)
is_right n Prefix = n == 0xfc
is_right n Float = is_float (byte n)
is_right n Unknown = not (n == 0xfc) && not (is_float (byte n))

-- every row is
row_is_right : (b : ℕ) → b < 256 → is_right b (entry_of (byte b)) ≡ true
unfolding row entry_of
row_is_right b small = agree_below_at (λ n. is_right n (get_or OPCODES n Unknown)) (λ n. true) 256 b refl small

byte_is : (n : ℕ) (code : Code) → is_byte n code ≡ true → code ≡ byte n
byte_is n (byte b) same = ap byte (eqb-true b n same)
byte_is n (prefixed k) same = absurd (false≢true same)

-- a row that is right says what the byte is as an opcode
entry_right : (b : ℕ) (entry : OpcodeEntry) → entry ≡ entry_of (byte b) → is_right b entry ≡ true → IsEntry (byte b) entry
entry_right b (Known opcode) here right = byte_is b (code_of opcode) right
entry_right b Prefix here right = ap byte (eqb-true b 0xfc right)
entry_right b Float here right = right
entry_right b Unknown here right =
    let parts = and_parts (not (b == 0xfc)) (not (is_float (byte b))) right in
    (other_byte b 0xfc (not-true (b == 0xfc) parts.0), not-true (is_float (byte b)) parts.1, none_at (byte b) (sym here))

-- what a byte is as an opcode
pub byte_entry : (b : ℕ) → b < 256 → IsEntry (byte b) (entry_of (byte b))
byte_entry b small = entry_right b (entry_of (byte b)) refl (row_is_right b small)

-- what the tests of a number behind the byte fc say of it
prefixed_cases : (n : ℕ) (low copy fill : Bool) → nat_lt n 8 ≡ low → (n == 10) ≡ copy → (n == 11) ≡ fill
    → ((if low then Float else (if copy then Known (Memory memory.Copy) else (if fill then Known (Memory memory.Fill) else Unknown))) ≡ Unknown → (opcode : Opcode) → code_of opcode ≢ prefixed n)
    → IsEntry (prefixed n) (if low then Float else (if copy then Known (Memory memory.Copy) else (if fill then Known (Memory memory.Fill) else Unknown)))
unfolding row
prefixed_cases n true copy fill e f g none = e
prefixed_cases n false true fill e f g none = ap prefixed (sym (eqb-true n 10 f))
prefixed_cases n false false true e f g none = ap prefixed (sym (eqb-true n 11 g))
prefixed_cases n false false false e f g none = (λ same. cc, e, none refl)

-- what the number behind the byte fc is
pub prefixed_entry : (n : ℕ) → IsEntry (prefixed n) (entry_of (prefixed n))
unfolding entry_of
prefixed_entry n = prefixed_cases n (nat_lt n 8) (n == 10) (n == 11) refl refl refl (none_at (prefixed n))

-- an instruction's opcode is not the byte fc alone
no_prefix : (opcode : Opcode) → code_of opcode ≢ byte 0xfc
unfolding entry_of
no_prefix opcode same =
    let met : Prefix ≡ Known opcode = ap entry_of (sym same) ∙ (found_at_code opcode).0 in
    cc

no_float : (code : Code) (opcode : Opcode) → code_of opcode ≡ code → is_float code ≡ true → ⊥
no_float code opcode here float = both_ways (is_float (code_of opcode)) (found_at_code opcode).1 (ap is_float here ∙ float)

prefix_no_float : (code : Code) → code ≡ byte 0xfc → is_float code ≡ true → ⊥
prefix_no_float code here float = false≢true (sym (ap is_float here) ∙ float)

-- an opcode is one thing
pub one_entry : (code : Code) (e f : OpcodeEntry) → IsEntry code e → IsEntry code f → e ≡ f
one_entry code (Known o) (Known p) here there = sym (found_at_code o).0 ∙ (ap entry_of (here ∙ sym there) ∙ (found_at_code p).0)
one_entry code (Known o) Prefix here there = absurd (no_prefix o (here ∙ there))
one_entry code (Known o) Float here there = absurd (no_float code o here there)
one_entry code (Known o) Unknown here there = absurd (there.2 o here)
one_entry code Prefix (Known o) here there = absurd (no_prefix o (there ∙ here))
one_entry code Prefix Prefix here there = refl
one_entry code Prefix Float here there = absurd (prefix_no_float code here there)
one_entry code Prefix Unknown here there = absurd (there.0 here)
one_entry code Float (Known o) here there = absurd (no_float code o there here)
one_entry code Float Prefix here there = absurd (prefix_no_float code there here)
one_entry code Float Float here there = refl
one_entry code Float Unknown here there = absurd (both_ways (is_float code) there.1 here)
one_entry code Unknown (Known o) here there = absurd (here.2 o there)
one_entry code Unknown Prefix here there = absurd (here.0 there)
one_entry code Unknown Float here there = absurd (both_ways (is_float code) here.1 there)
one_entry code Unknown Unknown here there = refl

-- there is no opcode behind the last byte
pub past_all : (b : ℕ) → 256 ≤ b → entry_of (byte b) ≡ Unknown
unfolding entry_of
past_all b large = get_or_past OPCODES b Unknown large
