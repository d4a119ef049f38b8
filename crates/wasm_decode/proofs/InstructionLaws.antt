-- Instructions: what is read is spelled so, and what is spelled so is read.
use Rattle.std.proofs.Common.{◌≡◌, ℕ, ◌-◌, ◌^◌, not, ◌==◌, List, [], ◌∷◌, Ok, Option, inl, inr, refl, sym, ap, subst, ◌∙◌}
use Rattle.std.proofs.lemmas.Bool.{cases_lt, eqb-true, not-false}
use Rattle.wasm_types.specs.declared.val_type.ValType.{ValType}
use Rattle.wasm_types.specs.declared.access_op.MemArg.{MemArg}
use Rattle.wasm_types.specs.declared.op.Op.{Op}
use Rattle.wasm_types.specs.declared.op.Op.TheVariants as op
use Rattle.wasm_types.specs.declared.opcode.Opcode.{Opcode}
use Rattle.wasm_types.specs.declared.opcode.Opcode.TheVariants.{Bare, Block, Index, BrTable, CallIndirect, Load, Store, Memory, I32Const, I64Const, Unary, Binary}
use Rattle.wasm_types.specs.declared.opcode.BareOp.{BareOp}
use Rattle.wasm_types.specs.declared.opcode.BareOp.TheVariants as bare
use Rattle.wasm_types.specs.declared.opcode.BlockOp.{BlockOp}
use Rattle.wasm_types.specs.declared.opcode.BlockOp.TheVariants as block
use Rattle.wasm_types.specs.declared.opcode.IndexOp.{IndexOp}
use Rattle.wasm_types.specs.declared.opcode.IndexOp.TheVariants as index
use Rattle.wasm_types.specs.declared.opcode.MemoryOp.{MemoryOp}
use Rattle.wasm_types.specs.declared.opcode.MemoryOp.TheVariants as memory
use Rattle.wasm_types.specs.declared.opcode_table.OpcodeEntry.{OpcodeEntry}
use Rattle.wasm_types.specs.declared.opcode_table.OpcodeEntry.TheVariants.{Known, Prefix, Float, Unknown}
use Rattle.wasm_types.specs.Opcodes.{Code, IsEntry, byte, prefixed, code_of, entry_of}
use Rattle.wasm_types.specs.Ops.{bare_op, block_op, index_op, memory_op, opcode_of}
use Rattle.wasm_types.proofs.Table.{byte_entry, found_at_code, past_all, prefixed_entry}
use Rattle.wasm_decode.specs.declared.fault.WasmKind.TheVariants as kinds
use Rattle.wasm_decode.specs.Instructions.{SpellsCode, SpellsImmediates, SpellsInstruction}
use Rattle.wasm_decode.specs.Layout.{◌⨾◌, Just, SpellsVectorUpTo}
use Rattle.wasm_decode.specs.ReadingInstructions.{behind_byte, behind_opcode, immediates_at, indirect_at, instruction_at, labels_at, mem_arg_at, memories_at, zero_at}
use Rattle.wasm_decode.specs.ReadingTypes.{block_type_at}
use Rattle.wasm_decode.specs.ReadingValues.{byte_at, u32_at}
use Rattle.wasm_decode.specs.Stops.{◌>>=◌, unless}
use Rattle.wasm_decode.specs.Types.{SpellsBlockType}
use Rattle.wasm_decode.specs.Values.{SpellsU32}
use Rattle.wasm_decode.proofs.Fronts.{Again, Front, Takes, both, found, go, just, just_is, passes, same_found, split, step}
use Rattle.wasm_decode.proofs.NumberLaws.{i32_again, i32_takes, i64_again, i64_takes, u32_again, u32_takes}
use Rattle.wasm_decode.proofs.TypeLaws.{block_type_again, block_type_takes}
use Rattle.wasm_decode.proofs.VectorLaws.{byte_again, byte_takes, one_byte, vector_again, vector_takes}

-- ---- immediates

-- an instruction that is read, and its opcode
abbrev IsRead : Opcode → Op → List ℕ → List ℕ → Type 0
IsRead opcode o bytes rest = (opcode_of o ≡ opcode) × Front (SpellsImmediates o) bytes rest

-- the same of the instruction that is made of what was read
made : {opcode : Opcode} {m o : Op} {bytes behind rest : List ℕ} → opcode_of m ≡ opcode → Front (SpellsImmediates m) bytes behind → found m behind ≡ Ok (o, rest) → IsRead opcode o bytes rest
made {opcode = opcode} {m = m} {o = o} {bytes = bytes} {behind = behind} {rest = rest} is h e =
    let same = same_found e in
    subst (λ (p : Op). IsRead opcode p bytes rest) same.0 (is, subst (λ (r : List ℕ). Front (SpellsImmediates m) bytes r) same.1 h)

none : (P : List ℕ → Type 0) (bytes : List ℕ) → P [] → Front P bytes bytes
none P bytes laid = record { front = []; parts = refl; laid = laid }

bare_is : (o : BareOp) → (opcode_of (bare_op o) ≡ Bare o) × SpellsImmediates (bare_op o) []
bare_is bare.Unreachable = (refl, refl)
bare_is bare.Nop = (refl, refl)
bare_is bare.Else = (refl, refl)
bare_is bare.End = (refl, refl)
bare_is bare.Return = (refl, refl)
bare_is bare.Drop = (refl, refl)
bare_is bare.Select = (refl, refl)

block_is : (o : BlockOp) (r : Option ValType) (bytes rest : List ℕ) → Front (SpellsBlockType r) bytes rest → IsRead (Block o) (block_op o r) bytes rest
block_is block.Block r bytes rest h = (refl, h)
block_is block.Loop r bytes rest h = (refl, h)
block_is block.If r bytes rest h = (refl, h)

index_is : (o : IndexOp) (n : ℕ) (bytes rest : List ℕ) → Front (SpellsU32 n) bytes rest → IsRead (Index o) (index_op o n) bytes rest
index_is index.Br n bytes rest h = (refl, h)
index_is index.BrIf n bytes rest h = (refl, h)
index_is index.Call n bytes rest h = (refl, h)
index_is index.LocalGet n bytes rest h = (refl, h)
index_is index.LocalSet n bytes rest h = (refl, h)
index_is index.LocalTee n bytes rest h = (refl, h)
index_is index.GlobalGet n bytes rest h = (refl, h)
index_is index.GlobalSet n bytes rest h = (refl, h)

zero_takes : (bytes rest : List ℕ) → zero_at bytes ≡ Ok rest → Front (SpellsU32 0) bytes rest
unfolding zero_at
zero_takes bytes rest e =
    let n = step e in
    let test = passes (not (n.value.0 == 0)) kinds.Form bytes n.value.1 rest n.after in
    let h : Front (SpellsU32 n.value.0) bytes rest = u32_takes bytes rest n.value.0 (n.is ∙ ap (found n.value.0) test.1) in
    subst (λ (m : ℕ). Front (SpellsU32 m) bytes rest) (eqb-true n.value.0 0 (not-false (n.value.0 == 0) test.0)) h

zero_again : (bytes rest : List ℕ) → Front (SpellsU32 0) bytes rest → zero_at bytes ≡ Ok rest
unfolding zero_at
zero_again bytes rest h = go (λ n. unless (not (n.0 == 0)) kinds.Form bytes n.1) (0, rest) (u32_again bytes rest 0 h) refl

memory_is : (o : MemoryOp) (bytes rest : List ℕ) → memories_at o bytes ≡ Ok rest → IsRead (Memory o) (memory_op o) bytes rest
memory_is memory.Size bytes rest e = (refl, zero_takes bytes rest e)
memory_is memory.Grow bytes rest e = (refl, zero_takes bytes rest e)
memory_is memory.Copy bytes rest e = let first = step {r = zero_at bytes} {next = zero_at} e in (refl, both (zero_takes bytes first.value first.is) (zero_takes first.value rest first.after))
memory_is memory.Fill bytes rest e = (refl, zero_takes bytes rest e)

-- an alignment and an offset
abbrev SpellsMemArg : MemArg → List ℕ → Type 0
SpellsMemArg arg = SpellsU32 arg.align ⨾ SpellsU32 arg.offset

mem_arg_takes : Takes mem_arg_at SpellsMemArg
mem_arg_takes bytes rest arg e =
    let align = step e in
    let offset = step align.after in
    let same = same_found offset.after in
    subst (λ (a : MemArg). Front (SpellsMemArg a) bytes rest) same.0
    (both (u32_takes bytes align.value.1 align.value.0 align.is) (u32_takes align.value.1 rest offset.value.0 (offset.is ∙ ap (found offset.value.0) same.1)))

mem_arg_again : Again mem_arg_at SpellsMemArg
mem_arg_again bytes rest arg h =
    let two = split h in
    go (λ align. u32_at align.1 >>= λ offset. Ok (record { align = align.0; offset = offset.0 }, offset.1)) (arg.align, two.middle) (u32_again bytes two.middle arg.align two.first)
    (go (λ offset. Ok (record { align = arg.align; offset = offset.0 }, offset.1)) (arg.offset, rest) (u32_again two.middle rest arg.offset two.second) refl)

pub immediates_take : (opcode : Opcode) (bytes rest : List ℕ) (o : Op) → immediates_at opcode bytes ≡ Ok (o, rest) → IsRead opcode o bytes rest
unfolding immediates_at
immediates_take (Bare b) bytes rest o e = made (bare_is b).0 (none (SpellsImmediates (bare_op b)) bytes (bare_is b).1) e
immediates_take (Block b) bytes rest o e =
    let t = step e in
    let is = block_is b t.value.0 bytes t.value.1 (block_type_takes bytes t.value.1 t.value.0 t.is) in
    made is.0 is.1 t.after
immediates_take (Index i) bytes rest o e =
    let n = step e in
    let is = index_is i n.value.0 bytes n.value.1 (u32_takes bytes n.value.1 n.value.0 n.is) in
    made is.0 is.1 n.after
immediates_take BrTable bytes rest o e =
    let labels = step e in
    let default = step labels.after in
    made {m = op.BrTable default.value.0 labels.value.0} refl
    (both (vector_takes (2 ^ 32 - 1) u32_at SpellsU32 u32_takes bytes labels.value.1 labels.value.0 labels.is) (u32_takes labels.value.1 default.value.1 default.value.0 default.is)) default.after
immediates_take CallIndirect bytes rest o e =
    let n = step e in
    let table = step n.after in
    made {m = op.CallIndirect n.value.0} refl (both (u32_takes bytes n.value.1 n.value.0 n.is) (zero_takes n.value.1 table.value table.is)) table.after
immediates_take (Load l) bytes rest o e =
    let arg = step e in
    made {m = op.Load l arg.value.0} refl (mem_arg_takes bytes arg.value.1 arg.value.0 arg.is) arg.after
immediates_take (Store s) bytes rest o e =
    let arg = step e in
    made {m = op.Store s arg.value.0} refl (mem_arg_takes bytes arg.value.1 arg.value.0 arg.is) arg.after
immediates_take (Memory m) bytes rest o e =
    let numbers = step e in
    let is = memory_is m bytes numbers.value numbers.is in
    made is.0 is.1 numbers.after
immediates_take I32Const bytes rest o e =
    let n = step e in
    made {m = op.I32Const n.value.0} refl (i32_takes bytes n.value.1 n.value.0 n.is) n.after
immediates_take I64Const bytes rest o e =
    let n = step e in
    made {m = op.I64Const n.value.0} refl (i64_takes bytes n.value.1 n.value.0 n.is) n.after
immediates_take (Unary u) bytes rest o e = made {m = op.Unary u} refl (none (SpellsImmediates (op.Unary u)) bytes refl) e
immediates_take (Binary b) bytes rest o e = made {m = op.Binary b} refl (none (SpellsImmediates (op.Binary b)) bytes refl) e

-- an instruction without immediates
no_immediates : (o : Op) (bytes rest : List ℕ) → Front (Just []) bytes rest → found o bytes ≡ Ok (o, rest)
no_immediates o bytes rest h = ap (found o) (just_is [] bytes rest h)

with_block : (o : BlockOp) (r : Option ValType) (bytes rest : List ℕ) → Front (SpellsBlockType r) bytes rest → (block_type_at bytes >>= λ t. found (block_op o t.0) t.1) ≡ Ok (block_op o r, rest)
with_block o r bytes rest h = go (λ t. Ok (block_op o t.0, t.1)) (r, rest) (block_type_again bytes rest r h) refl

with_index : (o : IndexOp) (n : ℕ) (bytes rest : List ℕ) → Front (SpellsU32 n) bytes rest → (u32_at bytes >>= λ m. found (index_op o m.0) m.1) ≡ Ok (index_op o n, rest)
with_index o n bytes rest h = go (λ m. Ok (index_op o m.0, m.1)) (n, rest) (u32_again bytes rest n h) refl

with_memory : (o : MemoryOp) (bytes rest : List ℕ) → memories_at o bytes ≡ Ok rest → (memories_at o bytes >>= λ r. found (memory_op o) r) ≡ Ok (memory_op o, rest)
with_memory o bytes rest is = go (λ r. Ok (memory_op o, r)) rest is refl

labels_again : (default : ℕ) (labels : List ℕ) (bytes rest : List ℕ) → Front (SpellsVectorUpTo (2 ^ 32 - 1) SpellsU32 labels ⨾ SpellsU32 default) bytes rest → labels_at bytes ≡ Ok (op.BrTable default labels, rest)
labels_again default labels bytes rest h =
    let two = split h in
    go (λ l. u32_at l.1 >>= λ d. Ok (op.BrTable d.0 l.0, d.1)) (labels, two.middle) (vector_again (2 ^ 32 - 1) u32_at SpellsU32 u32_again bytes two.middle labels two.first)
    (go (λ d. Ok (op.BrTable d.0 labels, d.1)) (default, rest) (u32_again two.middle rest default two.second) refl)

indirect_again : (n : ℕ) (bytes rest : List ℕ) → Front (SpellsU32 n ⨾ SpellsU32 0) bytes rest → indirect_at bytes ≡ Ok (op.CallIndirect n, rest)
indirect_again n bytes rest h =
    let two = split h in
    go (λ m. zero_at m.1 >>= λ r. Ok (op.CallIndirect m.0, r)) (n, two.middle) (u32_again bytes two.middle n two.first)
    (go (λ r. Ok (op.CallIndirect n, r)) rest (zero_again two.middle rest two.second) refl)

zeros_again : (bytes rest : List ℕ) → Front (SpellsU32 0 ⨾ SpellsU32 0) bytes rest → (zero_at bytes >>= zero_at) ≡ Ok rest
zeros_again bytes rest h = let two = split h in go zero_at two.middle (zero_again bytes two.middle two.first) (zero_again two.middle rest two.second)

pub immediates_again : (o : Op) (bytes rest : List ℕ) → Front (SpellsImmediates o) bytes rest → immediates_at (opcode_of o) bytes ≡ Ok (o, rest)
unfolding immediates_at
immediates_again op.Unreachable bytes rest h = no_immediates op.Unreachable bytes rest h
immediates_again op.Nop bytes rest h = no_immediates op.Nop bytes rest h
immediates_again (op.Block r) bytes rest h = with_block block.Block r bytes rest h
immediates_again (op.Loop r) bytes rest h = with_block block.Loop r bytes rest h
immediates_again (op.If r) bytes rest h = with_block block.If r bytes rest h
immediates_again op.Else bytes rest h = no_immediates op.Else bytes rest h
immediates_again op.End bytes rest h = no_immediates op.End bytes rest h
immediates_again (op.Br n) bytes rest h = with_index index.Br n bytes rest h
immediates_again (op.BrIf n) bytes rest h = with_index index.BrIf n bytes rest h
immediates_again (op.BrTable default labels) bytes rest h = labels_again default labels bytes rest h
immediates_again op.Return bytes rest h = no_immediates op.Return bytes rest h
immediates_again (op.Call n) bytes rest h = with_index index.Call n bytes rest h
immediates_again (op.CallIndirect n) bytes rest h = indirect_again n bytes rest h
immediates_again op.Drop bytes rest h = no_immediates op.Drop bytes rest h
immediates_again op.Select bytes rest h = no_immediates op.Select bytes rest h
immediates_again (op.LocalGet n) bytes rest h = with_index index.LocalGet n bytes rest h
immediates_again (op.LocalSet n) bytes rest h = with_index index.LocalSet n bytes rest h
immediates_again (op.LocalTee n) bytes rest h = with_index index.LocalTee n bytes rest h
immediates_again (op.GlobalGet n) bytes rest h = with_index index.GlobalGet n bytes rest h
immediates_again (op.GlobalSet n) bytes rest h = with_index index.GlobalSet n bytes rest h
immediates_again (op.Load l arg) bytes rest h = go (λ a. Ok (op.Load l a.0, a.1)) (arg, rest) (mem_arg_again bytes rest arg h) refl
immediates_again (op.Store s arg) bytes rest h = go (λ a. Ok (op.Store s a.0, a.1)) (arg, rest) (mem_arg_again bytes rest arg h) refl
immediates_again op.MemorySize bytes rest h = with_memory memory.Size bytes rest (zero_again bytes rest h)
immediates_again op.MemoryGrow bytes rest h = with_memory memory.Grow bytes rest (zero_again bytes rest h)
immediates_again op.MemoryCopy bytes rest h = with_memory memory.Copy bytes rest (zeros_again bytes rest h)
immediates_again op.MemoryFill bytes rest h = with_memory memory.Fill bytes rest (zero_again bytes rest h)
immediates_again (op.I32Const n) bytes rest h = go (λ m. Ok (op.I32Const m.0, m.1)) (n, rest) (i32_again bytes rest n h) refl
immediates_again (op.I64Const n) bytes rest h = go (λ m. Ok (op.I64Const m.0, m.1)) (n, rest) (i64_again bytes rest n h) refl
immediates_again (op.Unary u) bytes rest h = no_immediates (op.Unary u) bytes rest h
immediates_again (op.Binary b) bytes rest h = no_immediates (op.Binary b) bytes rest h

-- ---- opcodes

-- what an entry that is no byte's own says of a byte
abbrev IsTold : ℕ → OpcodeEntry → Type 0
IsTold b (Known opcode) = code_of opcode ≡ byte b
IsTold b Prefix = b ≡ 0xfc
IsTold b Float = Unit {0}
IsTold b Unknown = Unit {0}

same_byte : (b n : ℕ) → byte b ≡ byte n → b ≡ n
same_byte b n e = cc

told_by : (b : ℕ) (entry : OpcodeEntry) → IsEntry (byte b) entry → IsTold b entry
told_by b (Known opcode) is = is
told_by b Prefix is = same_byte b 0xfc is
told_by b Float is = tt
told_by b Unknown is = tt

told : (b : ℕ) → IsTold b (entry_of (byte b))
told b =
    elim (cases_lt b 256) [
      | inl small ↦ told_by b (entry_of (byte b)) (byte_entry b small)
      | inr large ↦ subst (λ (e : OpcodeEntry). IsTold b e) (sym (past_all b large)) tt
    ]

-- an opcode that is read, and what stands behind it
record Coded (opcode : Opcode) (bytes : List ℕ) (o : Op) (rest : List ℕ) : Type 0 where
  middle : List ℕ
  code : Front (SpellsCode (code_of opcode)) bytes middle
  read : immediates_at opcode middle ≡ Ok (o, rest)

coded : (opcode : Opcode) (o : Op) (bytes rest : List ℕ) → Coded opcode bytes o rest → Front (SpellsInstruction o) bytes rest
coded opcode o bytes rest c =
    let is = immediates_take opcode c.middle rest o c.read in
    both (subst (λ (p : Opcode). Front (SpellsCode (code_of p)) bytes c.middle) (sym is.0) c.code) is.1

prefixed_take : (place bytes middle rest : List ℕ) (n : ℕ) (entry : OpcodeEntry) (o : Op) → Front (SpellsCode (prefixed n)) bytes middle → IsEntry (prefixed n) entry → behind_opcode place entry middle ≡ Ok (o, rest)
    → Front (SpellsInstruction o) bytes rest
prefixed_take place bytes middle rest n (Known opcode) o h is e =
    coded opcode o bytes rest (record { middle = middle; code = subst (λ (c : Code). Front (SpellsCode c) bytes middle) (sym is) h; read = e })
prefixed_take place bytes middle rest n Prefix o h is e = absurd cc
prefixed_take place bytes middle rest n Float o h is e = absurd cc
prefixed_take place bytes middle rest n Unknown o h is e = absurd cc

opcode_takes : (place bytes middle rest : List ℕ) (b : ℕ) (entry : OpcodeEntry) (o : Op) → bytes ≡ b ∷ middle → IsTold b entry → behind_byte place entry middle ≡ Ok (o, rest) → Front (SpellsInstruction o) bytes rest
opcode_takes place bytes middle rest b (Known opcode) o here is e =
    coded opcode o bytes rest (record { middle = middle; code = subst (λ (c : Code). Front (SpellsCode c) bytes middle) (sym is) (just (b ∷ []) bytes middle here); read = e })
opcode_takes place bytes middle rest b Prefix o here is e =
    let n = step e in
    prefixed_take place bytes n.value.1 rest n.value.0 (entry_of (prefixed n.value.0)) o
    (both (one_byte b 0xfc bytes middle here is) (u32_takes middle n.value.1 n.value.0 n.is)) (prefixed_entry n.value.0) n.after
opcode_takes place bytes middle rest b Float o here is e = absurd cc
opcode_takes place bytes middle rest b Unknown o here is e = absurd cc

pub instruction_takes : Takes instruction_at SpellsInstruction
unfolding instruction_at
instruction_takes bytes rest o e =
    let b = step {r = byte_at bytes} {next = λ b. behind_byte bytes (entry_of (byte b.0)) b.1} e in
    opcode_takes bytes bytes b.value.1 rest b.value.0 (entry_of (byte b.value.0)) o (byte_takes bytes b.value.1 b.value.0 b.is) (told b.value.0) b.after

prefix_entry : entry_of (byte 0xfc) ≡ Prefix
unfolding entry_of
prefix_entry = refl

opcode_again : (code : Code) (opcode : Opcode) (bytes middle rest : List ℕ) (o : Op) → entry_of code ≡ Known opcode → Front (SpellsCode code) bytes middle → immediates_at opcode middle ≡ Ok (o, rest) → instruction_at bytes ≡ Ok (o, rest)
unfolding instruction_at
opcode_again (byte b) opcode bytes middle rest o entry h read =
    go (λ x. behind_byte bytes (entry_of (byte x.0)) x.1) (b, middle) (byte_again bytes middle b (just_is (b ∷ []) bytes middle h))
    (ap (λ (e : OpcodeEntry). behind_byte bytes e middle) entry ∙ read)
opcode_again (prefixed n) opcode bytes middle rest o entry h read =
    let two = split h in
    go (λ x. behind_byte bytes (entry_of (byte x.0)) x.1) (0xfc, two.middle) (byte_again bytes two.middle 0xfc (just_is (0xfc ∷ []) bytes two.middle two.first))
    (ap (λ (e : OpcodeEntry). behind_byte bytes e two.middle) prefix_entry
    ∙ go (λ m. behind_opcode bytes (entry_of (prefixed m.0)) m.1) (n, middle) (u32_again two.middle middle n two.second)
    (ap (λ (e : OpcodeEntry). behind_opcode bytes e middle) entry ∙ read))

pub instruction_again : Again instruction_at SpellsInstruction
instruction_again bytes rest o h =
    let two = split h in
    opcode_again (code_of (opcode_of o)) (opcode_of o) bytes two.middle rest o (found_at_code (opcode_of o)).0 two.first (immediates_again o two.middle rest two.second)
