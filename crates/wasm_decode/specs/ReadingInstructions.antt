-- Reading instructions and expressions.
use Rattle.std.specs.Prelude.{ℕ, ◌-◌, ◌^◌, zero, suc, List, [], ◌∷◌, ◌++◌, length, ◌==◌, not, Result, Ok, Err}
use Rattle.wasm_types.specs.declared.access_op.MemArg.{MemArg}
use Rattle.wasm_types.specs.declared.op.Op.{Op}
use Rattle.wasm_types.specs.declared.op.Op.TheVariants as op
use Rattle.wasm_types.specs.declared.opcode.MemoryOp.{MemoryOp}
use Rattle.wasm_types.specs.declared.opcode.MemoryOp.TheVariants as memory
use Rattle.wasm_types.specs.declared.opcode.Opcode.{Opcode}
use Rattle.wasm_types.specs.declared.opcode.Opcode.TheVariants.{Bare, Block, Index, BrTable, CallIndirect, Load, Store, Memory, I32Const, I64Const, Unary, Binary}
use Rattle.wasm_types.specs.declared.opcode_table.OpcodeEntry.{OpcodeEntry}
use Rattle.wasm_types.specs.declared.opcode_table.OpcodeEntry.TheVariants.{Known, Prefix, Float, Unknown}
use Rattle.wasm_types.specs.Opcodes.{byte, prefixed, entry_of}
use Rattle.wasm_types.specs.Ops.{bare_op, block_op, index_op, memory_op}
use Rattle.wasm_decode.specs.declared.fault.Stop.{Stop}
use Rattle.wasm_decode.specs.declared.fault.Stop.TheVariants.{Short}
use Rattle.wasm_decode.specs.declared.fault.WasmKind.TheVariants as kinds
use Rattle.wasm_decode.specs.Instructions.{Nesting, Opened, behind, inside, ended, misplaced}
use Rattle.wasm_decode.specs.ReadingTypes.{block_type_at}
use Rattle.wasm_decode.specs.ReadingValues.{byte_at, i32_at, i64_at, u32_at, vector_at}
use Rattle.wasm_decode.specs.Stops.{◌>>=◌, Found, refused, unless}

-- a table or memory number, which is 0: the rest
unfoldable pub zero_at : List ℕ → Result (List ℕ) Stop
zero_at bytes = u32_at bytes >>= λ n. unless (not (n.0 == 0)) kinds.Form bytes n.1

-- the labels of a `br_table`, and the default one
abbrev pub labels_at : List ℕ → Found Op
labels_at bytes =
    vector_at (2 ^ 32 - 1) u32_at bytes >>= λ labels. u32_at labels.1 >>= λ default. Ok (op.BrTable default.0 labels.0, default.1)

-- the index of a type, and a table number
abbrev pub indirect_at : List ℕ → Found Op
indirect_at bytes = u32_at bytes >>= λ n. zero_at n.1 >>= λ rest. Ok (op.CallIndirect n.0, rest)

-- an alignment and an offset
abbrev pub mem_arg_at : List ℕ → Found MemArg
mem_arg_at bytes = u32_at bytes >>= λ align. u32_at align.1 >>= λ offset. Ok (record { align = align.0; offset = offset.0 }, offset.1)

-- the memory numbers of an instruction on a whole memory: the rest
abbrev pub memories_at : MemoryOp → List ℕ → Result (List ℕ) Stop
memories_at memory.Size bytes = zero_at bytes
memories_at memory.Grow bytes = zero_at bytes
memories_at memory.Copy bytes = zero_at bytes >>= zero_at
memories_at memory.Fill bytes = zero_at bytes

-- the immediates of an instruction
unfoldable pub immediates_at : Opcode → List ℕ → Found Op
immediates_at (Bare o) bytes = Ok (bare_op o, bytes)
immediates_at (Block o) bytes = block_type_at bytes >>= λ t. Ok (block_op o t.0, t.1)
immediates_at (Index o) bytes = u32_at bytes >>= λ n. Ok (index_op o n.0, n.1)
immediates_at BrTable bytes = labels_at bytes
immediates_at CallIndirect bytes = indirect_at bytes
immediates_at (Load o) bytes = mem_arg_at bytes >>= λ arg. Ok (op.Load o arg.0, arg.1)
immediates_at (Store o) bytes = mem_arg_at bytes >>= λ arg. Ok (op.Store o arg.0, arg.1)
immediates_at (Memory o) bytes = memories_at o bytes >>= λ rest. Ok (memory_op o, rest)
immediates_at I32Const bytes = i32_at bytes >>= λ n. Ok (op.I32Const n.0, n.1)
immediates_at I64Const bytes = i64_at bytes >>= λ n. Ok (op.I64Const n.0, n.1)
immediates_at (Unary o) bytes = Ok (op.Unary o, bytes)
immediates_at (Binary o) bytes = Ok (op.Binary o, bytes)

-- what stands behind an opcode that is no prefix and stands at `place`
abbrev pub behind_opcode : List ℕ → OpcodeEntry → List ℕ → Found Op
behind_opcode place (Known opcode) bytes = immediates_at opcode bytes
behind_opcode place Prefix bytes = refused kinds.Unsupported place
behind_opcode place Float bytes = refused kinds.Float place
behind_opcode place Unknown bytes = refused kinds.Unsupported place

-- what stands behind the first byte of an opcode, which stands at `place`
abbrev pub behind_byte : List ℕ → OpcodeEntry → List ℕ → Found Op
behind_byte place (Known opcode) bytes = behind_opcode place (Known opcode) bytes
behind_byte place Prefix bytes = u32_at bytes >>= λ n. behind_opcode place (entry_of (prefixed n.0)) n.1
behind_byte place Float bytes = behind_opcode place Float bytes
behind_byte place Unknown bytes = behind_opcode place Unknown bytes

-- an instruction
unfoldable pub instruction_at : List ℕ → Found Op
instruction_at bytes = byte_at bytes >>= λ b. behind_byte bytes (entry_of (byte b.0)) b.1

-- instructions behind one that stands at `place`, by where it leaves the blocks
abbrev pub continued : List ℕ → List Op → List ℕ → (Opened → Found (List Op)) → Nesting → Found (List Op)
continued place done bytes go_on (inside opened) = go_on opened
continued place done bytes go_on ended = Ok (done, bytes)
continued place done bytes go_on misplaced = refused kinds.Form place

-- the rest of an expression, at most so many instructions, of which these are read
unfoldable pub instructions_at : ℕ → Opened → List Op → List ℕ → Found (List Op)
instructions_at zero opened done bytes = Err Short
instructions_at (suc most) opened done bytes =
    instruction_at bytes >>= λ x.
    continued bytes (done ++ x.0 ∷ []) x.1 (λ more. instructions_at most more (done ++ x.0 ∷ []) x.1) (behind x.0 opened)

-- an expression, which has no more instructions than bytes
unfoldable pub expression_at : List ℕ → Found (List Op)
expression_at bytes = instructions_at (length bytes) [] [] bytes
