-- Code as blocks nest in it (WebAssembly 1.0, sections 2.4.5 and 5.4.1).
use Rattle.std.specs.Prelude.{◌≡◌, ℕ, Bool, true, false, List, [], ◌∷◌, ◌++◌, length, Option}
use Rattle.wasm_types.specs.declared.val_type.ValType.{ValType}
use Rattle.wasm_types.specs.declared.op.Op.{Op}
use Rattle.wasm_types.specs.declared.op.Op.TheVariants as op

-- some instructions: none, or one and those that follow it. A block has its result, the code in it and the code behind it
pub data Code : Type 0 where
  done : Code
  plain : Op → Code → Code
  in_block : Option ValType → Code → Code → Code
  in_loop : Option ValType → Code → Code → Code
  in_if : Option ValType → Code → Code → Code
  in_if_else : Option ValType → Code → Code → Code → Code

-- the instructions in the order in which they are written
abbrev pub flat : Code → List Op
flat done = []
flat (plain o rest) = o ∷ flat rest
flat (in_block result body rest) = op.Block result ∷ (flat body ++ (op.End ∷ flat rest))
flat (in_loop result body rest) = op.Loop result ∷ (flat body ++ (op.End ∷ flat rest))
flat (in_if result body rest) = op.If result ∷ (flat body ++ (op.End ∷ flat rest))
flat (in_if_else result first second rest) = op.If result ∷ (flat first ++ (op.Else ∷ (flat second ++ (op.End ∷ flat rest))))

-- how many they are
abbrev pub size : Code → ℕ
size code = length (flat code)

-- whether an instruction has no part in a block's beginning or end
abbrev pub is_plain : Op → Bool
is_plain (op.Block result) = false
is_plain (op.Loop result) = false
is_plain (op.If result) = false
is_plain op.Else = false
is_plain op.End = false
is_plain _ = true

-- instructions that stand by themselves are plain
abbrev pub HasPlainOps : Code → Type 0
HasPlainOps done = Unit {0}
HasPlainOps (plain o rest) = (is_plain o ≡ true) × HasPlainOps rest
HasPlainOps (in_block result body rest) = HasPlainOps body × HasPlainOps rest
HasPlainOps (in_loop result body rest) = HasPlainOps body × HasPlainOps rest
HasPlainOps (in_if result body rest) = HasPlainOps body × HasPlainOps rest
HasPlainOps (in_if_else result first second rest) = HasPlainOps first × HasPlainOps second × HasPlainOps rest

-- these instructions are the code of a body, and the `end` behind it
abbrev pub IsNestedAs : List Op → Code → Type 0
IsNestedAs ops code = HasPlainOps code × (ops ≡ flat code ++ (op.End ∷ []))
