-- Types (WebAssembly 1.0, section 5.3), without those of floating-point numbers.
use Rattle.std.specs.Prelude.{◌≤◌, ℕ, List, [], ◌∷◌, Option, Some, None, IfSome}
use Rattle.std.specs.Option.{option_to_list}
use Rattle.wasm_types.specs.declared.val_type.ValType.{ValType}
use Rattle.wasm_types.specs.declared.val_type.ValType.TheVariants.{I32, I64}
use Rattle.wasm_types.specs.declared.func_type.FuncType.{FuncType}
use Rattle.wasm_types.specs.declared.raw_module.Limits.{Limits}
use Rattle.wasm_types.specs.declared.limits.TheConstants.{MOST_PARAMS}
use Rattle.wasm_decode.specs.Layout.{◌⨾◌, Just, SpellsVector, SpellsVectorUpTo}
use Rattle.wasm_decode.specs.Values.{SpellsU32}

-- the byte of a type of values
abbrev pub value_type : ValType → ℕ
value_type I32 = 0x7f
value_type I64 = 0x7e

-- a type of values
abbrev pub SpellsValueType : ValType → List ℕ → Type 0
SpellsValueType t = Just (value_type t ∷ [])

-- the type of a block: its result, if it has one
abbrev pub SpellsBlockType : Option ValType → List ℕ → Type 0
SpellsBlockType None = Just (0x40 ∷ [])
SpellsBlockType (Some t) = SpellsValueType t

-- a type of functions
abbrev pub SpellsFuncType : FuncType → List ℕ → Type 0
SpellsFuncType t =
    Just (0x60 ∷ []) ⨾ (SpellsVectorUpTo MOST_PARAMS SpellsValueType t.params ⨾ SpellsVector SpellsValueType (option_to_list t.result))

-- the limits of a size: the least one, and the greatest one, if there is one
abbrev pub SpellsLimitsOf : ℕ → Option ℕ → List ℕ → Type 0
SpellsLimitsOf least None = Just (0 ∷ []) ⨾ SpellsU32 least
SpellsLimitsOf least (Some greatest) = Just (1 ∷ []) ⨾ (SpellsU32 least ⨾ SpellsU32 greatest)

-- the limits of a size that is at most `most_first` at first, and at most `most` at all
abbrev pub SpellsLimits : ℕ → ℕ → Limits → List ℕ → Type 0
SpellsLimits most_first most limits bytes =
    (limits.least ≤ most_first) × IfSome limits.greatest (λ greatest. (limits.least ≤ greatest) × (greatest ≤ most))
    × SpellsLimitsOf limits.least limits.greatest bytes
