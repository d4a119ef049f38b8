-- Sections and modules (WebAssembly 1.0, section 5.5; WebAssembly 2.0 for the data count section).
use Rattle.std.specs.Prelude.{◌≡◌, ◌≤◌, ◌⊎◌, ℕ, Bool, true, false, List, [], ◌∷◌, length, Option, Some, None, IfSome, ◌-◌, ◌^◌, replicate, slice_get}
use Rattle.std.specs.List.{flat_map}
use Rattle.wasm_types.specs.declared.val_type.ValType.{ValType}
use Rattle.wasm_types.specs.declared.func_type.FuncType.{FuncType}
use Rattle.wasm_types.specs.declared.raw_module.Body.{Body}
use Rattle.wasm_types.specs.declared.raw_module.ElementPart.{ElementPart}
use Rattle.wasm_types.specs.declared.raw_module.Export.{Export}
use Rattle.wasm_types.specs.declared.raw_module.ExportKind.{ExportKind}
use Rattle.wasm_types.specs.declared.raw_module.ExportKind.TheVariants as exports
use Rattle.wasm_types.specs.declared.raw_module.GlobalPart.{GlobalPart}
use Rattle.wasm_types.specs.declared.raw_module.Import.{Import}
use Rattle.wasm_types.specs.declared.raw_module.Limits.{Limits}
use Rattle.wasm_types.specs.declared.raw_module.RawModule.{RawModule}
use Rattle.wasm_types.specs.declared.raw_module.SegmentPart.{SegmentPart}
use Rattle.wasm_types.specs.declared.limits.TheConstants.{MOST_EXPORTS, MOST_FIRST_PAGES, MOST_FUNCTIONS, MOST_GLOBALS, MOST_LOCALS, MOST_MODULE_BYTES, MOST_PAGES, MOST_SEGMENTS, MOST_TABLE_ELEMENTS, MOST_TYPES}
use Rattle.wasm_types.specs.Syscalls.{Syscall, IsSyscall}
use Rattle.wasm_decode.specs.Instructions.{SpellsExpression}
use Rattle.wasm_decode.specs.Layout.{◌⨾◌, Just, SpellsAll, SpellsSized, SpellsVector, SpellsVectorUpTo}
use Rattle.wasm_decode.specs.Types.{SpellsFuncType, SpellsLimits, SpellsValueType}
use Rattle.wasm_decode.specs.Values.{SpellsBytes, SpellsName, SpellsU32}

-- ---- entries of sections

-- an import: a system call, under a type of the module that is the call's
abbrev pub SpellsImport : List FuncType → Import → List ℕ → Type 0
SpellsImport types i bytes =
    (call : Syscall) × IsSyscall i.syscall call × (slice_get types i.type_index ≡ Some call.typing)
    × (SpellsName call.module_name ⨾ (SpellsName call.name ⨾ (Just (0 ∷ []) ⨾ SpellsU32 i.type_index))) bytes

-- a table of functions
abbrev pub SpellsTable : Limits → List ℕ → Type 0
SpellsTable limits = Just (0x70 ∷ []) ⨾ SpellsLimits MOST_TABLE_ELEMENTS (2 ^ 32 - 1) limits

-- a memory
abbrev pub SpellsMemory : Limits → List ℕ → Type 0
SpellsMemory = SpellsLimits MOST_FIRST_PAGES MOST_PAGES

-- whether a global can be changed
abbrev pub mutability : Bool → ℕ
mutability false = 0
mutability true = 1

-- a global
abbrev pub SpellsGlobal : GlobalPart → List ℕ → Type 0
SpellsGlobal g = SpellsValueType g.kind ⨾ (Just (mutability g.mutable ∷ []) ⨾ SpellsExpression g.init)

-- the byte of what an export's index counts
abbrev pub export_kind : ExportKind → ℕ
export_kind exports.Function = 0
export_kind exports.Table = 1
export_kind exports.Memory = 2
export_kind exports.Global = 3

-- an export
abbrev pub SpellsExport : Export → List ℕ → Type 0
SpellsExport e = SpellsName e.name ⨾ (Just (export_kind e.kind ∷ []) ⨾ SpellsU32 e.index)

-- an element segment
abbrev pub SpellsElement : ElementPart → List ℕ → Type 0
SpellsElement e = SpellsU32 0 ⨾ (SpellsExpression e.offset ⨾ SpellsVectorUpTo (2 ^ 32 - 1) SpellsU32 e.functions)

-- a data segment
abbrev pub SpellsSegment : SegmentPart → List ℕ → Type 0
SpellsSegment s = SpellsU32 0 ⨾ (SpellsExpression s.offset ⨾ SpellsBytes s.bytes)

-- some locals of one type
abbrev pub SpellsGroup : ℕ × ValType → List ℕ → Type 0
SpellsGroup g = SpellsU32 g.0 ⨾ SpellsValueType g.1

-- the locals of a function, in groups of one type each
abbrev pub SpellsLocals : List ValType → List ℕ → Type 0
SpellsLocals locals bytes =
    (groups : List (ℕ × ValType)) × (locals ≡ flat_map (λ g. replicate g.0 g.1) groups) × (length locals ≤ MOST_LOCALS)
    × SpellsVector SpellsGroup groups bytes

-- the body of a function
abbrev pub SpellsBody : Body → List ℕ → Type 0
SpellsBody b = SpellsSized (SpellsLocals b.locals ⨾ SpellsExpression b.code)

-- ---- sections

-- a custom section: a name, and any bytes
abbrev pub SpellsCustom : List ℕ → List ℕ → Type 0
SpellsCustom these = Just (0 ∷ []) ⨾ SpellsSized (λ content. (name : List ℕ) × (SpellsName name ⨾ Just these) content)

-- some custom sections
abbrev pub SpellsCustoms : List ℕ → Type 0
SpellsCustoms bytes = (customs : List (List ℕ)) × SpellsAll SpellsCustom customs bytes

-- a section of this number behind some custom ones, or none
abbrev pub SpellsSection : ℕ → (List ℕ → Type 0) → Type 0 → List ℕ → Type 0
SpellsSection number Content Absent =
    SpellsCustoms ⨾ (λ bytes. ((bytes ≡ []) × Absent) ⊎ (Just (number ∷ []) ⨾ SpellsSized Content) bytes)

-- a section with a vector, or none where the vector is empty
abbrev pub SpellsRows : {A : Type 0} → ℕ → ℕ → (A → List ℕ → Type 0) → List A → List ℕ → Type 0
SpellsRows number most Item xs = SpellsSection number (SpellsVectorUpTo most Item xs) (xs ≡ [])

-- the data count section, or none
abbrev pub SpellsDataCount : Option ℕ → List ℕ → Type 0
SpellsDataCount count =
    SpellsSection 12 (λ bytes. (n : ℕ) × (count ≡ Some n) × (n ≤ MOST_SEGMENTS) × SpellsU32 n bytes) (count ≡ None)

-- ---- modules

abbrev pub magic : List ℕ
magic = 0x00 ∷ (0x61 ∷ (0x73 ∷ (0x6d ∷ [])))

abbrev pub version : List ℕ
version = 0x01 ∷ (0x00 ∷ (0x00 ∷ (0x00 ∷ [])))

-- the sections of a module in their order
abbrev pub SpellsSections : RawModule → Option ℕ → List ℕ → Type 0
SpellsSections raw count =
    SpellsRows 1 MOST_TYPES SpellsFuncType raw.types
    ⨾ (SpellsRows 2 (2 ^ 32 - 1) (SpellsImport raw.types) raw.imports
    ⨾ (SpellsRows 3 MOST_FUNCTIONS SpellsU32 raw.functions
    ⨾ (SpellsRows 4 1 SpellsTable raw.tables
    ⨾ (SpellsRows 5 1 SpellsMemory raw.memories
    ⨾ (SpellsRows 6 MOST_GLOBALS SpellsGlobal raw.globals
    ⨾ (SpellsRows 7 MOST_EXPORTS SpellsExport raw.exports
    ⨾ (SpellsRows 9 MOST_SEGMENTS SpellsElement raw.elements
    ⨾ (SpellsDataCount count
    ⨾ (SpellsRows 10 MOST_FUNCTIONS SpellsBody raw.bodies
    ⨾ (SpellsRows 11 MOST_SEGMENTS SpellsSegment raw.segments
    ⨾ SpellsCustoms))))))))))

-- a module: each function has a body, and the data count is that of the data segments
pub record SpellsModule (bytes : List ℕ) (raw : RawModule) : Type 0 where
  pub small : length bytes ≤ MOST_MODULE_BYTES
  pub paired : length raw.bodies ≡ length raw.functions
  pub count : Option ℕ
  pub counted : IfSome count (λ n. n ≡ length raw.segments)
  pub spelled : (Just magic ⨾ (Just version ⨾ SpellsSections raw count)) bytes
