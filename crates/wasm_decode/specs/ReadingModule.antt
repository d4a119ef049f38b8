-- Reading sections and modules.
use Rattle.std.specs.Prelude.{◌≡◌, ℕ, ◌-◌, ◌^◌, zero, suc, List, [], ◌∷◌, length, nat_lt, ◌==◌, if◌then◌else◌, Result, Ok, Err, Option, Some, None}
use Rattle.wasm_types.specs.declared.raw_module.Body.{Body}
use Rattle.wasm_types.specs.declared.raw_module.RawModule.{RawModule}
use Rattle.wasm_types.specs.declared.raw_module.SegmentPart.{SegmentPart}
use Rattle.wasm_types.specs.declared.limits.TheConstants.{MOST_EXPORTS, MOST_FUNCTIONS, MOST_GLOBALS, MOST_MODULE_BYTES, MOST_SEGMENTS, MOST_TYPES}
use Rattle.fil_base.specs.declared.failure.Failure.{Failure}
use Rattle.fil_base.specs.Failure.{IfFault}
use Rattle.wasm_decode.specs.declared.fault.Stop.{Stop}
use Rattle.wasm_decode.specs.declared.fault.Stop.TheVariants.{Short, Flaw}
use Rattle.wasm_decode.specs.declared.fault.WasmFault.{WasmFault}
use Rattle.wasm_decode.specs.declared.fault.WasmKind.{WasmKind}
use Rattle.wasm_decode.specs.declared.fault.WasmKind.TheVariants as kinds
use Rattle.wasm_decode.specs.Modules.{magic, version}
use Rattle.wasm_decode.specs.ReadingSections.{body_at, counted_at, element_at, export_at, global_at, import_at, memory_at, segment_at, single_at, table_at}
use Rattle.wasm_decode.specs.ReadingTypes.{func_type_at}
use Rattle.wasm_decode.specs.ReadingValues.{count_at, just_at, name_at, part_at, sized_at, u32_at, vector_at}
use Rattle.wasm_decode.specs.Stops.{◌>>=◌, Found, Part, closed, refused}

-- ---- custom sections

-- the content of a custom section: a name, and any bytes
abbrev pub custom_content : Part → Found (List ℕ)
custom_content part = name_at part.content >>= λ name. (if part.is_cut then Err Short else Ok (name.0, []))

-- a custom section behind its number: the rest
unfoldable pub custom_at : List ℕ → Result (List ℕ) Stop
custom_at bytes = part_at bytes >>= λ part. closed part (custom_content part) >>= λ name. Ok name.1

-- at most so many custom sections: the rest
unfoldable pub customs_from : ℕ → List ℕ → Result (List ℕ) Stop
customs_from zero bytes = Ok bytes
customs_from (suc most) [] = Ok []
customs_from (suc most) (zero ∷ rest) = custom_at rest >>= customs_from most
customs_from (suc most) (suc n ∷ rest) = Ok (suc n ∷ rest)

-- all custom sections at the front, of which there are no more than bytes: the rest
unfoldable pub customs_at : List ℕ → Result (List ℕ) Stop
customs_at bytes = customs_from (length bytes) bytes

-- ---- other sections

-- a section of this number, or what stands for it where there is none
abbrev pub this_section : {A : Type 0} → ℕ → A → (List ℕ → Found A) → List ℕ → Found A
this_section number absent content [] = Ok (absent, [])
this_section number absent content (first ∷ rest) = if first == number then sized_at content rest else Ok (absent, first ∷ rest)

-- the same behind custom sections
unfoldable pub section_at : {A : Type 0} → ℕ → A → (List ℕ → Found A) → List ℕ → Found A
section_at number absent content bytes = customs_at bytes >>= this_section number absent content

-- something that may be absent
abbrev pub present : {A : Type 0} → (List ℕ → Found A) → List ℕ → Found (Option A)
present content bytes = content bytes >>= λ x. Ok (Some x.0, x.1)

-- a section that cannot stand here, or the end of the bytes where a section is still wanted
abbrev pub no_section : {A : Type 0} → List ℕ → Result A Stop
no_section [] = Err Short
no_section (first ∷ rest) = refused (if first == 8 then kinds.Start else kinds.Form) (first ∷ rest)

-- the rows of a section, behind which one is missing if there is none and some are wanted
abbrev pub wanted_rows : {A : Type 0} → ℕ → Option (List A) × List ℕ → Found (List A)
wanted_rows wanted (Some xs, rest) = Ok (xs, rest)
wanted_rows wanted (None, rest) = if wanted == 0 then Ok ([], rest) else (customs_at rest >>= no_section)

-- nothing but custom sections
abbrev pub nothing_more : List ℕ → Result (List ℕ) Stop
nothing_more [] = Ok []
nothing_more (first ∷ rest) = no_section (first ∷ rest)

-- how many rows a count wants
abbrev pub wanted_by : Option ℕ → ℕ
wanted_by None = 0
wanted_by (Some n) = n

-- the code section, which has a body for each function
unfoldable pub code_at : ℕ → List ℕ → Found (List Body)
code_at functions bytes =
    section_at 10 None (present (counted_at (Some functions) MOST_FUNCTIONS body_at)) bytes >>= wanted_rows functions

-- the data section, which has as many segments as were counted
unfoldable pub data_at : Option ℕ → List ℕ → Found (List SegmentPart)
data_at count bytes = section_at 11 None (present (counted_at count MOST_SEGMENTS segment_at)) bytes >>= wanted_rows (wanted_by count)

-- a module, all of the bytes
unfoldable pub module_at : List ℕ → Result RawModule Stop
module_at bytes = do
  header ← just_at bytes magic bytes
  begin ← just_at header version header
  types ← section_at 1 [] (vector_at MOST_TYPES func_type_at) begin
  imports ← section_at 2 [] (vector_at (2 ^ 32 - 1) (import_at types.0)) types.1
  functions ← section_at 3 [] (vector_at MOST_FUNCTIONS u32_at) imports.1
  tables ← section_at 4 [] (single_at table_at) functions.1
  memories ← section_at 5 [] (single_at memory_at) tables.1
  globals ← section_at 6 [] (vector_at MOST_GLOBALS global_at) memories.1
  exports ← section_at 7 [] (vector_at MOST_EXPORTS export_at) globals.1
  elements ← section_at 9 [] (vector_at MOST_SEGMENTS element_at) exports.1
  count ← section_at 12 None (present (count_at MOST_SEGMENTS)) elements.1
  bodies ← code_at (length functions.0) count.1
  segments ← data_at count.0 bodies.1
  customs_at segments.1 >>= nothing_more >>= λ rest.
      Ok (record { types = types.0; imports = imports.0; functions = functions.0; tables = tables.0; memories = memories.0; globals = globals.0; exports = exports.0; elements = elements.0; segments = segments.0; bodies = bodies.0 })

-- ---- the place of a fault

-- a fault, so many bytes from the beginning
abbrev pub fault_at : WasmKind → ℕ → WasmFault
fault_at kind at = record { kind = kind; at = at }

-- the same of bytes that have this length
abbrev pub placed : ℕ → Result RawModule Stop → Result RawModule WasmFault
placed len (Ok raw) = Ok raw
placed len (Err Short) = Err (fault_at kinds.Form len)
placed len (Err (Flaw kind left)) = Err (fault_at kind (len - left))

-- the module that bytes spell, or the first fault
unfoldable pub decoded : List ℕ → Result RawModule WasmFault
decoded bytes = if nat_lt MOST_MODULE_BYTES (length bytes) then Err (fault_at kinds.Limit 0) else placed (length bytes) (module_at bytes)

-- what a function returned is this, unless there was no memory
abbrev pub Answers : Result RawModule (Failure WasmFault) → Result RawModule WasmFault → Type 0
Answers (Ok raw) read = read ≡ Ok raw
Answers (Err failure) read = IfFault failure (λ fault. read ≡ Err fault)
