-- The ends of modules: what is read of one from some section on.
use Rattle.std.specs.Prelude.{ℕ, ◌-◌, ◌^◌, List, [], length, Result, Ok, Option, None}
use Rattle.wasm_types.specs.declared.raw_module.RawModule.{RawModule}
use Rattle.wasm_types.specs.declared.limits.TheConstants.{MOST_EXPORTS, MOST_FUNCTIONS, MOST_GLOBALS, MOST_SEGMENTS, MOST_TYPES}
use Rattle.wasm_decode.specs.declared.fault.Stop.{Stop}
use Rattle.wasm_decode.specs.declared.module_sections.Front.{Front}
use Rattle.wasm_decode.specs.declared.module_sections.Middle.{Middle}
use Rattle.wasm_decode.specs.ReadingModule.{code_at, customs_at, data_at, nothing_more, present, section_at, wanted_by, wanted_rows}
use Rattle.wasm_decode.specs.ReadingSections.{counted_at, element_at, export_at, global_at, import_at, memory_at, single_at, table_at}
use Rattle.wasm_decode.specs.ReadingTypes.{func_type_at}
use Rattle.wasm_decode.specs.ReadingValues.{count_at, u32_at, vector_at}
use Rattle.wasm_decode.specs.Stops.{◌>>=◌, Found}

-- the rows of a section that is not absent where some are wanted
abbrev pub wanted_section_at : {A : Type 0} → ℕ → Option ℕ → ℕ → (List ℕ → Found A) → List ℕ → Found (List A)
wanted_section_at number wanted most item bytes =
    section_at number None (present (counted_at wanted most item)) bytes >>= wanted_rows (wanted_by wanted)

-- nothing but custom sections
abbrev pub end_at : List ℕ → Result (List ℕ) Stop
end_at bytes = customs_at bytes >>= nothing_more

-- a module from its bodies on
abbrev pub behind_count_at : Front → Middle → Option ℕ → List ℕ → Result RawModule Stop
behind_count_at front middle count bytes = do
  bodies ← code_at (length front.functions) bytes
  segments ← data_at count bodies.1
  end_at segments.1 >>= λ rest.
      Ok (record { types = front.types; imports = front.imports; functions = front.functions; tables = front.tables; memories = front.memories; globals = middle.globals; exports = middle.exports; elements = middle.elements; segments = segments.0; bodies = bodies.0 })

-- a module from its globals on
abbrev pub behind_memories_at : Front → List ℕ → Result RawModule Stop
behind_memories_at front bytes = do
  globals ← section_at 6 [] (vector_at MOST_GLOBALS global_at) bytes
  exports ← section_at 7 [] (vector_at MOST_EXPORTS export_at) globals.1
  elements ← section_at 9 [] (vector_at MOST_SEGMENTS element_at) exports.1
  count ← section_at 12 None (present (count_at MOST_SEGMENTS)) elements.1
  behind_count_at front (record { globals = globals.0; exports = exports.0; elements = elements.0 }) count.0 count.1

-- a module from its types on
abbrev pub behind_header_at : List ℕ → Result RawModule Stop
behind_header_at bytes = do
  types ← section_at 1 [] (vector_at MOST_TYPES func_type_at) bytes
  imports ← section_at 2 [] (vector_at (2 ^ 32 - 1) (import_at types.0)) types.1
  functions ← section_at 3 [] (vector_at MOST_FUNCTIONS u32_at) imports.1
  tables ← section_at 4 [] (single_at table_at) functions.1
  memories ← section_at 5 [] (single_at memory_at) tables.1
  behind_memories_at (record { types = types.0; imports = imports.0; functions = functions.0; tables = tables.0; memories = memories.0 }) memories.1
