-- Modules: what is read is spelled so, and what is spelled so is read.
use Rattle.std.proofs.Common.{◌≡◌, ℕ, ◌≤◌, ◌-◌, ◌^◌, nat_lt, ◌==◌, List, [], ◌∷◌, ◌++◌, length, Result, Ok, Err, Option, Some, None, IfSome, inl, inr, refl, sym, ap, subst, ◌∙◌, arith}
use Rattle.std.proofs.lemmas.Bool.{eq-eqb, eqb-true, le-ltb, ltb-false}
use Rattle.wasm_types.specs.declared.func_type.FuncType.{FuncType}
use Rattle.wasm_types.specs.declared.raw_module.Body.{Body}
use Rattle.wasm_types.specs.declared.raw_module.ElementPart.{ElementPart}
use Rattle.wasm_types.specs.declared.raw_module.Export.{Export}
use Rattle.wasm_types.specs.declared.raw_module.GlobalPart.{GlobalPart}
use Rattle.wasm_types.specs.declared.raw_module.Import.{Import}
use Rattle.wasm_types.specs.declared.raw_module.Limits.{Limits}
use Rattle.wasm_types.specs.declared.raw_module.RawModule.{RawModule}
use Rattle.wasm_types.specs.declared.raw_module.SegmentPart.{SegmentPart}
use Rattle.wasm_types.specs.declared.limits.TheConstants.{MOST_EXPORTS, MOST_FUNCTIONS, MOST_GLOBALS, MOST_MODULE_BYTES, MOST_SEGMENTS, MOST_TYPES}
use Rattle.wasm_decode.specs.declared.fault.Stop.{Stop}
use Rattle.wasm_decode.specs.declared.fault.Stop.TheVariants.{Short, Flaw}
use Rattle.wasm_decode.specs.declared.fault.WasmFault.{WasmFault}
use Rattle.wasm_decode.specs.declared.fault.WasmKind.TheVariants as kinds
use Rattle.wasm_decode.specs.Layout.{◌⨾◌, Just, SpellsVectorUpTo}
use Rattle.wasm_decode.specs.Modules.{SpellsBody, SpellsCustoms, SpellsDataCount, SpellsElement, SpellsExport, SpellsGlobal, SpellsImport, SpellsMemory, SpellsModule, SpellsRows, SpellsSegment, SpellsTable, magic, version}
use Rattle.wasm_decode.specs.ReadingModule.{code_at, customs_at, data_at, decoded, fault_at, module_at, nothing_more, placed, present, section_at}
use Rattle.wasm_decode.specs.ReadingSections.{body_at, element_at, export_at, global_at, import_at, memory_at, segment_at, single_at, table_at}
use Rattle.wasm_decode.specs.ReadingTypes.{func_type_at}
use Rattle.wasm_decode.specs.ReadingValues.{count_at, just_at, u32_at, vector_at}
use Rattle.wasm_decode.specs.Stops.{◌>>=◌, refused}
use Rattle.wasm_decode.specs.Types.{SpellsFuncType}
use Rattle.wasm_decode.specs.Values.{SpellsU32}
use Rattle.wasm_decode.proofs.EntryLaws.{body_again, body_takes, element_again, element_takes, export_again, export_takes, global_again, global_takes, memory_again, memory_takes, segment_again, segment_takes, single_again, single_takes, table_again, table_takes}
use Rattle.wasm_decode.proofs.Fronts.{Again, Front, Takes, both, chosen, found, go, just, just_is, left, same_found, same_value, seen, split, step, taken}
use Rattle.wasm_decode.proofs.ImportLaws.{import_again, import_takes}
use Rattle.wasm_decode.proofs.NumberLaws.{u32_again, u32_takes}
use Rattle.wasm_decode.proofs.SectionLaws.{Ahead, Next, ahead_end, ahead_of, counted_rows_take, customs_taken, next_counted, next_section, no_more, order, section_takes}
use Rattle.wasm_decode.proofs.TypeLaws.{func_type_again, func_type_takes}
use Rattle.wasm_decode.proofs.VectorLaws.{count_again, count_takes, from_whole, vector_again, vector_takes, whole}

-- ---- the header

just_takes : (place these bytes rest : List ℕ) → just_at place these bytes ≡ Ok rest → bytes ≡ these ++ rest
unfolding just_at
just_takes place [] bytes rest e = same_value e
just_takes place (wanted ∷ more) [] rest e = absurd cc
just_takes place (wanted ∷ more) (byte ∷ bytes) rest e =
    elim (chosen (byte == wanted) (just_at place more bytes) (refused kinds.Form place) (Ok rest) e) [
      | inl this ↦ ap (λ (b : ℕ). b ∷ bytes) (eqb-true byte wanted this.0) ∙ ap (λ (bs : List ℕ). wanted ∷ bs) (just_takes place more bytes rest this.1)
      | inr other ↦ absurd (refusing other.1)
    ]
  where
    refusing : (let r : Result (List ℕ) Stop = refused kinds.Form place in r) ≡ Ok rest → ⊥
    refusing f = cc

header_takes : (place these bytes rest : List ℕ) → just_at place these bytes ≡ Ok rest → Front (Just these) bytes rest
header_takes place these bytes rest e = just these bytes rest (just_takes place these bytes rest e)

just_again : (place these rest : List ℕ) → just_at place these (these ++ rest) ≡ Ok rest
unfolding just_at
just_again place [] rest = refl
just_again place (wanted ∷ more) rest = taken (wanted == wanted) (just_at place more (more ++ rest)) (refused kinds.Form place) (eq-eqb wanted wanted refl) ∙ just_again place more rest

header_again : (place these bytes rest : List ℕ) → Front (Just these) bytes rest → just_at place these bytes ≡ Ok rest
header_again place these bytes rest h = ap (just_at place these) (just_is these bytes rest h) ∙ just_again place these rest

-- ---- the data count

abbrev SpellsCount : Option ℕ → List ℕ → Type 0
SpellsCount count bytes = (n : ℕ) × (count ≡ Some n) × (n ≤ MOST_SEGMENTS) × SpellsU32 n bytes

count_present : Takes (present (count_at MOST_SEGMENTS)) SpellsCount
count_present bytes rest o e =
    let n = step {r = count_at MOST_SEGMENTS bytes} {next = λ n. Ok (Some n.0, n.1)} e in
    let same = same_found n.after in
    let count = count_takes MOST_SEGMENTS bytes rest n.value.0 (n.is ∙ ap (found n.value.0) same.1) in
    seen (λ front laid. (n.value.0, sym same.0, count.0, laid)) count.1

present_count : Again (present (count_at MOST_SEGMENTS)) SpellsCount
present_count bytes rest o h =
    let n : ℕ = h.laid.0 in
    let number : Front (SpellsU32 n) bytes rest = record { front = h.front; parts = h.parts; laid = h.laid.3 } in
    go (λ m. Ok (Some m.0, m.1)) (n, rest) (count_again MOST_SEGMENTS bytes rest n h.laid.2 number) (ap (λ (p : Option ℕ). found p rest) (sym h.laid.1))

-- ---- sections of a module

code_takes : (functions : ℕ) (bytes rest : List ℕ) (bodies : List Body) → code_at functions bytes ≡ Ok (bodies, rest) → (functions ≡ length bodies) × Front (SpellsRows 10 MOST_FUNCTIONS SpellsBody bodies) bytes rest
unfolding code_at
code_takes functions bytes rest bodies e = counted_rows_take 10 (Some functions) MOST_FUNCTIONS body_at SpellsBody body_takes bytes rest bodies e

data_takes : (count : Option ℕ) (bytes rest : List ℕ) (segments : List SegmentPart) → data_at count bytes ≡ Ok (segments, rest)
    → IfSome count (λ n. n ≡ length segments) × Front (SpellsRows 11 MOST_SEGMENTS SpellsSegment segments) bytes rest
unfolding data_at
data_takes count bytes rest segments e = counted_rows_take 11 count MOST_SEGMENTS segment_at SpellsSegment segment_takes bytes rest segments e

all_read : (bytes rest : List ℕ) → nothing_more bytes ≡ Ok rest → bytes ≡ []
all_read [] rest e = refl
all_read (first ∷ bytes) rest e = absurd cc

end_takes : (bytes rest : List ℕ) → (customs_at bytes >>= nothing_more) ≡ Ok rest → Front SpellsCustoms bytes []
end_takes bytes rest e =
    let customs = step {r = customs_at bytes} {next = nothing_more} e in
    subst (λ (r : List ℕ). Front SpellsCustoms bytes r) (all_read customs.value rest customs.after) (customs_taken bytes customs.value customs.is)

-- what the parts of a module are read as: each rest is named after the part in front of it
record Parts (bytes : List ℕ) (raw : RawModule) : Type 0 where
  header : List ℕ
  begin : List ℕ
  behind_types : List ℕ
  behind_imports : List ℕ
  behind_functions : List ℕ
  behind_tables : List ℕ
  behind_memories : List ℕ
  behind_globals : List ℕ
  behind_exports : List ℕ
  behind_elements : List ℕ
  behind_counted : List ℕ
  behind_bodies : List ℕ
  behind_segments : List ℕ
  behind_end : List ℕ
  count : Option ℕ
  header_is : just_at bytes magic bytes ≡ Ok header
  begin_is : just_at header version header ≡ Ok begin
  types_are : section_at 1 [] (vector_at MOST_TYPES func_type_at) begin ≡ Ok (raw.types, behind_types)
  imports_are : section_at 2 [] (vector_at (2 ^ 32 - 1) (import_at raw.types)) behind_types ≡ Ok (raw.imports, behind_imports)
  functions_are : section_at 3 [] (vector_at MOST_FUNCTIONS u32_at) behind_imports ≡ Ok (raw.functions, behind_functions)
  tables_are : section_at 4 [] (single_at table_at) behind_functions ≡ Ok (raw.tables, behind_tables)
  memories_are : section_at 5 [] (single_at memory_at) behind_tables ≡ Ok (raw.memories, behind_memories)
  globals_are : section_at 6 [] (vector_at MOST_GLOBALS global_at) behind_memories ≡ Ok (raw.globals, behind_globals)
  exports_are : section_at 7 [] (vector_at MOST_EXPORTS export_at) behind_globals ≡ Ok (raw.exports, behind_exports)
  elements_are : section_at 9 [] (vector_at MOST_SEGMENTS element_at) behind_exports ≡ Ok (raw.elements, behind_elements)
  count_is : section_at 12 None (present (count_at MOST_SEGMENTS)) behind_elements ≡ Ok (count, behind_counted)
  bodies_are : code_at (length raw.functions) behind_counted ≡ Ok (raw.bodies, behind_bodies)
  segments_are : data_at count behind_bodies ≡ Ok (raw.segments, behind_segments)
  end_is : (customs_at behind_segments >>= nothing_more) ≡ Ok behind_end

-- the lists of a module that stand in front of its tables
record Front3 : Type 0 where
  types : List FuncType
  imports : List Import
  functions : List ℕ

-- those in front of its elements
record Front7 : Type 0 where
  first : Front3
  tables : List Limits
  memories : List Limits
  globals : List GlobalPart
  exports : List Export

-- reading from the elements on
unfoldable read_last : Front7 → List ℕ → Result RawModule Stop
read_last f bytes = do
  elements ← section_at 9 [] (vector_at MOST_SEGMENTS element_at) bytes
  count ← section_at 12 None (present (count_at MOST_SEGMENTS)) elements.1
  bodies ← code_at (length f.first.functions) count.1
  segments ← data_at count.0 bodies.1
  customs_at segments.1 >>= nothing_more >>= λ rest.
      Ok (record { types = f.first.types; imports = f.first.imports; functions = f.first.functions; tables = f.tables; memories = f.memories; globals = f.globals; exports = f.exports; elements = elements.0; segments = segments.0; bodies = bodies.0 })

-- reading from the tables on
unfoldable read_later : Front3 → List ℕ → Result RawModule Stop
read_later f bytes = do
  tables ← section_at 4 [] (single_at table_at) bytes
  memories ← section_at 5 [] (single_at memory_at) tables.1
  globals ← section_at 6 [] (vector_at MOST_GLOBALS global_at) memories.1
  exports ← section_at 7 [] (vector_at MOST_EXPORTS export_at) globals.1
  read_last (record { first = f; tables = tables.0; memories = memories.0; globals = globals.0; exports = exports.0 }) exports.1

-- reading all
abbrev read_all : List ℕ → Result RawModule Stop
read_all bytes = do
  header ← just_at bytes magic bytes
  begin ← just_at header version header
  types ← section_at 1 [] (vector_at MOST_TYPES func_type_at) begin
  imports ← section_at 2 [] (vector_at (2 ^ 32 - 1) (import_at types.0)) types.1
  functions ← section_at 3 [] (vector_at MOST_FUNCTIONS u32_at) imports.1
  read_later (record { types = types.0; imports = imports.0; functions = functions.0 }) functions.1

all_is : (bytes : List ℕ) → module_at bytes ≡ read_all bytes
unfolding module_at read_later read_last
all_is bytes = refl

-- the lists that are read first
record Beginning (bytes : List ℕ) (f : Front3) (behind_functions : List ℕ) : Type 0 where
  header : List ℕ
  begin : List ℕ
  behind_types : List ℕ
  behind_imports : List ℕ
  header_is : just_at bytes magic bytes ≡ Ok header
  begin_is : just_at header version header ≡ Ok begin
  types_are : section_at 1 [] (vector_at MOST_TYPES func_type_at) begin ≡ Ok (f.types, behind_types)
  imports_are : section_at 2 [] (vector_at (2 ^ 32 - 1) (import_at f.types)) behind_types ≡ Ok (f.imports, behind_imports)
  functions_are : section_at 3 [] (vector_at MOST_FUNCTIONS u32_at) behind_imports ≡ Ok (f.functions, behind_functions)

-- those behind them
record Middle (bytes : List ℕ) (f : Front7) (behind_exports : List ℕ) : Type 0 where
  behind_tables : List ℕ
  behind_memories : List ℕ
  behind_globals : List ℕ
  tables_are : section_at 4 [] (single_at table_at) bytes ≡ Ok (f.tables, behind_tables)
  memories_are : section_at 5 [] (single_at memory_at) behind_tables ≡ Ok (f.memories, behind_memories)
  globals_are : section_at 6 [] (vector_at MOST_GLOBALS global_at) behind_memories ≡ Ok (f.globals, behind_globals)
  exports_are : section_at 7 [] (vector_at MOST_EXPORTS export_at) behind_globals ≡ Ok (f.exports, behind_exports)

-- a module of these lists
abbrev module_of : Front7 → List ElementPart → List Body → List SegmentPart → RawModule
module_of f elements bodies segments = record { types = f.first.types; imports = f.first.imports; functions = f.first.functions; tables = f.tables; memories = f.memories; globals = f.globals; exports = f.exports; elements = elements; segments = segments; bodies = bodies }

-- the rest
record Ending (bytes : List ℕ) (f : Front7) (raw : RawModule) : Type 0 where
  elements : List ElementPart
  count : Option ℕ
  bodies : List Body
  segments : List SegmentPart
  behind_elements : List ℕ
  behind_counted : List ℕ
  behind_bodies : List ℕ
  behind_segments : List ℕ
  behind_end : List ℕ
  elements_are : section_at 9 [] (vector_at MOST_SEGMENTS element_at) bytes ≡ Ok (elements, behind_elements)
  count_is : section_at 12 None (present (count_at MOST_SEGMENTS)) behind_elements ≡ Ok (count, behind_counted)
  bodies_are : code_at (length f.first.functions) behind_counted ≡ Ok (bodies, behind_bodies)
  segments_are : data_at count behind_bodies ≡ Ok (segments, behind_segments)
  end_is : (customs_at behind_segments >>= nothing_more) ≡ Ok behind_end
  made : module_of f elements bodies segments ≡ raw

beginning_of : (bytes : List ℕ) (raw : RawModule) → read_all bytes ≡ Ok raw → (f : Front3) × (behind : List ℕ) × Beginning bytes f behind × (read_later f behind ≡ Ok raw)
beginning_of bytes raw e =
    let header = step e in
    let begin = step header.after in
    let types = step begin.after in
    let imports = step types.after in
    let functions = step imports.after in (
      record { types = types.value.0; imports = imports.value.0; functions = functions.value.0 },
      functions.value.1,
      record {
        header = header.value;
        begin = begin.value;
        behind_types = types.value.1;
        behind_imports = imports.value.1;
        header_is = header.is;
        begin_is = begin.is;
        types_are = types.is;
        imports_are = imports.is;
        functions_are = functions.is;
      },
      functions.after,
    )

middle_of : (bytes : List ℕ) (first : Front3) (raw : RawModule) → read_later first bytes ≡ Ok raw → (f : Front7) × (behind : List ℕ) × (f.first ≡ first) × Middle bytes f behind × (read_last f behind ≡ Ok raw)
unfolding read_later
middle_of bytes first raw e =
    let tables = step e in
    let memories = step tables.after in
    let globals = step memories.after in
    let exports = step globals.after in (
      record { first = first; tables = tables.value.0; memories = memories.value.0; globals = globals.value.0; exports = exports.value.0 },
      exports.value.1,
      refl,
      record {
        behind_tables = tables.value.1;
        behind_memories = memories.value.1;
        behind_globals = globals.value.1;
        tables_are = tables.is;
        memories_are = memories.is;
        globals_are = globals.is;
        exports_are = exports.is;
      },
      exports.after,
    )

ending_of : (bytes : List ℕ) (f : Front7) (raw : RawModule) → read_last f bytes ≡ Ok raw → Ending bytes f raw
unfolding read_last
ending_of bytes f raw e =
    let elements = step e in
    let count = step elements.after in
    let bodies = step count.after in
    let segments = step bodies.after in
    let end = step segments.after in
    record {
      elements = elements.value.0;
      count = count.value.0;
      bodies = bodies.value.0;
      segments = segments.value.0;
      behind_elements = elements.value.1;
      behind_counted = count.value.1;
      behind_bodies = bodies.value.1;
      behind_segments = segments.value.1;
      behind_end = end.value;
      elements_are = elements.is;
      count_is = count.is;
      bodies_are = bodies.is;
      segments_are = segments.is;
      end_is = end.is;
      made = same_value end.after;
    }

joined_parts : (bytes behind_functions behind_exports : List ℕ) (f : Front7) (raw : RawModule) → Beginning bytes f.first behind_functions → Middle behind_functions f behind_exports → Ending behind_exports f raw → Parts bytes raw
joined_parts bytes behind_functions behind_exports f raw b m n = subst (Parts bytes) n.made (record {
  header = b.header;
  begin = b.begin;
  behind_types = b.behind_types;
  behind_imports = b.behind_imports;
  behind_functions = behind_functions;
  behind_tables = m.behind_tables;
  behind_memories = m.behind_memories;
  behind_globals = m.behind_globals;
  behind_exports = behind_exports;
  behind_elements = n.behind_elements;
  behind_counted = n.behind_counted;
  behind_bodies = n.behind_bodies;
  behind_segments = n.behind_segments;
  behind_end = n.behind_end;
  count = n.count;
  header_is = b.header_is;
  begin_is = b.begin_is;
  types_are = b.types_are;
  imports_are = b.imports_are;
  functions_are = b.functions_are;
  tables_are = m.tables_are;
  memories_are = m.memories_are;
  globals_are = m.globals_are;
  exports_are = m.exports_are;
  elements_are = n.elements_are;
  count_is = n.count_is;
  bodies_are = n.bodies_are;
  segments_are = n.segments_are;
  end_is = n.end_is;
})

parts_of : (bytes : List ℕ) (raw : RawModule) → module_at bytes ≡ Ok raw → Parts bytes raw
parts_of bytes raw e = from_beginning (beginning_of bytes raw (sym (all_is bytes) ∙ e))
  where
    from_middle : (first : Front3) (behind : List ℕ) → Beginning bytes first behind → (f : Front7) × (at : List ℕ) × (f.first ≡ first) × Middle behind f at × (read_last f at ≡ Ok raw) → Parts bytes raw
    from_middle first behind b (f, at, same, m, last) =
        joined_parts bytes behind at f raw (subst (λ (g : Front3). Beginning bytes g behind) (sym same) b) m (ending_of at f raw last)

    from_beginning : (f : Front3) × (behind : List ℕ) × Beginning bytes f behind × (read_later f behind ≡ Ok raw) → Parts bytes raw
    from_beginning (first, behind, b, later) = from_middle first behind b (middle_of behind first raw later)

-- the sections of a module from one on
abbrev FromSegments : RawModule → List ℕ → Type 0
FromSegments raw = SpellsRows 11 MOST_SEGMENTS SpellsSegment raw.segments ⨾ SpellsCustoms

abbrev FromBodies : RawModule → List ℕ → Type 0
FromBodies raw = SpellsRows 10 MOST_FUNCTIONS SpellsBody raw.bodies ⨾ FromSegments raw

abbrev FromCount : RawModule → Option ℕ → List ℕ → Type 0
FromCount raw count = SpellsDataCount count ⨾ FromBodies raw

abbrev FromElements : RawModule → Option ℕ → List ℕ → Type 0
FromElements raw count = SpellsRows 9 MOST_SEGMENTS SpellsElement raw.elements ⨾ FromCount raw count

abbrev FromExports : RawModule → Option ℕ → List ℕ → Type 0
FromExports raw count = SpellsRows 7 MOST_EXPORTS SpellsExport raw.exports ⨾ FromElements raw count

abbrev FromGlobals : RawModule → Option ℕ → List ℕ → Type 0
FromGlobals raw count = SpellsRows 6 MOST_GLOBALS SpellsGlobal raw.globals ⨾ FromExports raw count

abbrev FromMemories : RawModule → Option ℕ → List ℕ → Type 0
FromMemories raw count = SpellsRows 5 1 SpellsMemory raw.memories ⨾ FromGlobals raw count

abbrev FromTables : RawModule → Option ℕ → List ℕ → Type 0
FromTables raw count = SpellsRows 4 1 SpellsTable raw.tables ⨾ FromMemories raw count

abbrev FromFunctions : RawModule → Option ℕ → List ℕ → Type 0
FromFunctions raw count = SpellsRows 3 MOST_FUNCTIONS SpellsU32 raw.functions ⨾ FromTables raw count

abbrev FromImports : RawModule → Option ℕ → List ℕ → Type 0
FromImports raw count = SpellsRows 2 (2 ^ 32 - 1) (SpellsImport raw.types) raw.imports ⨾ FromFunctions raw count

abbrev FromTypes : RawModule → Option ℕ → List ℕ → Type 0
FromTypes raw count = SpellsRows 1 MOST_TYPES SpellsFuncType raw.types ⨾ FromImports raw count

from_segments : (bytes : List ℕ) (raw : RawModule) (p : Parts bytes raw) → Front (FromSegments raw) p.behind_bodies []
from_segments bytes raw p = both (data_takes p.count p.behind_bodies p.behind_segments raw.segments p.segments_are).1 (end_takes p.behind_segments p.behind_end p.end_is)

from_bodies : (bytes : List ℕ) (raw : RawModule) (p : Parts bytes raw) → Front (FromBodies raw) p.behind_counted []
from_bodies bytes raw p = both (code_takes (length raw.functions) p.behind_counted p.behind_bodies raw.bodies p.bodies_are).1 (from_segments bytes raw p)

from_count : (bytes : List ℕ) (raw : RawModule) (p : Parts bytes raw) → Front (FromCount raw p.count) p.behind_elements []
from_count bytes raw p = both (section_takes 12 None (present (count_at MOST_SEGMENTS)) SpellsCount count_present p.behind_elements p.behind_counted p.count p.count_is) (from_bodies bytes raw p)

from_elements : (bytes : List ℕ) (raw : RawModule) (p : Parts bytes raw) → Front (FromElements raw p.count) p.behind_exports []
from_elements bytes raw p = both (section_takes 9 [] (vector_at MOST_SEGMENTS element_at) (SpellsVectorUpTo MOST_SEGMENTS SpellsElement) (vector_takes MOST_SEGMENTS element_at SpellsElement element_takes) p.behind_exports p.behind_elements raw.elements p.elements_are) (from_count bytes raw p)

from_exports : (bytes : List ℕ) (raw : RawModule) (p : Parts bytes raw) → Front (FromExports raw p.count) p.behind_globals []
from_exports bytes raw p = both (section_takes 7 [] (vector_at MOST_EXPORTS export_at) (SpellsVectorUpTo MOST_EXPORTS SpellsExport) (vector_takes MOST_EXPORTS export_at SpellsExport export_takes) p.behind_globals p.behind_exports raw.exports p.exports_are) (from_elements bytes raw p)

from_globals : (bytes : List ℕ) (raw : RawModule) (p : Parts bytes raw) → Front (FromGlobals raw p.count) p.behind_memories []
from_globals bytes raw p = both (section_takes 6 [] (vector_at MOST_GLOBALS global_at) (SpellsVectorUpTo MOST_GLOBALS SpellsGlobal) (vector_takes MOST_GLOBALS global_at SpellsGlobal global_takes) p.behind_memories p.behind_globals raw.globals p.globals_are) (from_exports bytes raw p)

from_memories : (bytes : List ℕ) (raw : RawModule) (p : Parts bytes raw) → Front (FromMemories raw p.count) p.behind_tables []
from_memories bytes raw p = both (section_takes 5 [] (single_at memory_at) (SpellsVectorUpTo 1 SpellsMemory) (single_takes memory_at SpellsMemory memory_takes) p.behind_tables p.behind_memories raw.memories p.memories_are) (from_globals bytes raw p)

from_tables : (bytes : List ℕ) (raw : RawModule) (p : Parts bytes raw) → Front (FromTables raw p.count) p.behind_functions []
from_tables bytes raw p = both (section_takes 4 [] (single_at table_at) (SpellsVectorUpTo 1 SpellsTable) (single_takes table_at SpellsTable table_takes) p.behind_functions p.behind_tables raw.tables p.tables_are) (from_memories bytes raw p)

from_functions : (bytes : List ℕ) (raw : RawModule) (p : Parts bytes raw) → Front (FromFunctions raw p.count) p.behind_imports []
from_functions bytes raw p = both (section_takes 3 [] (vector_at MOST_FUNCTIONS u32_at) (SpellsVectorUpTo MOST_FUNCTIONS SpellsU32) (vector_takes MOST_FUNCTIONS u32_at SpellsU32 u32_takes) p.behind_imports p.behind_functions raw.functions p.functions_are) (from_tables bytes raw p)

from_imports : (bytes : List ℕ) (raw : RawModule) (p : Parts bytes raw) → Front (FromImports raw p.count) p.behind_types []
from_imports bytes raw p = both (section_takes 2 [] (vector_at (2 ^ 32 - 1) (import_at raw.types)) (SpellsVectorUpTo (2 ^ 32 - 1) (SpellsImport raw.types)) (vector_takes (2 ^ 32 - 1) (import_at raw.types) (SpellsImport raw.types) (import_takes raw.types)) p.behind_types p.behind_imports raw.imports p.imports_are) (from_functions bytes raw p)

from_types : (bytes : List ℕ) (raw : RawModule) (p : Parts bytes raw) → Front (FromTypes raw p.count) p.begin []
from_types bytes raw p = both (section_takes 1 [] (vector_at MOST_TYPES func_type_at) (SpellsVectorUpTo MOST_TYPES SpellsFuncType) (vector_takes MOST_TYPES func_type_at SpellsFuncType func_type_takes) p.begin p.behind_types raw.types p.types_are) (from_imports bytes raw p)

pub module_takes : (bytes : List ℕ) (raw : RawModule) → length bytes ≤ MOST_MODULE_BYTES → module_at bytes ≡ Ok raw → SpellsModule bytes raw
module_takes bytes raw small e = spelled_by bytes raw small (parts_of bytes raw e)
  where
    spelled_by : (bytes : List ℕ) (raw : RawModule) → length bytes ≤ MOST_MODULE_BYTES → Parts bytes raw → SpellsModule bytes raw
    spelled_by bytes raw small p = record {
      small = small;
      paired = sym (code_takes (length raw.functions) p.behind_counted p.behind_bodies raw.bodies p.bodies_are).0;
      count = p.count;
      counted = (data_takes p.count p.behind_bodies p.behind_segments raw.segments p.segments_are).0;
      spelled = whole (both (header_takes bytes magic bytes p.header p.header_is) (both (header_takes p.header version p.header p.begin p.begin_is) (from_types bytes raw p)));
    }

pub read_is_spelled : (bytes : List ℕ) (raw : RawModule) → decoded bytes ≡ Ok raw → SpellsModule bytes raw
unfolding decoded
read_is_spelled bytes raw e =
    elim (chosen (nat_lt MOST_MODULE_BYTES (length bytes)) (Err (fault_at kinds.Limit 0)) (placed (length bytes) (module_at bytes)) (Ok raw) e) [
      | inl large ↦ absurd (refusing large.1)
      | inr few ↦ module_takes bytes raw (ltb-false MOST_MODULE_BYTES (length bytes) few.0) (unplaced (module_at bytes) few.1)
    ]
  where
    refusing : (let r : Result RawModule WasmFault = Err (fault_at kinds.Limit 0) in r) ≡ Ok raw → ⊥
    refusing f = cc

    unplaced : (read : Result RawModule Stop) → placed (length bytes) read ≡ Ok raw → read ≡ Ok raw
    unplaced (Ok x) f = ap (λ (y : RawModule). let r : Result RawModule Stop = Ok y in r) cc
    unplaced (Err Short) f = absurd cc
    unplaced (Err (Flaw kind left)) f = absurd cc

-- ---- and the other way round

-- the sections that are ahead
ahead_segments : (raw : RawModule) (bytes : List ℕ) → Front (FromSegments raw) bytes [] → Ahead (order 10) bytes
ahead_segments raw = ahead_of (SpellsVectorUpTo MOST_SEGMENTS SpellsSegment raw.segments) (raw.segments ≡ []) SpellsCustoms 11 (order 10) (omega arith) (omega arith) (ahead_end (order 11))

ahead_bodies : (raw : RawModule) (bytes : List ℕ) → Front (FromBodies raw) bytes [] → Ahead (order 12) bytes
ahead_bodies raw = ahead_of (SpellsVectorUpTo MOST_FUNCTIONS SpellsBody raw.bodies) (raw.bodies ≡ []) (FromSegments raw) 10 (order 12) (omega arith) (omega arith) (ahead_segments raw)

ahead_count : (raw : RawModule) (count : Option ℕ) (bytes : List ℕ) → Front (FromCount raw count) bytes [] → Ahead (order 9) bytes
ahead_count raw count = ahead_of (SpellsCount count) (count ≡ None) (FromBodies raw) 12 (order 9) (omega arith) (omega arith) (ahead_bodies raw)

ahead_elements : (raw : RawModule) (count : Option ℕ) (bytes : List ℕ) → Front (FromElements raw count) bytes [] → Ahead (order 7) bytes
ahead_elements raw count = ahead_of (SpellsVectorUpTo MOST_SEGMENTS SpellsElement raw.elements) (raw.elements ≡ []) (FromCount raw count) 9 (order 7) (omega arith) (omega arith) (ahead_count raw count)

ahead_exports : (raw : RawModule) (count : Option ℕ) (bytes : List ℕ) → Front (FromExports raw count) bytes [] → Ahead (order 6) bytes
ahead_exports raw count = ahead_of (SpellsVectorUpTo MOST_EXPORTS SpellsExport raw.exports) (raw.exports ≡ []) (FromElements raw count) 7 (order 6) (omega arith) (omega arith) (ahead_elements raw count)

ahead_globals : (raw : RawModule) (count : Option ℕ) (bytes : List ℕ) → Front (FromGlobals raw count) bytes [] → Ahead (order 5) bytes
ahead_globals raw count = ahead_of (SpellsVectorUpTo MOST_GLOBALS SpellsGlobal raw.globals) (raw.globals ≡ []) (FromExports raw count) 6 (order 5) (omega arith) (omega arith) (ahead_exports raw count)

ahead_memories : (raw : RawModule) (count : Option ℕ) (bytes : List ℕ) → Front (FromMemories raw count) bytes [] → Ahead (order 4) bytes
ahead_memories raw count = ahead_of (SpellsVectorUpTo 1 SpellsMemory raw.memories) (raw.memories ≡ []) (FromGlobals raw count) 5 (order 4) (omega arith) (omega arith) (ahead_globals raw count)

ahead_tables : (raw : RawModule) (count : Option ℕ) (bytes : List ℕ) → Front (FromTables raw count) bytes [] → Ahead (order 3) bytes
ahead_tables raw count = ahead_of (SpellsVectorUpTo 1 SpellsTable raw.tables) (raw.tables ≡ []) (FromMemories raw count) 4 (order 3) (omega arith) (omega arith) (ahead_memories raw count)

ahead_functions : (raw : RawModule) (count : Option ℕ) (bytes : List ℕ) → Front (FromFunctions raw count) bytes [] → Ahead (order 2) bytes
ahead_functions raw count = ahead_of (SpellsVectorUpTo MOST_FUNCTIONS SpellsU32 raw.functions) (raw.functions ≡ []) (FromTables raw count) 3 (order 2) (omega arith) (omega arith) (ahead_tables raw count)

ahead_imports : (raw : RawModule) (count : Option ℕ) (bytes : List ℕ) → Front (FromImports raw count) bytes [] → Ahead (order 1) bytes
ahead_imports raw count = ahead_of (SpellsVectorUpTo (2 ^ 32 - 1) (SpellsImport raw.types) raw.imports) (raw.imports ≡ []) (FromFunctions raw count) 2 (order 1) (omega arith) (omega arith) (ahead_functions raw count)

-- what is read of each list
next_types : (raw : RawModule) (count : Option ℕ) (other bytes : List ℕ) → customs_at other ≡ customs_at bytes → Front (FromTypes raw count) bytes []
    → Next (section_at 1 [] (vector_at MOST_TYPES func_type_at) other) raw.types (FromImports raw count)
next_types raw count other bytes same h =
    next_section 1 [] (vector_at MOST_TYPES func_type_at) (SpellsVectorUpTo MOST_TYPES SpellsFuncType) (FromImports raw count) (vector_again MOST_TYPES func_type_at SpellsFuncType func_type_again) (omega arith) other bytes raw.types same h (ahead_imports raw count)

next_imports : (raw : RawModule) (count : Option ℕ) (other bytes : List ℕ) → customs_at other ≡ customs_at bytes → Front (FromImports raw count) bytes []
    → Next (section_at 2 [] (vector_at (2 ^ 32 - 1) (import_at raw.types)) other) raw.imports (FromFunctions raw count)
next_imports raw count other bytes same h =
    next_section 2 [] (vector_at (2 ^ 32 - 1) (import_at raw.types)) (SpellsVectorUpTo (2 ^ 32 - 1) (SpellsImport raw.types)) (FromFunctions raw count) (vector_again (2 ^ 32 - 1) (import_at raw.types) (SpellsImport raw.types) (import_again raw.types)) (omega arith) other bytes raw.imports same h (ahead_functions raw count)

next_functions : (raw : RawModule) (count : Option ℕ) (other bytes : List ℕ) → customs_at other ≡ customs_at bytes → Front (FromFunctions raw count) bytes []
    → Next (section_at 3 [] (vector_at MOST_FUNCTIONS u32_at) other) raw.functions (FromTables raw count)
next_functions raw count other bytes same h =
    next_section 3 [] (vector_at MOST_FUNCTIONS u32_at) (SpellsVectorUpTo MOST_FUNCTIONS SpellsU32) (FromTables raw count) (vector_again MOST_FUNCTIONS u32_at SpellsU32 u32_again) (omega arith) other bytes raw.functions same h (ahead_tables raw count)

next_tables : (raw : RawModule) (count : Option ℕ) (other bytes : List ℕ) → customs_at other ≡ customs_at bytes → Front (FromTables raw count) bytes []
    → Next (section_at 4 [] (single_at table_at) other) raw.tables (FromMemories raw count)
next_tables raw count other bytes same h =
    next_section 4 [] (single_at table_at) (SpellsVectorUpTo 1 SpellsTable) (FromMemories raw count) (single_again table_at SpellsTable table_again) (omega arith) other bytes raw.tables same h (ahead_memories raw count)

next_memories : (raw : RawModule) (count : Option ℕ) (other bytes : List ℕ) → customs_at other ≡ customs_at bytes → Front (FromMemories raw count) bytes []
    → Next (section_at 5 [] (single_at memory_at) other) raw.memories (FromGlobals raw count)
next_memories raw count other bytes same h =
    next_section 5 [] (single_at memory_at) (SpellsVectorUpTo 1 SpellsMemory) (FromGlobals raw count) (single_again memory_at SpellsMemory memory_again) (omega arith) other bytes raw.memories same h (ahead_globals raw count)

next_globals : (raw : RawModule) (count : Option ℕ) (other bytes : List ℕ) → customs_at other ≡ customs_at bytes → Front (FromGlobals raw count) bytes []
    → Next (section_at 6 [] (vector_at MOST_GLOBALS global_at) other) raw.globals (FromExports raw count)
next_globals raw count other bytes same h =
    next_section 6 [] (vector_at MOST_GLOBALS global_at) (SpellsVectorUpTo MOST_GLOBALS SpellsGlobal) (FromExports raw count) (vector_again MOST_GLOBALS global_at SpellsGlobal global_again) (omega arith) other bytes raw.globals same h (ahead_exports raw count)

next_exports : (raw : RawModule) (count : Option ℕ) (other bytes : List ℕ) → customs_at other ≡ customs_at bytes → Front (FromExports raw count) bytes []
    → Next (section_at 7 [] (vector_at MOST_EXPORTS export_at) other) raw.exports (FromElements raw count)
next_exports raw count other bytes same h =
    next_section 7 [] (vector_at MOST_EXPORTS export_at) (SpellsVectorUpTo MOST_EXPORTS SpellsExport) (FromElements raw count) (vector_again MOST_EXPORTS export_at SpellsExport export_again) (omega arith) other bytes raw.exports same h (ahead_elements raw count)

next_elements : (raw : RawModule) (count : Option ℕ) (other bytes : List ℕ) → customs_at other ≡ customs_at bytes → Front (FromElements raw count) bytes []
    → Next (section_at 9 [] (vector_at MOST_SEGMENTS element_at) other) raw.elements (FromCount raw count)
next_elements raw count other bytes same h =
    next_section 9 [] (vector_at MOST_SEGMENTS element_at) (SpellsVectorUpTo MOST_SEGMENTS SpellsElement) (FromCount raw count) (vector_again MOST_SEGMENTS element_at SpellsElement element_again) (omega arith) other bytes raw.elements same h (ahead_count raw count)

next_count : (raw : RawModule) (count : Option ℕ) (other bytes : List ℕ) → customs_at other ≡ customs_at bytes → Front (FromCount raw count) bytes []
    → Next (section_at 12 None (present (count_at MOST_SEGMENTS)) other) count (FromBodies raw)
next_count raw count other bytes same h =
    next_section 12 None (present (count_at MOST_SEGMENTS)) SpellsCount (FromBodies raw) present_count (omega arith) other bytes count same h (ahead_bodies raw)

next_bodies : (raw : RawModule) (functions : ℕ) (other bytes : List ℕ) → functions ≡ length raw.bodies → customs_at other ≡ customs_at bytes → Front (FromBodies raw) bytes [] → Next (code_at functions other) raw.bodies (FromSegments raw)
unfolding code_at
next_bodies raw functions other bytes paired same h =
    next_counted 10 (Some functions) MOST_FUNCTIONS body_at SpellsBody (FromSegments raw) body_again (omega arith) other bytes raw.bodies paired same h (ahead_segments raw)

next_segments : (raw : RawModule) (count : Option ℕ) (other bytes : List ℕ) → IfSome count (λ n. n ≡ length raw.segments) → customs_at other ≡ customs_at bytes → Front (FromSegments raw) bytes []
    → Next (data_at count other) raw.segments SpellsCustoms
unfolding data_at
next_segments raw count other bytes counted same h =
    next_counted 11 count MOST_SEGMENTS segment_at SpellsSegment SpellsCustoms segment_again (omega arith) other bytes raw.segments counted same h (ahead_end (order 11))

-- the lists of a module in front of its tables, and of its elements
abbrev front3_of : RawModule → Front3
front3_of raw = record { types = raw.types; imports = raw.imports; functions = raw.functions }

abbrev front7_of : RawModule → Front7
front7_of raw = record { first = front3_of raw; tables = raw.tables; memories = raw.memories; globals = raw.globals; exports = raw.exports }

last_again : (f : Front7) (bytes : List ℕ) (raw : RawModule) → Ending bytes f raw → read_last f bytes ≡ Ok raw
unfolding read_last
last_again f bytes raw n =
    rw (n.elements_are, n.count_is, n.bodies_are, n.segments_are, n.end_is) (ap (λ (m : RawModule). let r : Result RawModule Stop = Ok m in r) n.made)

later_again : (f : Front7) (bytes behind : List ℕ) (raw : RawModule) → Middle bytes f behind → read_last f behind ≡ Ok raw → read_later f.first bytes ≡ Ok raw
unfolding read_later
later_again f bytes behind raw m last = rw (m.tables_are, m.memories_are, m.globals_are, m.exports_are) last

all_again : (f : Front3) (bytes behind : List ℕ) (raw : RawModule) → Beginning bytes f behind → read_later f behind ≡ Ok raw → read_all bytes ≡ Ok raw
all_again f bytes behind raw b later = rw (b.header_is, b.begin_is, b.types_are, b.imports_are, b.functions_are) later

ending_again : (raw : RawModule) (count : Option ℕ) (other bytes : List ℕ) → length raw.bodies ≡ length raw.functions → IfSome count (λ n. n ≡ length raw.segments) → customs_at other ≡ customs_at bytes → Front (FromElements raw count) bytes []
    → read_last (front7_of raw) other ≡ Ok raw
ending_again raw count other bytes paired counted same h =
    let elements = next_elements raw count other bytes same h in
    let number = next_count raw count elements.after elements.middle elements.same elements.tail in
    let bodies = next_bodies raw (length raw.functions) number.after number.middle (sym paired) number.same number.tail in
    let segments = next_segments raw count bodies.after bodies.middle counted bodies.same bodies.tail in
    let end : customs_at segments.after ≡ Ok [] = segments.same ∙ no_more segments.middle segments.tail in
    last_again (front7_of raw) other raw (record {
      elements = raw.elements;
      count = count;
      bodies = raw.bodies;
      segments = raw.segments;
      behind_elements = elements.after;
      behind_counted = number.after;
      behind_bodies = bodies.after;
      behind_segments = segments.after;
      behind_end = [];
      elements_are = elements.is;
      count_is = number.is;
      bodies_are = bodies.is;
      segments_are = segments.is;
      end_is = ap (λ (r : Result (List ℕ) Stop). r >>= nothing_more) end;
      made = refl;
    })

middle_again : (raw : RawModule) (count : Option ℕ) (other bytes : List ℕ) → length raw.bodies ≡ length raw.functions → IfSome count (λ n. n ≡ length raw.segments) → customs_at other ≡ customs_at bytes → Front (FromTables raw count) bytes []
    → read_later (front3_of raw) other ≡ Ok raw
middle_again raw count other bytes paired counted same h =
    let tables = next_tables raw count other bytes same h in
    let memories = next_memories raw count tables.after tables.middle tables.same tables.tail in
    let globals = next_globals raw count memories.after memories.middle memories.same memories.tail in
    let exports = next_exports raw count globals.after globals.middle globals.same globals.tail in
    later_again (front7_of raw) other exports.after raw (record {
      behind_tables = tables.after;
      behind_memories = memories.after;
      behind_globals = globals.after;
      tables_are = tables.is;
      memories_are = memories.is;
      globals_are = globals.is;
      exports_are = exports.is;
    }) (ending_again raw count exports.after exports.middle paired counted exports.same exports.tail)

pub module_again : (bytes : List ℕ) (raw : RawModule) → SpellsModule bytes raw → module_at bytes ≡ Ok raw
module_again bytes raw h =
    let header = split {First = Just magic} {Second = Just version ⨾ FromTypes raw h.count} (from_whole (Just magic ⨾ (Just version ⨾ FromTypes raw h.count)) bytes h.spelled) in
    let begin = split {First = Just version} {Second = FromTypes raw h.count} header.second in
    let types = next_types raw h.count begin.middle begin.middle refl begin.second in
    let imports = next_imports raw h.count types.after types.middle types.same types.tail in
    let functions = next_functions raw h.count imports.after imports.middle imports.same imports.tail in
    all_is bytes ∙ all_again (front3_of raw) bytes functions.after raw (record {
      header = header.middle;
      begin = begin.middle;
      behind_types = types.after;
      behind_imports = imports.after;
      header_is = header_again bytes magic bytes header.middle header.first;
      begin_is = header_again header.middle version header.middle begin.middle begin.first;
      types_are = types.is;
      imports_are = imports.is;
      functions_are = functions.is;
    }) (middle_again raw h.count functions.after functions.middle h.paired h.counted functions.same functions.tail)

pub spelled_is_read : (bytes : List ℕ) (raw : RawModule) → SpellsModule bytes raw → decoded bytes ≡ Ok raw
unfolding decoded
spelled_is_read bytes raw h =
    left (nat_lt MOST_MODULE_BYTES (length bytes)) (Err (fault_at kinds.Limit 0)) (placed (length bytes) (module_at bytes)) (le-ltb MOST_MODULE_BYTES (length bytes) h.small) ∙ ap (placed (length bytes)) (module_again bytes raw h)

-- bytes spell one module at most
pub one_module : (bytes : List ℕ) (a b : RawModule) → SpellsModule bytes a → SpellsModule bytes b → a ≡ b
one_module bytes a b first second = same (sym (spelled_is_read bytes a first) ∙ spelled_is_read bytes b second)
  where
    same : (let r : Result RawModule WasmFault = Ok a in r) ≡ Ok b → a ≡ b
    same e = cc
