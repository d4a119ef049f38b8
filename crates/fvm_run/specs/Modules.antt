-- What `check` answers to a Wasm module.
use Rattle.std.specs.Prelude.{◌≡◌, ℕ, List, [], ◌∷◌, ◌++◌, length, codes}
use Rattle.std.specs.Fmt.{decimal}
use Rattle.wasm_check.specs.Validity.{IsFirstFault, IsValid}
use Rattle.wasm_check.specs.declared.fault.CheckFault.{CheckFault}
use Rattle.wasm_decode.specs.Modules.{SpellsModule}
use Rattle.wasm_types.specs.declared.raw_module.Limits.{Limits}
use Rattle.wasm_types.specs.declared.raw_module.RawModule.{RawModule}
use Rattle.fvm_run.specs.declared.wasm_module.Counts.{Counts}

-- the first size of the memory, in pages; 0 where none is declared
abbrev pub pages_of : List Limits → ℕ
pages_of [] = 0
pages_of (memory ∷ others) = memory.least

-- how many types, imported functions, functions of its own and pages a module has
abbrev pub counts_of : RawModule → Counts
counts_of raw = record { types = length raw.types; imports = length raw.imports; functions = length raw.functions; pages = pages_of raw.memories }

-- a number behind a text
abbrev pub count_text : List ℕ → ℕ → List ℕ
count_text front number = front ++ decimal number

-- ok types <n> imports <n> functions <n> pages <n>
abbrev pub counts_line : Counts → List ℕ
counts_line c =
    count_text (codes "ok types ") c.types ++ (count_text (codes " imports ") c.imports
    ++ (count_text (codes " functions ") c.functions ++ (count_text (codes " pages ") c.pages ++ codes "\n")))

-- the input spells a valid module, and the text is the line on it
abbrev pub IsModuleText : List ℕ → List ℕ → Type 0
IsModuleText input text = (raw : RawModule) × SpellsModule input raw × IsValid raw × (text ≡ counts_line (counts_of raw))

-- the input spells a module with this first fault
abbrev pub HasCheckFault : List ℕ → CheckFault → Type 0
HasCheckFault input fault = (raw : RawModule) × SpellsModule input raw × IsFirstFault raw fault
