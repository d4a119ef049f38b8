-- What is known of a module that bytes spell, before it is checked.
use Rattle.std.specs.Prelude.{◌≡◌, ◌≤◌, ◌<◌, length}
use Rattle.std.specs.List.{All}
use Rattle.wasm_types.specs.declared.limits.TheConstants.{MOST_FUNCTIONS, MOST_MODULE_BYTES}
use Rattle.wasm_types.specs.declared.raw_module.Body.{Body}
use Rattle.wasm_types.specs.declared.raw_module.Import.{Import}
use Rattle.wasm_types.specs.declared.raw_module.RawModule.{RawModule}
use Rattle.wasm_check.specs.Code.{Code, IsNestedAs}

-- a body whose blocks nest, and which is no longer than a module
pub record IsReadableBody (body : Body) : Type 0 where
  pub code : Code
  pub nested : IsNestedAs body.code code
  pub small : length body.code ≤ MOST_MODULE_BYTES

-- the type of an import is there
abbrev pub HasImportType : RawModule → Import → Type 0
HasImportType raw i = i.type_index < length raw.types

-- each function has a body, the blocks of bodies nest, and the types of imports are there
pub record IsReadable (raw : RawModule) : Type 0 where
  pub paired : length raw.functions ≡ length raw.bodies
  pub few : length raw.bodies ≤ MOST_FUNCTIONS
  pub bodies : All IsReadableBody raw.bodies
  pub imports : All (HasImportType raw) raw.imports
