-- What an answer of the decoder says of the grammar.
use Rattle.std.proofs.Common.{◌≡◌, ℕ, List, Result, Ok, Err, IfOk, IfErr, sym, ◌∙◌}
use Rattle.fil_base.specs.Failure.{IfFault}
use Rattle.fil_base.specs.declared.failure.Failure.{Failure}
use Rattle.fil_base.specs.declared.failure.Failure.TheVariants.{NoMemory, Fault}
use Rattle.wasm_types.specs.declared.raw_module.RawModule.{RawModule}
use Rattle.wasm_decode.specs.declared.fault.WasmFault.{WasmFault}
use Rattle.wasm_decode.specs.Modules.{SpellsModule}
use Rattle.wasm_decode.specs.ReadingModule.{Answers, decoded}
use Rattle.wasm_decode.proofs.ModuleLaws.{read_is_spelled, spelled_is_read}

-- a module that was decoded is spelled so
pub found_of : (bytes : List ℕ) (result : Result RawModule (Failure WasmFault)) → Answers result (decoded bytes) → IfOk result (SpellsModule bytes)
found_of bytes (Ok raw) is = read_is_spelled bytes raw is
found_of bytes (Err failure) is = tt

-- where there is a fault no module is spelled so
pub only_of : (bytes : List ℕ) (result : Result RawModule (Failure WasmFault)) → Answers result (decoded bytes) → IfErr result (λ failure. IfFault failure (λ fault. (raw : RawModule) → SpellsModule bytes raw → ⊥))
only_of bytes (Ok raw) is = tt
only_of bytes (Err NoMemory) is = tt
only_of bytes (Err (Fault fault)) is = λ raw spelled. apart raw (sym is ∙ spelled_is_read bytes raw spelled)
  where
    apart : (raw : RawModule) → (let r : Result RawModule WasmFault = Err fault in r) ≡ Ok raw → ⊥
    apart raw same = cc
