-- Parts as the code has them.
use Rattle.std.specs.Prelude.{if◌then◌else◌}
use Rattle.wasm_decode.specs.declared.fault.Stop.{Stop}
use Rattle.wasm_decode.specs.declared.fault.Stop.TheVariants.{Short, Flaw}
use Rattle.wasm_decode.specs.declared.fault.WasmKind.TheVariants as kinds
use Rattle.wasm_decode.specs.declared.part.Part.{Part as PartOfCode}
use Rattle.wasm_decode.specs.Stops.{Part, left_around}

-- a part without where it lies in memory
abbrev pub part_of : PartOfCode → Part
part_of part = record { content = part.content.now; behind = part.behind.now; is_cut = part.is_cut; left = part.left }

-- why reading stops around a part, where it stops so in it
abbrev pub stop_around : Part → Stop → Stop
stop_around part (Flaw kind left) = Flaw kind (left_around part left)
stop_around part Short = if part.is_cut then Short else Flaw kinds.Form part.left
