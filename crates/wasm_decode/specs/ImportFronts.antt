-- The fronts of imports as the code has them.
use Rattle.wasm_decode.specs.declared.import.ImportFront.{ImportFront as FrontOfCode}
use Rattle.wasm_decode.specs.ReadingSections.{ImportFront}

-- a front without where it lies in memory
abbrev pub front_seen : FrontOfCode → ImportFront
front_seen front = record { module_name = front.module_name.now; name = front.name.now; kind = front.kind }
