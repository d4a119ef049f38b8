use Rattle.std.proofs.Common.{◌≡◌, []}
use Rattle.wasm_decode.specs.ReadingSections.{import_at}
use Rattle.wasm_decode.specs.ReadingValues.{items_at}
use Rattle.wasm_decode.proofs.import.all_imports_of.Given as goal

abbrev pub invariant-loop-left : goal.invariant-loop-left
invariant-loop-left l = items_at (import_at l.types) l.done.items l.left l.rest ≡ items_at (import_at l.types) [] l.count l.bytes

abbrev pub decreases-loop-left : goal.decreases-loop-left
decreases-loop-left l = l.left
