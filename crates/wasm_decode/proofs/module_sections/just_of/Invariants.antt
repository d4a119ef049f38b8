use Rattle.std.proofs.Common.{◌≡◌, length}
use Rattle.wasm_decode.specs.ReadingValues.{just_at}
use Rattle.wasm_decode.proofs.module_sections.just_of.Given as goal

abbrev pub invariant-loop-byte : goal.invariant-loop-byte
invariant-loop-byte l = just_at l.place l.left l.rest ≡ just_at l.place l.wanted l.bytes

abbrev pub decreases-loop-byte : goal.decreases-loop-byte
decreases-loop-byte l = length l.left
