use Rattle.std.proofs.Common.{◌≡◌, ◌-◌, length}
use Rattle.wasm_decode.specs.ReadingModule.{customs_at, customs_from}
use Rattle.wasm_decode.proofs.custom.customs_of.Given as goal

abbrev pub invariant-loop-read : goal.invariant-loop-read
invariant-loop-read l = customs_from (length l.bytes - l._read) l.rest ≡ customs_at l.bytes
