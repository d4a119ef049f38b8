use Rattle.std.proofs.Common.{◌≡◌, ◌-◌, length, reverse}
use Rattle.wasm_decode.specs.ReadingInstructions.{instructions_at, expression_at}
use Rattle.wasm_decode.proofs.expression.expression_of.Given as goal

abbrev pub invariant-loop-read : goal.invariant-loop-read
invariant-loop-read l = instructions_at (length l.bytes - l._read) (reverse l.opened.items) l.done.items l.rest ≡ expression_at l.bytes
