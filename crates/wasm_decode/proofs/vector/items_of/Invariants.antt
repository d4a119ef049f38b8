use Rattle.std.proofs.Common.{◌≡◌, []}
use Rattle.wasm_decode.specs.ReadingValues.{items_at}
use Rattle.wasm_decode.proofs.vector.items_of.Given as goal

abbrev pub invariant-loop-left : goal.invariant-loop-left
invariant-loop-left g l = items_at g.T.Entry.reading l.done.items l.left l.rest ≡ items_at g.T.Entry.reading [] l.count l.bytes

abbrev pub decreases-loop-left : goal.decreases-loop-left
decreases-loop-left g l = l.left
