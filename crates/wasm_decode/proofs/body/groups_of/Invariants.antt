use Rattle.std.proofs.Common.{◌≡◌, []}
use Rattle.wasm_decode.specs.ReadingSections.{groups_at}
use Rattle.wasm_decode.proofs.body.groups_of.Given as goal

abbrev pub invariant-loop-left : goal.invariant-loop-left
invariant-loop-left l = groups_at l.locals.items l.left l.rest ≡ groups_at [] l.count l.bytes

abbrev pub decreases-loop-left : goal.decreases-loop-left
decreases-loop-left l = l.left
