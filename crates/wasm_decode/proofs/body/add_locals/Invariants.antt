use Rattle.std.proofs.Common.{◌≡◌, ◌++◌, replicate}
use Rattle.wasm_decode.proofs.body.add_locals.Given as goal

abbrev pub invariant-loop-added : goal.invariant-loop-added
invariant-loop-added l = l.locals.items ≡ l.fn.locals.items ++ replicate l._added l.kind
