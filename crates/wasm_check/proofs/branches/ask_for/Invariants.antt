use Rattle.std.proofs.Common.{◌≡◌, true, take}
use Rattle.wasm_check.proofs.Jumps.{all_ask}
use Rattle.wasm_check.proofs.branches.ask_for.Given as goal

abbrev pub invariant-loop-label : goal.invariant-loop-label
invariant-loop-label l = all_ask l.levels (take l.label-index l.labels) l.wanted ≡ true
