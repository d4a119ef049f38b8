use Rattle.std.proofs.Common.{◌≡◌, true, take}
use Rattle.wasm_check.proofs.Jumps.{are_there}
use Rattle.wasm_check.proofs.branches.are_labels.Given as goal

abbrev pub invariant-loop-label : goal.invariant-loop-label
invariant-loop-label l = are_there l.levels (take l.label-index l.labels) ≡ true
