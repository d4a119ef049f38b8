use Rattle.std.proofs.Common.{◌≡◌, drop}
use Rattle.wasm_check.specs.Modules.{are_distinct}
use Rattle.wasm_check.proofs.Names.{are_apart}
use Rattle.wasm_check.proofs.exports.are_distinct.Given as goal

-- the names differ if those that are left do, also from those so far
abbrev pub invariant-loop-export : goal.invariant-loop-export
invariant-loop-export l = are_distinct l.exports ≡ are_apart l.names.keys (drop l.export-index l.exports)
