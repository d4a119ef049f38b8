use Rattle.wasm_types.proofs.Calls.{IsLeft}
use Rattle.wasm_types.proofs.syscall.number_with.Given as goal

abbrev pub invariant-loop-number : goal.invariant-loop-number
invariant-loop-number l = IsLeft l.module_name l.name l.number
