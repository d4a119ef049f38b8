use Rattle.wasm_types.proofs.Calls.{none_of}
use Rattle.wasm_types.proofs.syscall.syscall_number.Goals as goal

pub returns-clause-none : goal.returns-clause-none
returns-clause-none c = none_of c.args.module_name.now c.args.name.now c.number_with.result c.number_with.ensures
