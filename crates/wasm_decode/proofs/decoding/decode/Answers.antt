use Rattle.wasm_decode.proofs.DecodeClauses.{found_of, only_of}
use Rattle.wasm_decode.proofs.decoding.decode.Goals as goal

pub returns-clause-found : goal.returns-clause-found
returns-clause-found c = found_of c.args.bytes.now c.module_or_fault.result c.module_or_fault.ensures

pub returns-clause-only : goal.returns-clause-only
returns-clause-only c = only_of c.args.bytes.now c.module_or_fault.result c.module_or_fault.ensures
