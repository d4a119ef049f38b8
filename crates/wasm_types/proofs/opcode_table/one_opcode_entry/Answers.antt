use Rattle.wasm_types.proofs.Table.{one_entry}
use Rattle.wasm_types.proofs.opcode_table.one_opcode_entry.Goals as goal

pub returns : goal.returns
returns c = one_entry
