use Rattle.std.proofs.Common.{sym, subst}
use Rattle.wasm_types.specs.declared.opcode_table.OpcodeEntry.{OpcodeEntry}
use Rattle.wasm_types.specs.Opcodes.{byte, IsEntry, entry_of}
use Rattle.wasm_types.proofs.Table.{byte_entry}
use Rattle.wasm_types.proofs.opcode_table.opcode_at.Goals as goal

pub returns-clause-is : goal.returns-clause-is
unfolding entry_of
returns-clause-is c = subst (λ (entry : OpcodeEntry). IsEntry (byte c.args.opcode) entry) (sym c.entry_in.ensures) (byte_entry c.args.opcode c.ranges.opcode.fits)

pub returns-clause-exact : goal.returns-clause-exact
unfolding entry_of
returns-clause-exact c = c.entry_in.ensures
