use Rattle.std.proofs.Common.{sym, subst}
use Rattle.wasm_types.specs.declared.opcode_table.OpcodeEntry.{OpcodeEntry}
use Rattle.wasm_types.specs.Opcodes.{prefixed, IsEntry}
use Rattle.wasm_types.proofs.Table.{prefixed_entry}
use Rattle.wasm_types.proofs.opcode_table.prefixed_at.Goals as goal

pub returns-clause-is : goal.returns-clause-is
returns-clause-is c = subst (λ (entry : OpcodeEntry). IsEntry (prefixed c.args.number) entry) (sym c.prefixed_in.ensures) (prefixed_entry c.args.number)
