use Rattle.fvm_run.proofs.line.write_refusal.Goals as goal

pub returns-in-Cbor : goal.returns-in-Cbor
returns-in-Cbor g c = rw c.in-Cbor.is (rw c.cbor_kind_name.ensures at c.write_name_line-in-Cbor.ensures)

pub returns-in-NotBuilt : goal.returns-in-NotBuilt
returns-in-NotBuilt g c = rw c.in-NotBuilt.is (rw c.from.ensures at c.write_number_line.ensures)
