use Rattle.fil_address.proofs.parsing.bytes_in.Goals as goal

pub returns-in-Err-Fault-clause-fault : goal.returns-in-Err-Fault-clause-fault
returns-in-Err-Fault-clause-fault c =
    c.fault_of.ensures c.args.text.now (rw c.in-Err-Fault.field-0-is at c.in-Err-Fault.ensures.fault)
