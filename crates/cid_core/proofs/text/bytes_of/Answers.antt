use Rattle.cid_core.proofs.CidTexts.{letters_none}
use Rattle.cid_core.proofs.text.bytes_of.Goals as goal

pub returns-in-Err-Fault-clause-fault : goal.returns-in-Err-Fault-clause-fault
returns-in-Err-Fault-clause-fault c =
    letters_none c.args.letters.now _ (rw c.in-Err-Fault.field-0-is at c.in-Err-Fault.ensures.fault)
