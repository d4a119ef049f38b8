use Rattle.std.proofs.Common.{refl}
use Rattle.fil_address.proofs.BytesFaults.{fault_is_no_id, more_is_no_id}
use Rattle.fil_address.proofs.reading.id_of.Goals as goal

pub returns-in_default-clause-fault : goal.returns-in_default-clause-fault
returns-in_default-clause-fault c = (refl, fault_is_no_id c.args.bytes.now _ c.in_default.ensures)

pub returns-then-length-bytes-clause-fault : goal.returns-then-length-bytes-clause-fault
returns-then-length-bytes-clause-fault c =
    (refl, more_is_no_id c.args.bytes.now _ _ c.in-Ok.ensures c.if-length-bytes.true)
