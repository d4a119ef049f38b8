use Rattle.std.proofs.Common.{arith}
use Rattle.dag_cbor.proofs.BlameNested.{fault_is}
use Rattle.dag_cbor.proofs.Whole.{whole_takes, nothing_whole}
use Rattle.dag_cbor.proofs.decoding.decode.Goals as goal

pub returns-in-Ok-clause-found : goal.returns-in-Ok-clause-found
returns-in-Ok-clause-found c = whole_takes c.args.bytes.now c.in-Ok.value (λ i. omega (arith, c.type_inv.bytes i)) c.in-Ok.ensures

pub returns-in-Err-Fault-clause-only : goal.returns-in-Err-Fault-clause-only
returns-in-Err-Fault-clause-only c = nothing_whole c.args.bytes.now c.in-Err-Fault.flaw (rw c.in-Err-Fault.field-0-is at c.in-Err-Fault.ensures)

pub returns-in-Err-Fault-clause-fault : goal.returns-in-Err-Fault-clause-fault
returns-in-Err-Fault-clause-fault c =
    rw c.saturating_sub.ensures (fault_is c.args.bytes.now c.in-Err-Fault.flaw (λ i. omega (arith, c.type_inv.bytes i)) (rw c.in-Err-Fault.field-0-is at c.in-Err-Fault.ensures))
