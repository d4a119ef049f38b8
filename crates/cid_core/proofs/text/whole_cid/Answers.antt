use Rattle.std.proofs.Common.{arith}
use Rattle.cid_core.proofs.CidTexts.{are_bytes, form_none, whole_found, whole_none}
use Rattle.cid_core.proofs.text.whole_cid.Goals.{then-length-bytes+else-version-eq1, else-length-bytes}
use Rattle.cid_core.proofs.text.whole_cid.Goals as goal

pub returns-in-Ok-clause-found : goal.returns-in-Ok-clause-found
returns-in-Ok-clause-found c =
    whole_found c.args.bytes.now c.in-Ok.ensures.found.0 c.in-Ok.cid (are_bytes c.args.bytes.now c.type_inv.bytes) c.in-Ok.ensures.cid c.in-Ok.ensures.found.1 (omega (arith, c.in-Ok.ensures.found.2)) (omega arith)

pub returns-in-Ok-2-clause-fault : goal.returns-in-Ok-2-clause-fault
returns-in-Ok-2-clause-fault c =
    whole_none c.args.bytes.now c.in-Ok.ensures.found.0 c.in-Ok.cid (are_bytes c.args.bytes.now c.type_inv.bytes) c.in-Ok.ensures.cid c.in-Ok.ensures.found.1
    (λ size one. elim c.if-length-bytes.branch [
      | then-length-bytes+else-version-eq1 w ↦ w.if-version-eq1.false (omega (arith, w.version.ensures.value))
      | else-length-bytes w ↦ w.if-length-bytes.false (omega (arith, c.in-Ok.ensures.found.2))
    ])

pub returns-in-Err-Fault-clause-fault : goal.returns-in-Err-Fault-clause-fault
returns-in-Err-Fault-clause-fault c =
    form_none c.args.bytes.now (are_bytes c.args.bytes.now c.type_inv.bytes) (rw (c.in-Err-Fault.is, c.in-Err-Fault.field-0-is) at c.read_cid.ensures.fault)
