use Rattle.std.proofs.Common.{sym, ◌∙◌}
use Rattle.dag_cbor.proofs.CidLaw.{cid_whole, cid_longer, no_cid}
use Rattle.dag_cbor.proofs.link.whole_cid.Goals as goal

pub returns-then-len-bytes : goal.returns-then-len-bytes
returns-then-len-bytes c =
    cid_whole c.in-Ok.cid c.args.bytes.now c.in-Ok.ensures.found.0 c.in-Ok.ensures.cid c.in-Ok.ensures.found.1 (sym c.if-len-bytes.true ∙ c.in-Ok.ensures.found.2)

pub returns-else-len-bytes : goal.returns-else-len-bytes
returns-else-len-bytes c =
    cid_longer c.in-Ok.cid c.args.bytes.now c.in-Ok.ensures.found.0 c.in-Ok.ensures.cid c.in-Ok.ensures.found.1 (λ e. c.if-len-bytes.false (c.in-Ok.ensures.found.2 ∙ sym e))

pub returns-in-Err-Fault : goal.returns-in-Err-Fault
returns-in-Err-Fault c = no_cid c.args.bytes.now (rw c.in-Err-Fault.field-0-is at c.in-Err-Fault.ensures).fault
