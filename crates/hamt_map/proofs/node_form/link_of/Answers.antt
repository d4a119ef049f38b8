use Rattle.hamt_map.proofs.ReadParts.{link_same, no_value}
use Rattle.hamt_map.proofs.node_form.link_of.Goals as goal

pub returns-in-Ok : goal.returns-in-Ok
returns-in-Ok c = link_same c.in-Ok.value c.args.bytes.now c.copy_of_link.result c.in-Ok.ensures.found.0 c.in-Ok.ensures.found.1 c.copy_of_link.ensures

pub returns-in-Err-Fault : goal.returns-in-Err-Fault
returns-in-Err-Fault c = λ value plain is. no_value c.args.bytes.now (rw c.in-Err-Fault.field-0-is at c.in-Err-Fault.ensures.only) value plain is
