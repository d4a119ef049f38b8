use Rattle.std.proofs.Common.{arith}
use Rattle.hamt_map.proofs.StateValues.{value_read, no_value_read}
use Rattle.hamt_map.proofs.state_value.value_in.Goals as goal

pub returns-in-Ok-clause-value : goal.returns-in-Ok-clause-value
returns-in-Ok-clause-value c = value_read c.args.bytes.now c.in-Ok.value c.in-Ok.ensures.found.0 c.in-Ok.ensures.found.1

pub returns-in-Err-Fault-clause-value : goal.returns-in-Err-Fault-clause-value
returns-in-Err-Fault-clause-value c = no_value_read c.args.bytes.now (λ i. omega (arith, c.type_inv.bytes i)) (rw c.in-Err-Fault.field-0-is at c.in-Err-Fault.ensures.only)
