use Rattle.std.proofs.Common.{arith}
use Rattle.dag_cbor.proofs.LinkBytes.{list_found, other_head, no_head}
use Rattle.dag_cbor.proofs.front.list_head.Goals as goal

pub returns-then-head-eq-LIST-clause-found : goal.returns-then-head-eq-LIST-clause-found
returns-then-head-eq-LIST-clause-found c = list_found c.args.bytes.now c.in-Ok.head c.in-Ok.rest.now (λ i. omega (arith, c.type_inv.bytes i)) c.in-Ok.ensures c.if-head-eq-LIST.true

pub returns-else-head-eq-LIST-clause-only : goal.returns-else-head-eq-LIST-clause-only
returns-else-head-eq-LIST-clause-only c = other_head c.args.bytes.now c.in-Ok.head c.in-Ok.rest.now c.in-Ok.ensures c.if-head-eq-LIST.false

pub returns-in-Err-clause-only : goal.returns-in-Err-clause-only
returns-in-Err-clause-only c = no_head c.args.bytes.now c.in-Err.field-0 c.in-Err.ensures
