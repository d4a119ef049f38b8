use Rattle.std.proofs.Common.{arith}
use Rattle.dag_cbor.proofs.LinkBytes.{blob_found, no_blob}
use Rattle.dag_cbor.proofs.front.blob.Goals as goal

pub returns-in-Ok-clause-found : goal.returns-in-Ok-clause-found
returns-in-Ok-clause-found c = blob_found 0 c.args.bytes.now (c.in-Ok.found.0.now, c.in-Ok.found.1.now) (λ i. omega (arith, c.type_inv.bytes i)) c.in-Ok.ensures

pub returns-in-Err-clause-only : goal.returns-in-Err-clause-only
returns-in-Err-clause-only c = no_blob 0 c.args.bytes.now c.in-Err.field-0 c.in-Err.ensures
