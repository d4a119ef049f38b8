use Rattle.std.proofs.Common.{◌-◌, length, refl, arith}
use Rattle.dag_cbor.proofs.SkipFronts.{no_longer, cut_off, no_item_there, is_fault}
use Rattle.dag_cbor.proofs.front.split_item.Goals as goal

pub overflow_sub-len : goal.overflow_sub-len
overflow_sub-len c = omega (arith, no_longer c.args.depth c.args.bytes.now c.in-Ok.rest.now (λ i. omega (arith, c.type_inv.bytes i)) c.in-Ok.ensures)

pub returns-in-Ok-clause-found : goal.returns-in-Ok-clause-found
returns-in-Ok-clause-found c =
    cut_off c.args.depth c.args.bytes.now c.in-Ok.rest.now c.split_at.result.0.now c.split_at.result.1.now (length c.args.bytes.now - length c.in-Ok.rest.now) (λ i. omega (arith, c.type_inv.bytes i)) c.in-Ok.ensures refl c.split_at.ensures.front c.split_at.ensures.back

pub returns-in-Err-clause-only : goal.returns-in-Err-clause-only
returns-in-Err-clause-only c = no_item_there c.args.depth c.args.bytes.now c.in-Err.field-0 c.in-Err.ensures

pub returns-in-Err-clause-fault : goal.returns-in-Err-clause-fault
returns-in-Err-clause-fault c = is_fault c.args.depth c.args.bytes.now c.in-Err.field-0 c.in-Err.ensures
