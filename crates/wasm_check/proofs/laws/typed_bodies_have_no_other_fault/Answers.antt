use Rattle.wasm_check.proofs.TypedBodies.{typed_body_fault}
use Rattle.wasm_check.proofs.laws.typed_bodies_have_no_other_fault.Goals as goal

pub returns : goal.returns
returns c = λ raw fault at typed. typed_body_fault raw at.type_index at.body (record { position = fault.position; kind = fault.kind }) at.verdict typed
