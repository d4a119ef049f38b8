use Rattle.wasm_check.proofs.TypedBodies.{valid_bodies}
use Rattle.wasm_check.proofs.laws.valid_bodies_have_types.Goals as goal

pub returns : goal.returns
returns c = λ raw h. valid_bodies raw h.bodies
