use Rattle.wasm_types.specs.Signatures.{type_of}
use Rattle.wasm_types.proofs.SameTypes.{same_test}
use Rattle.wasm_types.proofs.signature.Signature.is_type.Goals as goal

pub returns-clause-exact : goal.returns-clause-exact
returns-clause-exact c = same_test c.has_parts.result (type_of c.args.self) c.args.other.now c.has_parts.ensures
