use Rattle.wasm_check.proofs.Typed.{accepted_from}
use Rattle.wasm_check.proofs.laws.accepted_code_has_a_type.Goals as goal

pub returns : goal.returns
returns c = λ C code s e. accepted_from C code s e
