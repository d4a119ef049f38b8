use Rattle.wasm_check.proofs.Typed.{typed_to}
use Rattle.wasm_check.proofs.laws.typed_code_has_no_other_fault.Goals as goal

pub returns : goal.returns
returns c = λ C code h. typed_to C code h
