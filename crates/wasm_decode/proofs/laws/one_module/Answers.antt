use Rattle.wasm_decode.proofs.ModuleLaws.{one_module}
use Rattle.wasm_decode.proofs.laws.one_module.Goals as goal

pub returns : goal.returns
returns c = λ bytes a b first second. one_module bytes a b first second
