use Rattle.wasm_check.proofs.Nestings.{one_nesting}
use Rattle.wasm_check.proofs.laws.one_nesting.Goals as goal

pub returns : goal.returns
returns c = λ ops a b first second. one_nesting ops a b first second
