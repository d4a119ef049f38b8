use Rattle.wasm_check.proofs.Runs.{none_beside, one_fault as one_first_fault}
use Rattle.wasm_check.proofs.verdicts.one_verdict.Goals as goal

pub returns : goal.returns
returns c = record { valid = λ raw fault valid first. none_beside valid first; one_fault = λ raw first second f g. one_first_fault raw first second f g }
