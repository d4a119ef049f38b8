use Rattle.std.proofs.Common.{ap, sym, ◌∙◌, map, Option}
use Rattle.wasm_types.specs.declared.val_type.ValType.{ValType}
use Rattle.wasm_types.specs.Signatures.{is_same_result}
use Rattle.wasm_check.specs.Machine.{label_of}
use Rattle.wasm_check.proofs.Jumps.{asks_nothing}
use Rattle.wasm_check.proofs.branches.asks_for.Goals as goal

pub returns-in-Err : goal.returns-in-Err
returns-in-Err c =
    c.is_same_result-in-Err.ensures
    ∙ ap (λ (t : Option ValType). is_same_result t c.args.wanted) (sym (asks_nothing (map label_of c.args.levels.now) c.args.label c.in-Err.field-0 c.in-Err.ensures))
