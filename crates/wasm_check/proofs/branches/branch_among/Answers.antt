use Rattle.std.proofs.Common.{List, ap, subst, sym, ◌∙◌}
use Rattle.wasm_types.specs.declared.val_type.ValType.{ValType}
use Rattle.wasm_check.specs.Effects.{leaves}
use Rattle.wasm_check.specs.Machine.{acted, LeavesOrNoMemory}
use Rattle.wasm_check.proofs.Jumps.{all_agree}
use Rattle.wasm_check.proofs.branches.branch_among.Goals as goal

pub returns : goal.returns
returns c =
    let blocks = c.args.levels.now in
    let jumps = all_agree c.args.place.now blocks c.args.default c.args.labels.now c.in_ok-wanted.wanted c.in_ok-wanted.ensures
    (sym c.are_labels.ensures ∙ c.if-not-are_labels.false) (sym c.ask_for.ensures ∙ c.if-not-ask_for.false) in
    subst (LeavesOrNoMemory c.jump.result c.jump.new.self)
    (ap (λ (takes : List ValType). acted (leaves takes) blocks) c.list_below_index-2.ensures ∙ sym jumps) c.jump.ensures
