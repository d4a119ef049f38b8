use Rattle.wasm_check.proofs.Exits.{handed_on, leaves_as}
use Rattle.wasm_check.proofs.Fits.{above_taken, above_wrong}
use Rattle.wasm_check.proofs.operands.Operands.take.Goals as goal

pub returns-in_err-take_each-clause-taken : goal.returns-in_err-take_each-clause-taken
returns-in_err-take_each-clause-taken c =
    handed_on _ _ _ _ c.from_residual.ensures.1
    (above_wrong c.args.types.now c.args.above.now c.args.self.now c.in_err-take_each.field-0.0 c.if-lacks.ensures c.in_err-take_each.ensures.taken)

pub returns-clause-taken : goal.returns-clause-taken
returns-clause-taken c =
    leaves_as _ _ _ _ (above_taken c.args.types.now c.args.above.now c.args.self.now c.take_each.new.self c.if-lacks.ensures c.in_ok-take_each.ensures.taken)
    c.take_each-2.ensures.taken
