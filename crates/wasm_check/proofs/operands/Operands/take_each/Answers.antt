use Rattle.wasm_check.proofs.Exits.{handed_on}
use Rattle.wasm_check.proofs.Fits.{one_taken, one_wrong}
use Rattle.wasm_check.proofs.operands.Operands.take_each.Goals as goal

pub returns-in_err-take_one-clause-taken : goal.returns-in_err-take_one-clause-taken
returns-in_err-take_one-clause-taken c =
    handed_on _ _ _ _ c.from_residual.ensures.1
    (one_wrong c.args.types.now c.loop-taken.taken c.args.self.now c.loop-taken.self _ c.in_err-take_one.field-0.0 c.loop-taken-test.true c.loop-taken.invariant c.in_err-take_one.ensures.taken)

pub loop-taken-preserved : goal.loop-taken-preserved
loop-taken-preserved c =
    one_taken c.args.types.now c.loop-taken.taken c.args.self.now c.loop-taken.self c.take_one.new.self _ c.loop-taken-test.true c.loop-taken.invariant
    c.in_ok-take_one.ensures.taken c.in_ok-take_one.ensures.shrinks
