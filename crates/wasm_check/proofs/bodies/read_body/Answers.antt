use Rattle.std.proofs.Common.{◌∷◌, [], ap, ◌∙◌, arith}
use Rattle.wasm_check.specs.declared.levels.LevelKind.TheVariants as levels
use Rattle.wasm_check.specs.Effects.{Context}
use Rattle.wasm_check.specs.Machine.{begun}
use Rattle.wasm_check.proofs.ReadCode.{begins, ends, ends_badly, goes_on, stops}
use Rattle.wasm_check.proofs.bodies.read_body.Goals as goal

pub loop-position-init : goal.loop-position-init
loop-position-init c = begins c.args.place.now c.args.code.now c.new-levels.result (c.new-levels.ensures ∙ ap (λ (C : Context). begun levels.Block C.result ∷ []) c.place.view_is)

pub loop-position-preserved : goal.loop-position-preserved
loop-position-preserved c =
    goes_on c.args.place.now c.args.code.now c.loop-position.position c.loop-position.levels c.step.new.levels c.index-code-position.result (omega arith) c.index-code-position.is c.loop-position.invariant
    c.in-Ok.ensures

pub returns-in-Err : goal.returns-in-Err
returns-in-Err c =
    stops c.args.place.now c.args.code.now c.loop-position.position c.loop-position.levels c.index-code-position.result c.in-Err.failure c.placed.result (omega arith) c.index-code-position.is
    c.loop-position.invariant c.in-Err.ensures c.placed.ensures

pub returns-in-Ok-end : goal.returns-in-Ok-end
returns-in-Ok-end c =
    ends c.args.place.now c.args.code.now c.loop-position.position c.loop-position.levels c.end.new.self (omega arith) c.loop-position.invariant c.in-Ok-end.ensures

pub returns : goal.returns
returns c =
    ends_badly c.args.place.now c.args.code.now c.loop-position.position c.loop-position.levels c.in-Err-end.failure c.placed-in-Err-end.result (omega arith) c.loop-position.invariant c.in-Err-end.ensures
    c.placed-in-Err-end.ensures
