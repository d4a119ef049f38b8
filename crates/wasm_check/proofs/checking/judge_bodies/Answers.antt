use Rattle.std.proofs.Common.{get_or}
use Rattle.wasm_check.proofs.ReadBodies.{body_at, body_fails, is_typed, one_more_valid}
use Rattle.wasm_check.proofs.checking.judge_bodies.Goals as goal

pub judge_body-requires-clause-typed : goal.judge_body-requires-clause-typed
judge_body-requires-clause-typed c =
    is_typed c.args.raw.now c.loop-function.function (get_or c.as_slice-functions.result.now c.loop-function.function 0) c.index-bodies-function.result
    (body_at c.args.raw.now c.as_slice-functions.result.now c.as_slice-bodies.result.now c.loop-function.function c.index-bodies-function.result c.requires.readable c.requires.parts c.as_slice-functions.ensures
    c.as_slice-bodies.ensures c.loop-function-test.true c.index-bodies-function.is)

pub returns-in-Err-clause-fault : goal.returns-in-Err-clause-fault
returns-in-Err-clause-fault c =
    body_fails c.args.raw.now c.loop-function.function (get_or c.as_slice-functions.result.now c.loop-function.function 0) c.index-bodies-function.result c.in-Err.failure c.placed.result
    (body_at c.args.raw.now c.as_slice-functions.result.now c.as_slice-bodies.result.now c.loop-function.function c.index-bodies-function.result c.requires.readable c.requires.parts c.as_slice-functions.ensures
    c.as_slice-bodies.ensures c.loop-function-test.true c.index-bodies-function.is)
    c.in-Err.ensures.fault c.loop-function.invariant c.placed.ensures

pub loop-function-preserved : goal.loop-function-preserved
loop-function-preserved c =
    one_more_valid c.args.raw.now c.loop-function.function (get_or c.as_slice-functions.result.now c.loop-function.function 0) c.index-bodies-function.result
    (body_at c.args.raw.now c.as_slice-functions.result.now c.as_slice-bodies.result.now c.loop-function.function c.index-bodies-function.result c.requires.readable c.requires.parts c.as_slice-functions.ensures
    c.as_slice-bodies.ensures c.loop-function-test.true c.index-bodies-function.is)
    c.in-Ok.ensures.found c.loop-function.invariant
