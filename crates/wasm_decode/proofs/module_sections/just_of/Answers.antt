use Rattle.std.proofs.lemmas.Result.{err_from_is_err_and}
use Rattle.wasm_decode.proofs.Modules.{just_all, just_more, just_other, just_stop}
use Rattle.wasm_decode.proofs.module_sections.just_of.Goals as goal

pub returns-in_err-first : goal.returns-in_err-first
returns-in_err-first c =
    let p = err_from_is_err_and c.from_residual.result c.from_residual.ensures.1 in
    rw (p.1, p.2) (just_stop c.args.place.now c.in-Some.more.now c.loop-byte.rest.now c.loop-byte.left.now c.in-Some.byte.now c.in_err-first.field-0.0 _ c.in-Some.ensures.cases.0 c.in_err-first.ensures c.loop-byte.invariant)

pub returns-then-first-byte : goal.returns-then-first-byte
returns-then-first-byte c =
    just_other c.args.place.now c.in-Some.more.now c.loop-byte.rest.now c.loop-byte.left.now c.in_ok-first.behind.now c.in-Some.byte.now c.in_ok-first.first _ c.in-Some.ensures.cases.0 c.in_ok-first.ensures c.if-first-byte.true c.loop-byte.invariant

pub loop-byte-preserved : goal.loop-byte-preserved
loop-byte-preserved c =
    just_more c.args.place.now c.in-Some.more.now c.loop-byte.rest.now c.loop-byte.left.now c.in_ok-first.behind.now c.in-Some.byte.now c.in_ok-first.first _ c.in-Some.ensures.cases.0 c.in_ok-first.ensures c.if-first-byte.false c.loop-byte.invariant

pub returns : goal.returns
returns c = just_all c.args.place.now c.loop-byte.rest.now c.loop-byte.left.now _ c.in_default.ensures.cases c.loop-byte.invariant
