use Rattle.std.proofs.Common.{◌≡◌, ◌∙◌, ◌-◌, ◌+◌, ℕ, length, ap, arith}
use Rattle.std.proofs.lemmas.Result.{err_from_is_err_and}
use Rattle.wasm_decode.specs.ReadingModule.{customs_at, customs_from}
use Rattle.wasm_decode.proofs.Sections.{customs_all, customs_begun, customs_more, customs_none, customs_other, customs_stop}
use Rattle.wasm_decode.proofs.custom.customs_of.Goals as goal

pub loop-read-init : goal.loop-read-init
loop-read-init c = customs_begun c.args.bytes.now (length c.args.bytes.now - 0) (omega arith)

pub loop-read-preserved : goal.loop-read-preserved
loop-read-preserved c =
    let left : length c.args.bytes.now - (c.loop-read._read + 1) ≡ length c.args.bytes.now - c.loop-read._read - 1 = omega arith in
    ap (λ (n : ℕ). customs_from n c.in_ok-rest-in-Some.rest.now) left
    ∙ customs_more (length c.args.bytes.now - c.loop-read._read) c.in-Some.first.now c.loop-read.rest.now c.in-Some.behind.now c.in_ok-rest-in-Some.rest.now (customs_at c.args.bytes.now) (omega (arith, c.loop-read-test.true)) c.in-Some.ensures.cases.0 c.if-first-ne0.false c.in_ok-rest-in-Some.ensures c.loop-read.invariant

pub returns-in-None : goal.returns-in-None
returns-in-None c = customs_none (length c.args.bytes.now - c.loop-read._read) c.loop-read.rest.now (customs_at c.args.bytes.now) (omega (arith, c.loop-read-test.true)) c.in-None.ensures.cases c.loop-read.invariant

pub returns-then-first-ne0 : goal.returns-then-first-ne0
returns-then-first-ne0 c =
    customs_other (length c.args.bytes.now - c.loop-read._read) c.in-Some.first.now c.loop-read.rest.now c.in-Some.behind.now (customs_at c.args.bytes.now) (omega (arith, c.loop-read-test.true)) c.in-Some.ensures.cases.0 (omega (arith, c.if-first-ne0.true)) c.loop-read.invariant

pub returns-in_err-rest-in-Some : goal.returns-in_err-rest-in-Some
returns-in_err-rest-in-Some c =
    let p = err_from_is_err_and c.from_residual.result c.from_residual.ensures.1 in
    rw (p.1, p.2) (customs_stop (length c.args.bytes.now - c.loop-read._read) c.in-Some.first.now c.loop-read.rest.now c.in-Some.behind.now c.in_err-rest-in-Some.field-0.0 (customs_at c.args.bytes.now) (omega (arith, c.loop-read-test.true)) c.in-Some.ensures.cases.0 c.if-first-ne0.false c.in_err-rest-in-Some.ensures c.loop-read.invariant)

pub returns : goal.returns
returns c = customs_all (length c.args.bytes.now - c.loop-read._read) c.loop-read.rest.now (customs_at c.args.bytes.now) (omega (arith, c.loop-read-test.false)) c.loop-read.invariant
