use Rattle.std.proofs.Common.{◌≡◌, ◌∙◌, ◌-◌, ◌+◌, [], Bool, ℕ, List, length, reverse, ap, arith}
use Rattle.std.proofs.lemmas.Result.{err_from_is_err_and}
use Rattle.wasm_types.specs.declared.op.Op.{Op}
use Rattle.wasm_decode.specs.declared.expression.Place.TheVariants as places
use Rattle.wasm_decode.specs.ReadingInstructions.{expression_at, instructions_at}
use Rattle.wasm_decode.proofs.Expressions.{begun, gone_on, has_ended, has_failed, has_misplaced, run_out, stands}
use Rattle.wasm_decode.proofs.expression.expression_of.Goals as goal

pub loop-read-init : goal.loop-read-init
loop-read-init c =
    ap (λ (opened : List Bool). instructions_at (length c.args.bytes.now - 0) (reverse opened) c.new-done.result.items c.args.bytes.now) c.new-opened.ensures.items
    ∙ (ap (λ (done : List Op). instructions_at (length c.args.bytes.now - 0) [] done c.args.bytes.now) c.new-done.ensures.items
    ∙ begun c.args.bytes.now (length c.args.bytes.now - 0) (omega arith))

pub loop-read-preserved : goal.loop-read-preserved
loop-read-preserved c =
    let left : length c.args.bytes.now - (c.loop-read._read + 1) ≡ length c.args.bytes.now - c.loop-read._read - 1 = omega arith in
    ap (λ (n : ℕ). instructions_at n (reverse c.enter.new.opened.items) c.push.new.self.items c.in_ok-op.behind.now) left
    ∙ (ap (λ (done : List Op). instructions_at (length c.args.bytes.now - c.loop-read._read - 1) (reverse c.enter.new.opened.items) done c.in_ok-op.behind.now) c.in_ok-push.ensures.items
    ∙ gone_on (length c.args.bytes.now - c.loop-read._read) (reverse c.loop-read.opened.items) (reverse c.enter.new.opened.items) c.loop-read.done.items c.loop-read.rest.now c.in_ok-op.behind.now c.in_ok-op.op (expression_at c.args.bytes.now) (omega (arith, c.loop-read-test.true)) c.in_ok-op.ensures
    (stands c.turn_made_by.result c.in_ok-op.op (reverse c.loop-read.opened.items) (reverse c.enter.new.opened.items) c.in_ok-place.place places.Inside c.turn_made_by.ensures c.in_ok-place.ensures c.in-Inside.is) c.loop-read.invariant)

pub returns : goal.returns
returns c = run_out (length c.args.bytes.now - c.loop-read._read) (reverse c.loop-read.opened.items) c.loop-read.done.items c.loop-read.rest.now (expression_at c.args.bytes.now) (omega (arith, c.loop-read-test.false)) c.loop-read.invariant

pub returns-in_err-op : goal.returns-in_err-op
returns-in_err-op c =
    let p = err_from_is_err_and c.from_residual.result c.from_residual.ensures.1 in
    rw (p.1, p.2) (has_failed (length c.args.bytes.now - c.loop-read._read) (reverse c.loop-read.opened.items) c.loop-read.done.items c.loop-read.rest.now c.in_err-op.field-0.0 (expression_at c.args.bytes.now) (omega (arith, c.loop-read-test.true)) c.in_err-op.ensures c.loop-read.invariant)

pub returns-in-Ended : goal.returns-in-Ended
returns-in-Ended c =
    has_ended (length c.args.bytes.now - c.loop-read._read) (reverse c.loop-read.opened.items) c.loop-read.done.items c.of.result c.loop-read.rest.now c.in_ok-op.behind.now c.in_ok-op.op (expression_at c.args.bytes.now) (omega (arith, c.loop-read-test.true)) c.in_ok-op.ensures
    (stands c.turn_made_by.result c.in_ok-op.op (reverse c.loop-read.opened.items) (reverse c.enter.new.opened.items) c.in_ok-place.place places.Ended c.turn_made_by.ensures c.in_ok-place.ensures c.in-Ended.is) (c.of.ensures ∙ c.in_ok-push.ensures.items) c.loop-read.invariant

pub returns-in-Misplaced : goal.returns-in-Misplaced
returns-in-Misplaced c =
    has_misplaced (length c.args.bytes.now - c.loop-read._read) (reverse c.loop-read.opened.items) c.loop-read.done.items c.loop-read.rest.now c.in_ok-op.behind.now c.in_ok-op.op (expression_at c.args.bytes.now) (omega (arith, c.loop-read-test.true)) c.in_ok-op.ensures
    (stands c.turn_made_by.result c.in_ok-op.op (reverse c.loop-read.opened.items) (reverse c.enter.new.opened.items) c.in_ok-place.place places.Misplaced c.turn_made_by.ensures c.in_ok-place.ensures c.in-Misplaced.is) c.loop-read.invariant
