use Rattle.std.proofs.Common.{arith}
use Rattle.dag_cbor.proofs.ShortItems.{null_passed, number_passed, string_passed}
use Rattle.dag_cbor.proofs.short_item.behind_short_item.Goals as goal

pub returns-then-first-lt24 : goal.returns-then-first-lt24
returns-then-first-lt24 c = number_passed c.args.depth c.in_ok-first.first.now c.args.bytes.now c.in_ok-first.rest.now (omega (arith, c.if-depth-eq0.false)) (omega (arith, c.if-first-lt24.true)) c.in_ok-first.ensures.cases.0

pub returns-then-first : goal.returns-then-first
returns-then-first c = null_passed c.args.depth c.args.bytes.now c.in_ok-first.rest.now (omega (arith, c.if-depth-eq0.false)) (rw c.if-first.true at c.in_ok-first.ensures.cases.0)

pub returns : goal.returns
returns c =
    rw c.split_at.ensures.back
    (string_passed c.args.depth c.from-len.result c.in_ok-first.first.now c.args.bytes.now c.in_ok-first.rest.now (omega (arith, c.if-depth-eq0.false)) (omega (arith, c.if-len-ge24.false)) (omega (arith, c.from-len.ensures, c.if-first-lt-NO_BYTES.false))
    (omega (arith, c.if-rest-len.false)) c.in_ok-first.ensures.cases.0)
