use Rattle.std.proofs.Common.{◌≡◌, ◌+◌, ap, sym, subst, get_or, refl, arith}
use Rattle.fil_base.specs.VarintFault.{FoundVarint}
use Rattle.fil_base.proofs.Varints.{ReadSoFar, read_fits, read_last, read_long, read_more, read_not_shortest, shifted}
use Rattle.fil_base.proofs.varint.read_varint.Goals as goal

pub returns-then-i-gt0 : goal.returns-then-i-gt0
returns-then-i-gt0 c =
    read_not_shortest c.args.bytes.now c.loop-i.i c.loop-i.number 0 c.loop-i.invariant (omega arith) (omega arith) (omega arith) refl c.if-i-gt0.true

pub overflow_add-number : goal.overflow_add-number
overflow_add-number c =
    omega (arith, read_fits c.args.bytes.now c.loop-i.i c.loop-i.number _ c.from.result c.loop-i.invariant (omega arith) c.from.ensures)

pub returns-then-byte-lt128 : goal.returns-then-byte-lt128
returns-then-byte-lt128 c =
    let byte = get_or c.args.bytes.now c.loop-i.i 0 in
    let sum = ap (λ group. c.loop-i.number + group) (shifted c.loop-i.i byte c.from.result (omega arith) c.from.ensures) in
    subst (λ n. FoundVarint c.args.bytes.now n (c.loop-i.i + 1)) (sym sum) (read_last c.args.bytes.now c.loop-i.i c.loop-i.number byte c.loop-i.invariant (omega arith) (omega arith) refl c.if-byte-lt128.true (λ h. grind arith))

pub loop-i-preserved : goal.loop-i-preserved
loop-i-preserved c =
    let byte = get_or c.args.bytes.now c.loop-i.i 0 in
    let sum = ap (λ group. c.loop-i.number + group) (shifted c.loop-i.i byte c.from.result (omega arith) c.from.ensures) in
    subst (λ n. ReadSoFar c.args.bytes.now (c.loop-i.i + 1) n) (sym sum) (read_more c.args.bytes.now c.loop-i.i c.loop-i.number byte c.loop-i.invariant (omega arith) refl c.if-byte-lt128.false (omega (arith, c.type_inv.bytes c.loop-i.i)))

pub returns : goal.returns
returns c =
    let end : c.loop-i.i ≡ 9 = omega arith in
    read_long c.args.bytes.now c.loop-i.number (subst (λ i. ReadSoFar c.args.bytes.now i c.loop-i.number) end c.loop-i.invariant)
