use Rattle.std.proofs.Common.{◌<◌, ◌^◌, arith}
use Rattle.fil_base.proofs.Magnitude.{all_below, first_digits_fit}
use Rattle.fil_base.proofs.amount.big_endian.Goals as goal

pub overflow_mul-number : goal.overflow_mul-number
overflow_mul-number c =
    let small : c.loop-byte.number < 2 ^ 88 = first_digits_fit c.args.bytes.now c.loop-byte.byte-index _ (all_below _ (λ i. omega (arith, c.type_inv.bytes i))) (omega arith) c.loop-byte.invariant in
    omega arith

pub overflow_add-number : goal.overflow_add-number
overflow_add-number c =
    let small : c.loop-byte.number < 2 ^ 88 = first_digits_fit c.args.bytes.now c.loop-byte.byte-index _ (all_below _ (λ i. omega (arith, c.type_inv.bytes i))) (omega arith) c.loop-byte.invariant in
    omega (arith, c.from.ensures, c.type_inv.bytes c.loop-byte.byte-index)
