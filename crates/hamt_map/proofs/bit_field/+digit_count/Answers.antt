use Rattle.std.proofs.Common.{◌+◌, ap, sym, ◌∙◌, arith}
use Rattle.std.proofs.lemmas.Int.Digits.{length-digits_of-le, length-digits_of_step}
use Rattle.hamt_map.proofs.bit_field.+digit_count.Goals as goal

pub returns-else-number-eq0-clause-count : goal.returns-else-number-eq0-clause-count
returns-else-number-eq0-clause-count t c =
    ap (λ k. k + 1) c.digit_count.ensures.count ∙ sym (length-digits_of_step 256 c.args.number (omega arith) (omega arith))

pub returns-else-number-eq0-clause-few : goal.returns-else-number-eq0-clause-few
returns-else-number-eq0-clause-few t c =
    let count = returns-else-number-eq0-clause-count t c in
    let few = length-digits_of-le 256 8 c.args.number (omega arith) (omega arith) in
    omega (arith, few, count)
