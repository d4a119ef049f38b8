use Rattle.std.proofs.Common.{◌≡◌, ap, sym, ◌∙◌, length, arith}
use Rattle.std.specs.Int.Digits.{digits_of}
use Rattle.fil_base.specs.Amount.{amount}
use Rattle.fil_message.proofs.ByteCounts.{amount_length, amount_none, digits_longer, digits_none, digits_short}
use Rattle.fil_message.proofs.lengths.amount_len.Goals as goal

pub returns-then-left-eq0-clause-value : goal.returns-then-left-eq0-clause-value
returns-then-left-eq0-clause-value c =
    let none : c.args.amount ≡ 0 = omega (arith, c.number-left.ensures.value) in
    sym (ap (λ n. length (amount n)) none ∙ amount_none)

pub overflow_add-len : goal.overflow_add-len
overflow_add-len c = omega (arith, digits_short c.args.amount c.number-left.ensures.range)

pub loop-left-preserved : goal.loop-left-preserved
loop-left-preserved c = omega (arith, digits_longer c.loop-left.left (omega arith))

pub returns-clause-value : goal.returns-clause-value
returns-clause-value c =
    let none : c.loop-left.left ≡ 0 = omega arith in
    omega (arith, ap (λ n. length (digits_of 256 n)) none, digits_none, amount_length c.args.amount (omega (arith, c.number-left.ensures.value)))

pub returns-clause-small : goal.returns-clause-small
returns-clause-small c = omega (arith, digits_short c.args.amount c.number-left.ensures.range)
