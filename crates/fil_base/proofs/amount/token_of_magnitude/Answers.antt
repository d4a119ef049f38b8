use Rattle.std.proofs.Common.{arith}
use Rattle.fil_base.proofs.Magnitude.{all_below, number_too_great, token_at}
use Rattle.fil_base.proofs.amount.token_of_magnitude.Goals as goal

pub returns-then-magnitude-gt12 : goal.returns-then-magnitude-gt12
returns-then-magnitude-gt12 c =
    number_too_great c.args.magnitude.now (all_below _ (λ i. omega (arith, c.type_inv.magnitude i))) c.requires c.if-magnitude-gt12.true

pub returns : goal.returns
returns c =
    token_at c.args.magnitude.now _ _ _ (all_below _ (λ i. omega (arith, c.type_inv.magnitude i))) c.requires c.big_endian.ensures c.new.ensures c.ok_or.ensures.value
