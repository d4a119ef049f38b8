use Rattle.std.proofs.Common.{◌∙◌, arith}
use Rattle.std.proofs.lemmas.List.{length-set}
use Rattle.fil_base.proofs.Magnitude.{digit_more}
use Rattle.fil_base.proofs.amount.magnitude.Goals as goal

pub loop-left-preserved : goal.loop-left-preserved
loop-left-preserved c =
    let loop = c.loop-left in
    let more = digit_more loop.bytes c.args.number loop.start loop.left loop.invariant.within loop.invariant.size c.loop-left-test.true loop.invariant.small loop.invariant.spelled in
    record {
      within = omega arith;
      small = more.1;
      spelled = more.2;
      size = length-set loop.bytes _ _ ∙ loop.invariant.size;
    }
