use Rattle.std.proofs.Common.{arith}
use Rattle.car_file.proofs.FrameLemmas.{cut_short}
use Rattle.car_file.proofs.Framing.{bad_not_cut}
use Rattle.car_file.proofs.frame.missing.Goals as goal

pub returns-in-Ok-clause-some : goal.returns-in-Ok-clause-some
returns-in-Ok-clause-some c = λ cut.
    let short = cut_short c.args.bytes.now _ _ c.in-Ok.ensures.small c.in-Ok.ensures.found cut in
    omega (arith, short)

pub returns-in-Err-BadLength-clause-some : goal.returns-in-Err-BadLength-clause-some
returns-in-Err-BadLength-clause-some c = λ cut.
    absurd (bad_not_cut c.args.bytes.now (rw c.in-Err-BadLength.field-0-is at c.in-Err-BadLength.ensures.fault) cut)
