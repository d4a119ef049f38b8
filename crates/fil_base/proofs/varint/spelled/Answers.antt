use Rattle.std.proofs.Common.{◌∙◌}
use Rattle.std.proofs.lemmas.List.{length-set}
use Rattle.fil_base.proofs.Varints.{write_more, left_more, write_last}
use Rattle.fil_base.proofs.varint.spelled.Goals as goal

pub loop-left-preserved : goal.loop-left-preserved
loop-left-preserved c =
    let loop = c.loop-left in
    let smaller = left_more loop.length loop.left loop.invariant.within c.loop-left-test.true loop.invariant.small in
    record {
      within = smaller.0;
      small = smaller.1;
      spelled = write_more loop.bytes c.args.number loop.length loop.left loop.invariant.within loop.invariant.size c.loop-left-test.true loop.invariant.spelled;
      size = length-set loop.bytes _ _ ∙ loop.invariant.size;
    }

pub returns-clause-spelled : goal.returns-clause-spelled
returns-clause-spelled c =
    let loop = c.loop-left in
    write_last loop.bytes c.args.number loop.length loop.left loop.invariant.within loop.invariant.size c.loop-left-test.false loop.invariant.spelled
