use Rattle.car_file.proofs.ReadingHeaders.{no_version}
use Rattle.car_file.proofs.header.judge_pairs.Goals as goal

pub returns-in_default-clause-fault : goal.returns-in_default-clause-fault
returns-in_default-clause-fault c = no_version c.args.pairs.now c.in_default.ensures.none
