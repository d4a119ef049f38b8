use Rattle.car_file.proofs.ReadingHeaders.{no_map}
use Rattle.car_file.proofs.header.pairs_of.Goals as goal

pub returns-in-Ok-clause-fault : goal.returns-in-Ok-clause-fault
returns-in-Ok-clause-fault c =
    no_map c.args.content.now c.in-Ok.value c.map_of.result c.ok_or.result c.in-Ok.ensures.found c.map_of.ensures.none c.ok_or.ensures.variant
