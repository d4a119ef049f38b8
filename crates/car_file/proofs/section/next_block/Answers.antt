use Rattle.car_file.proofs.SectionLemmas.{framed_shorter, section_fault}
use Rattle.car_file.proofs.section.next_block.Goals as goal

pub returns-in-Ok-block_of-clause-shorter : goal.returns-in-Ok-block_of-clause-shorter
returns-in-Ok-block_of-clause-shorter c = framed_shorter c.args.bytes.now _ _ c.in-Ok.ensures.found

pub returns-in-Err-clause-fault : goal.returns-in-Err-clause-fault
returns-in-Err-clause-fault c =
    section_fault c.args.bytes.now _ _ c.args.begin c.in-Err.failure c.placed.result c.placed.ensures c.in-Ok.ensures.found c.in-Err.ensures.fault
