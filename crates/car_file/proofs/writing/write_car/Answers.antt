use Rattle.car_file.proofs.WritingSteps.{header_written, section_written}
use Rattle.car_file.proofs.writing.write_car.Goals as goal

pub loop-block-init : goal.loop-block-init
loop-block-init c =
    header_written c.args.root.now c.new-out.result.items c.put_header.new.out.items c.new-out.ensures.items c.in_ok-put_header.ensures

pub loop-block-preserved : goal.loop-block-preserved
loop-block-preserved c =
    section_written c.args.root.now c.args.blocks.now c.loop-block.block-index c.block-item.result c.loop-block.out.items c.put_section.new.out.items c.loop-block-test.true c.block-item.is c.loop-block.invariant c.in_ok-put_section.ensures
