use Rattle.car_file.proofs.WritingSteps.{header_is_plain}
use Rattle.car_file.proofs.writing.put_header.Goals as goal

pub encode-requires : goal.encode-requires
encode-requires c = header_is_plain c.args.root.now c.in_ok-header.header c.version.ensures.cid c.in_ok-header.ensures
