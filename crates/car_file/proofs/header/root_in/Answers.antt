use Rattle.car_file.proofs.ReadingHeaders.{no_link, no_list}
use Rattle.car_file.proofs.header.root_in.Goals as goal

pub returns-in_err-list-clause-none : goal.returns-in_err-list-clause-none
returns-in_err-list-clause-none c = no_list c.args.pairs.now c.from_residual.result c.in_err-list.ensures.none

pub returns-clause-none : goal.returns-clause-none
returns-clause-none c =
    no_link c.args.pairs.now c.in_ok-list.list.now c.only_link.result c.in_ok-list.ensures.found c.only_link.ensures.none
