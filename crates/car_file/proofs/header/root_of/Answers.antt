use Rattle.car_file.proofs.ReadingHeaders.{header_found, keys_fault, roots_fault}
use Rattle.car_file.proofs.header.root_of.Goals as goal

pub returns-in_err-judge_pairs-clause-fault : goal.returns-in_err-judge_pairs-clause-fault
returns-in_err-judge_pairs-clause-fault c =
    keys_fault c.args.content.now c.in_ok-pairs.pairs c.as_slice.result.now _ c.from_residual-in_err-judge_pairs.result c.in_ok-pairs.ensures.found c.as_slice.ensures c.in_err-judge_pairs.ensures.fault c.from_residual-in_err-judge_pairs.ensures.1

pub returns-in_default-clause-fault : goal.returns-in_default-clause-fault
returns-in_default-clause-fault c =
    roots_fault c.args.content.now c.in_ok-pairs.pairs c.as_slice.result.now c.as_slice-2.result.now c.in_ok-pairs.ensures.found c.as_slice.ensures c.as_slice-2.ensures c.in_ok-judge_pairs.ensures.version c.in_ok-judge_pairs.ensures.keys c.in_default.ensures.none

pub returns-clause-found : goal.returns-clause-found
returns-clause-found c =
    header_found c.args.content.now c.in_ok-pairs.pairs c.as_slice.result.now c.as_slice-2.result.now c.in-Some.root.now c.in_ok-root.root c.in_ok-pairs.ensures.found c.as_slice.ensures c.as_slice-2.ensures c.in_ok-judge_pairs.ensures.version c.in_ok-judge_pairs.ensures.keys c.in-Some.ensures.found c.in_ok-root.ensures
