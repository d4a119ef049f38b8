use Rattle.amt_map.proofs.OneValue.{front_is}
use Rattle.amt_map.proofs.value_bytes.split_front.Goals as goal

pub returns : goal.returns
returns c = let found = c.in-Some.ensures.found in front_is 128 c.args.bytes.now c.in-Some.found.0.now c.in-Some.found.1.now found.0 found.1 found.2 found.3
