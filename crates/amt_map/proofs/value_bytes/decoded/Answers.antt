use Rattle.std.proofs.Common.{sym}
use Rattle.amt_map.proofs.OneValue.{the_value_is}
use Rattle.amt_map.proofs.value_bytes.decoded.Goals as goal

pub returns-in-Ok : goal.returns-in-Ok
returns-in-Ok c = sym (the_value_is c.args.bytes.now c.in-Ok.value c.in-Ok.ensures.found.0 c.in-Ok.ensures.found.1)
