use Rattle.std.proofs.Common.{rules}
use Rattle.amt_map.proofs.OneValue.{blob_found, blob_none}
use Rattle.amt_map.proofs.value_bytes.bytes_in.Goals as goal

pub returns-in-Some : goal.returns-in-Some
returns-in-Some c = blob_found c.args.value.now c.in-Some.bytes.now _ c.requires (search rules) c.in-Some.ensures.found

pub returns-in-None : goal.returns-in-None
returns-in-None c = blob_none c.args.value.now c.requires c.in-None.ensures.only
