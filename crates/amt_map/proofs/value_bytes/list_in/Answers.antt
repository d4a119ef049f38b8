use Rattle.std.proofs.Common.{rules}
use Rattle.amt_map.proofs.OneValue.{list_found, list_none}
use Rattle.amt_map.proofs.value_bytes.list_in.Goals as goal

pub returns-in-Some-clause-items : goal.returns-in-Some-clause-items
returns-in-Some-clause-items c = (list_found c.args.value.now c.in-Some._count _ c.requires (search rules) c.in-Some.ensures.found).items

pub returns-in-Some-clause-one : goal.returns-in-Some-clause-one
returns-in-Some-clause-one c = record { one = c.requires; list = (list_found c.args.value.now c.in-Some._count _ c.requires (search rules) c.in-Some.ensures.found).list }

pub returns-in-None-clause-items : goal.returns-in-None-clause-items
returns-in-None-clause-items c = list_none c.args.value.now c.requires c.in-None.ensures.only
