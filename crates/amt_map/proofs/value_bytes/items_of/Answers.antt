use Rattle.std.proofs.Common.{rules}
use Rattle.amt_map.proofs.OneValue.{list_found, list_never}
use Rattle.amt_map.proofs.value_bytes.items_of.Goals as goal

pub unreachable-requires : goal.unreachable-requires
unreachable-requires c = list_never c.args.list.now c.requires (c.in-None.ensures.only)

pub returns-clause-count : goal.returns-clause-count
returns-clause-count c = (list_found c.args.list.now c.in-Some.count _ c.requires.one (search rules) c.in-Some.ensures.found).count_is

pub returns-clause-items : goal.returns-clause-items
returns-clause-items c = (list_found c.args.list.now c.in-Some.count _ c.requires.one (search rules) c.in-Some.ensures.found).rest_is
