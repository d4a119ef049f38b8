use Rattle.amt_map.proofs.Depths.{five_deeper}
use Rattle.amt_map.proofs.amt.Amt.set.Goals as goal

pub insert-requires-clause-plain : goal.insert-requires-clause-plain
insert-requires-clause-plain g c = five_deeper 120 c.args.value c.requires.plain
