use Rattle.std.proofs.Common.{ap}
use Rattle.std.specs.FinMap.{empty}
use Rattle.amt_map.proofs.Held.{Holds-empty}
use Rattle.amt_map.proofs.Spellings.{view}
use Rattle.amt_map.proofs.pairs.Spelled.empty.Goals as goal

pub invariant_of-result : goal.invariant_of-result
invariant_of-result c = (empty, Holds-empty _ (ap view c.new.ensures.empty))

pub returns : goal.returns
returns c = Holds-empty _ (ap view c.new.ensures.empty)
