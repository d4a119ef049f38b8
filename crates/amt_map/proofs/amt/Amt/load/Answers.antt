use Rattle.amt_map.specs.Stands.{Stands}
use Rattle.amt_map.proofs.amt.Amt.load.Goals as goal

pub returns-clause-found : goal.returns-clause-found
unfolding Stands
returns-clause-found g c = c.in_ok-pairs.ensures.found
