use Rattle.amt_map.specs.Pairs.{Pairs}
use Rattle.amt_map.specs.Reading.{AreSpelled, shown}
use Rattle.amt_map.proofs.MapOf.{MapSoFar}
use Rattle.amt_map.proofs.judging.map_of.Given as goal

abbrev pub decreases-loop-index : goal.decreases-loop-index
decreases-loop-index l = l.pairs.len

abbrev pub invariant-loop-index : goal.invariant-loop-index
invariant-loop-index l = (those : Pairs) → AreSpelled (shown l.fn.pairs.items) those → MapSoFar those l.pairs.items l.map
