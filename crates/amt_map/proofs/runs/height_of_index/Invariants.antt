use Rattle.std.proofs.Common.{◌≡◌, ◌≤◌, ◌∷◌, []}
use Rattle.amt_map.specs.Node.{height_within}
use Rattle.amt_map.proofs.runs.height_of_index.Given as goal

abbrev pub invariant-loop-height : goal.invariant-loop-height
invariant-loop-height l = record {
  same : height_within 19 ((l.index, l.index) ∷ []) ≡ height_within l.height ((l.index, l.index) ∷ []);
  bound : l.height ≤ 19;
}

abbrev pub decreases-loop-height : goal.decreases-loop-height
decreases-loop-height l = l.height
