use Rattle.std.proofs.Common.{◌≡◌}
use Rattle.dag_cbor.specs.Spelling.{spelled}
use Rattle.hamt_map.specs.Holds.{FitNodes}
use Rattle.hamt_map.specs.Node.{bucket}
use Rattle.hamt_map.specs.Pairs.{Pairs}
use Rattle.hamt_map.proofs.FoundUnder.{Uncompared}
use Rattle.hamt_map.proofs.finding.find_in_bucket.Given as goal

abbrev pub invariant-loop-left : goal.invariant-loop-left
invariant-loop-left l = (ps : Pairs) → l.bytes ≡ spelled (bucket ps) → FitNodes ps → Uncompared ps l.key l.left l.rest

abbrev pub decreases-loop-left : goal.decreases-loop-left
decreases-loop-left l = l.left
