use Rattle.std.proofs.Common.{◌≡◌, ◌-◌, ℕ, drop}
use Rattle.dag_cbor.specs.Spelling.{spelled}
use Rattle.hamt_map.specs.Ahead.{AreAhead}
use Rattle.hamt_map.specs.Groups.{by_place}
use Rattle.hamt_map.specs.Holds.{FitNodes}
use Rattle.hamt_map.specs.Node.{node}
use Rattle.hamt_map.specs.Pairs.{Pairs}
use Rattle.hamt_map.proofs.finding.pointer_at.Given as goal

abbrev pub invariant-loop : goal.invariant-loop
invariant-loop l = (below : ℕ) (ps : Pairs) → l.bytes ≡ spelled (node below ps) → FitNodes ps → AreAhead below (drop l.counter (by_place (51 - below) ps)) l.ahead.bits l.ahead.pointers.now
