use Rattle.std.proofs.Common.{map}
use Rattle.amt_map.proofs.Held.{ReadSoFar}
use Rattle.amt_map.proofs.pairs.Spelled.decoded.Given as goal

abbrev pub invariant-loop-index : goal.invariant-loop-index
invariant-loop-index l = ReadSoFar l.self (map (λ e. (e.0, e.1.items)) l.index-iterator) l.pairs.items
