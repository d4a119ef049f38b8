use Rattle.std.proofs.Common.{map}
use Rattle.hamt_map.proofs.Held.{ReadSoFar}
use Rattle.hamt_map.proofs.pairs.Spelled.decoded.Given as goal

abbrev pub invariant-loop-key : goal.invariant-loop-key
invariant-loop-key l = ReadSoFar l.self (map (λ e. (e.0.items, e.1.items)) l.key-iterator) l.pairs.items
