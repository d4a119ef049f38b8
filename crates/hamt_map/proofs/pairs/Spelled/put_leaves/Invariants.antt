use Rattle.std.proofs.Common.{◌≡◌, ◌++◌, map}
use Rattle.hamt_map.proofs.Held.{AreSpellings}
use Rattle.hamt_map.proofs.pairs.Spelled.put_leaves.Given as goal

abbrev pub invariant-loop-key : goal.invariant-loop-key
invariant-loop-key l = record {
  put : l.leaves.items ++ map (λ e. (e.0.items, e.1.items)) l.key-iterator ≡ l.initial.leaves.items ++ l.fn.self;
  spelled : AreSpellings (map (λ e. (e.0.items, e.1.items)) l.key-iterator);
}
