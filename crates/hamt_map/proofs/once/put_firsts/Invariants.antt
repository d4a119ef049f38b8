use Rattle.std.proofs.Common.{◌≡◌, ◌++◌, ℕ, List, map}
use Rattle.hamt_map.proofs.Held.{AreSpellings}
use Rattle.hamt_map.proofs.once.put_firsts.Given as goal

abbrev pub invariant-loop-key : goal.invariant-loop-key
invariant-loop-key l = record {
  put : l.leaves.items ++ map {B = List ℕ × List ℕ} (λ e. (e.0.now, e.1.now)) l.key-iterator
      ≡ l.initial.leaves.items ++ map {B = List ℕ × List ℕ} (λ e. (e.0.now, e.1.now)) l.fn.firsts.entries;
  spelled : AreSpellings (map {B = List ℕ × List ℕ} (λ e. (e.0.now, e.1.now)) l.key-iterator);
}
