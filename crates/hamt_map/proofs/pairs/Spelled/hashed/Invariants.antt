use Rattle.std.proofs.Common.{◌≡◌, ◌++◌, All, ℕ, List, map}
use Rattle.hamt_map.specs.Lent.{IsHashed}
use Rattle.hamt_map.proofs.Spellings.{view}
use Rattle.hamt_map.proofs.pairs.Spelled.hashed.Given as goal

abbrev pub invariant-loop-key : goal.invariant-loop-key
invariant-loop-key l = record {
  all : l.self ≡ map {B = List ℕ × List ℕ} (λ p. (p.key.now, p.spelling.now)) l.hashed.items ++ view l.key-iterator;
  hashes : All (IsHashed l.below) l.hashed.items;
}
