-- Which pairs stand under one node.
use Rattle.std.specs.Prelude.{◌≡◌, ℕ, suc, ◌/◌, ◌^◌, List, All, T}
use Rattle.std.specs.FinMap.Entries.{is_sorted}
use Rattle.std.specs.Ordering.{nat_cmp}

-- pairs by rising index, all under the node at a height that has this place among those at its height
pub record IsOneNode {X : Type 0} (height place : ℕ) (pairs : List (ℕ × X)) : Type 0 where
  pub within : All (λ p. p.0 / 8 ^ suc height ≡ place) pairs
  pub rising : T (is_sorted nat_cmp pairs)
