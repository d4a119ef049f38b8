-- The pairs of a tree, and how it divides them by the digits of their indexes in base 8.
use Rattle.std.specs.Prelude.{ℕ, ◌/◌, ◌%◌, ◌^◌, ◌==◌, List, filter}
use Rattle.std.specs.FinMap.{FinMap}
use Rattle.std.specs.Ordering.{nat_cmp}
use Rattle.dag_cbor.specs.declared.value.Value.{Value}

-- what a tree stands for: a value for each index, of which there may be any; those of a tree are below 2 ^ 60
abbrev pub Map : Type 0
Map = FinMap nat_cmp Value

-- indexes with their values
abbrev pub Pairs : Type 0
Pairs = List (ℕ × Value)

-- the digit of an index at a height: the lowest one is at height 0
abbrev pub digit_at : ℕ → ℕ → ℕ
digit_at height index = index / 8 ^ height % 8

-- the pairs whose indexes have a digit at a height
abbrev pub with_digit : {X : Type 0} → ℕ → ℕ → List (ℕ × X) → List (ℕ × X)
with_digit height digit pairs = filter (λ p. digit_at height p.0 == digit) pairs
