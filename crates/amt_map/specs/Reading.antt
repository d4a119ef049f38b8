-- What was read of a node.
use Rattle.std.specs.Prelude.{◌≡◌, ℕ, List, MatchOption, map}
use Rattle.std.specs.declared.vec.Vec.{Vec}
use Rattle.std.specs.declared.alloc.Global.{Global}
use Rattle.std.specs.declared.option.Option.{Option}
use Rattle.std.specs.declared.option.Option.TheVariants.{None, Some}
use Rattle.dag_cbor.specs.declared.value.Value.{Value}
use Rattle.amt_map.specs.Holds.{FitRoot, spellings}
use Rattle.amt_map.specs.Pairs.{Pairs}

-- what was found stands for what there is
abbrev pub IsFound : {X Y : Type 0} → (X → Y → Type 0) → Option X → Option Y → Type 0
IsFound {X} {Y} StandsFor found there =
    MatchOption found (there ≡ None) (λ x. (y : Y) × (there ≡ Some y) × StandsFor x y)

-- numbers with bytes
abbrev pub shown : List (ℕ × Vec ℕ Global) → List (ℕ × List ℕ)
shown pairs = map (λ p. (p.0, p.1.items)) pairs

-- indexes, or digits, with the spellings of values that fit into a root
pub record AreSpelled (read : List (ℕ × List ℕ)) (pairs : Pairs) : Type 0 where
  pub same : read ≡ spellings pairs
  pub fit : FitRoot pairs
