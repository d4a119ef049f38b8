-- Indexes with the spellings of their values, in place of a map.
use Rattle.std.specs.Prelude.{◌≡◌, ◌<◌, ◌^◌, ℕ, List, All, map}
use Rattle.std.specs.FinMap.{entries}
use Rattle.dag_cbor.specs.Plain.{IsPlain}
use Rattle.dag_cbor.specs.Spelling.{spelled}
use Rattle.dag_cbor.specs.declared.value.Value.{Value}
use Rattle.amt_map.specs.Pairs.{Map, Pairs}

-- the indexes are below 2 ^ 60, and the values fit into a root, which has three levels around them
abbrev pub FitRoot : Pairs → Type 0
FitRoot pairs = All (λ p. (p.0 < 2 ^ 60) × IsPlain 125 p.1) pairs

-- bytes spell a value that fits into a root
pub record IsSpelling (bytes : List ℕ) : Type 0 where
  pub value : Value
  pub plain : IsPlain 125 value
  pub same : bytes ≡ spelled value

-- indexes with the spellings of their values
abbrev pub spellings : Pairs → List (ℕ × List ℕ)
spellings pairs = map (λ p. (p.0, spelled p.1)) pairs

-- indexes with spellings are those of a map, by rising index, and its pairs fit into a tree
pub record Holds (pairs : List (ℕ × List ℕ)) (m : Map) : Type 0 where
  pub same : pairs ≡ spellings (entries m)
  pub fit : FitRoot (entries m)
