-- Keys with the spellings of their values, in place of a map.
use Rattle.std.specs.Prelude.{◌≡◌, ℕ, List, All, map, if◌then◌else◌}
use Rattle.std.specs.FinMap.{contains_key, entries, insert}
use Rattle.dag_cbor.specs.Plain.{IsPlain}
use Rattle.dag_cbor.specs.Spelling.{spelled}
use Rattle.dag_cbor.specs.declared.value.Value.{Value}
use Rattle.hamt_map.specs.Pairs.{Map, Pairs}

-- the values of pairs fit into a node, which has four levels around them
abbrev pub FitNodes : Pairs → Type 0
FitNodes pairs = All (λ p. IsPlain 124 p.1) pairs

-- bytes spell a value that fits into a node
pub record IsSpelling (bytes : List ℕ) : Type 0 where
  pub value : Value
  pub plain : IsPlain 124 value
  pub same : bytes ≡ spelled value

-- keys with the spellings of their values
abbrev pub spellings : Pairs → List (List ℕ × List ℕ)
spellings pairs = map (λ p. (p.0, spelled p.1)) pairs

-- keys with spellings are those of a map, by rising key, and its values fit into a node
pub record Holds (pairs : List (List ℕ × List ℕ)) (m : Map) : Type 0 where
  pub same : pairs ≡ spellings (entries m)
  pub fit : FitNodes (entries m)

-- a map with a pair, if it does not have the key
abbrev pub insert_absent : Map → List ℕ → Value → Map
insert_absent m key value = if contains_key m key then m else insert m key value
