-- The pairs of a tree, and how it divides them by their keys (the IPLD HashMap specification, with its bit width of 5
-- and its bucket size of 3).
use Rattle.std.specs.Prelude.{ℕ, ◌-◌, ◌*◌, ◌/◌, ◌%◌, ◌^◌, ◌==◌, List, filter}
use Rattle.std.specs.FinMap.{FinMap}
use Rattle.std.specs.Int.Digits.{number_from_digits}
use Rattle.std.specs.Ordering.{nat_cmp}
use Rattle.std.specs.Cmp.Lexicographic.{slice_cmp}
use Rattle.std.specs.declared.cmp.Ordering.{Ordering}
use Rattle.sha2.specs.Sha256.{sha256}
use Rattle.dag_cbor.specs.declared.value.Value.{Value}

-- keys are compared by their bytes
abbrev pub key_cmp : List ℕ → List ℕ → Ordering
key_cmp = slice_cmp nat_cmp

-- what a tree stands for: a value for each key
abbrev pub Map : Type 0
Map = FinMap key_cmp Value

-- keys with their values
abbrev pub Pairs : Type 0
Pairs = List (List ℕ × Value)

-- the hash of a key, SHA2-256 (FIPS 180-4), as a number of 256 bits
abbrev pub hash_number : List ℕ → ℕ
hash_number key = number_from_digits 256 (sha256 key)

-- the place of a key on a level: five bits of its hash, from the most significant on; the levels are 1 to 51
abbrev pub place_on : ℕ → List ℕ → ℕ
place_on level key = hash_number key / 2 ^ (256 - 5 * level) % 32

-- the pairs whose keys have a place on a level
abbrev pub at_place : ℕ → ℕ → Pairs → Pairs
at_place level place pairs = filter (λ p. place_on level p.0 == place) pairs
