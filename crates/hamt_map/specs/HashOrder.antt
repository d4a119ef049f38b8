-- Pairs in the order of their hashes, in which nodes are written from them.
use Rattle.std.specs.Prelude.{◌≡◌, ◌≢◌, ℕ, ◌+◌, ◌-◌, ◌*◌, ◌/◌, ◌%◌, ◌^◌, ◌≤◌, List, [], ◌∷◌, ◌++◌, length, map}
use Rattle.std.specs.List.{AllByRecursion, flat_map}
use Rattle.dag_cbor.specs.Spelling.{head, joined, spelled}
use Rattle.std.specs.FinMap.{entries}
use Rattle.hamt_map.specs.Canonical.{map_of}
use Rattle.hamt_map.specs.Groups.{bits_from, by_place, pointers_of}
use Rattle.hamt_map.specs.Holds.{FitNodes}
use Rattle.hamt_map.specs.Pairs.{Map, Pairs, hash_number}

-- the place on a level that a hash has, as a number of 256 bits
abbrev pub place_of : ℕ → ℕ → ℕ
place_of level number = number / 2 ^ (256 - 5 * level) % 32

-- the bits of a key's hash that count where so many levels are below
abbrev pub low_bits : ℕ → List ℕ → ℕ
low_bits below key = hash_number key % 2 ^ (5 * below + 6)

-- keys differ, and these bits rise
abbrev pub AreInOrder : {X : Type 0} → ℕ → List (List ℕ × X) → Type 0
AreInOrder below [] = Unit {0}
AreInOrder below (p ∷ ps) = AllByRecursion (λ q. (p.0 ≢ q.0) × (low_bits below p.0 ≤ low_bits below q.0)) ps × AreInOrder below ps

-- a hash's bits, a key and the spelling of its value are in order those of pairs that fit into a node with so many
-- levels below
pub record AreLent (below : ℕ) (lent : List (ℕ × (List ℕ × List ℕ))) (pairs : Pairs) : Type 0 where
  pub start : ℕ
  pub from : below ≤ start
  pub bound : start ≤ 50
  pub same : lent ≡ map (λ p. (low_bits start p.0, (p.0, spelled p.1))) pairs
  pub fit : FitNodes pairs
  pub order : AreInOrder below pairs

-- a pair of a bucket, of a key and the spelling of its value
abbrev pub pair_text : List ℕ × List ℕ → List ℕ
pair_text p = head 4 2 ++ ((head 2 (length p.0) ++ p.0) ++ p.1)

-- the bits of the places of a node's pointers, how many these are, and their spellings
pub record ArePointers (below : ℕ) (pairs : Pairs) (bits count : ℕ) (spellings : List ℕ) : Type 0 where
  pub bits_are : bits ≡ bits_from 0 (by_place (51 - below) pairs)
  pub count_is : count ≡ length (flat_map (pointers_of below) (by_place (51 - below) pairs))
  pub spellings_are : spellings ≡ joined (map spelled (flat_map (pointers_of below) (by_place (51 - below) pairs)))

-- pairs that are lent are those of a map
pub record MapLent (below : ℕ) (m : Map) (lent : List (ℕ × (List ℕ × List ℕ))) : Type 0 where
  pub pairs : Pairs
  pub are : AreLent below lent pairs
  pub same : entries (map_of pairs) ≡ entries m
