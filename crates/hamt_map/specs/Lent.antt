-- What the pairs that the code lends stand for.
use Rattle.std.specs.Prelude.{◌≡◌, ℕ, List, length}
use Rattle.std.specs.Int.Digits.{AllBelowBase, number_from_digits}
use Rattle.hamt_map.specs.HashOrder.{low_bits}
use Rattle.hamt_map.specs.declared.hashed.Hashed.{Hashed}

-- the hash of a pair as a number, its key and the spelling of its value
abbrev pub lent_of : Hashed → ℕ × (List ℕ × List ℕ)
lent_of p = (number_from_digits 256 p.hash, (p.key.now, p.spelling.now))

-- a hash has 32 bytes, whose number has the bits of the key's hash that count where so many levels are below
pub record IsHashed (below : ℕ) (p : Hashed) : Type 0 where
  pub long : length p.hash ≡ 32
  pub bytes : AllBelowBase 256 p.hash
  pub number : number_from_digits 256 p.hash ≡ low_bits below p.key.now
