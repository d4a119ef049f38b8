-- What is still ahead in the bytes of a canonical node, which are read from their front.
use Rattle.std.specs.Prelude.{◌≡◌, ℕ, List, All, map, if◌then◌else◌}
use Rattle.std.specs.List.{flat_map}
use Rattle.std.specs.declared.option.Option.{Option}
use Rattle.std.specs.declared.option.Option.TheVariants.{None, Some}
use Rattle.dag_cbor.specs.Spelling.{joined, spelled}
use Rattle.hamt_map.specs.Groups.{bits_from, is_group, pointer_to, pointers_of}
use Rattle.hamt_map.specs.Holds.{FitNodes}
use Rattle.hamt_map.specs.Node.{pair_value}
use Rattle.hamt_map.specs.Pairs.{Pairs}

-- the bits of the places that have groups, from the next on, and the spellings of the pointers to these
pub record AreAhead (below : ℕ) (groups : List Pairs) (bits : ℕ) (bytes : List ℕ) : Type 0 where
  pub fit : All FitNodes groups
  pub bits_are : bits ≡ bits_from 0 groups
  pub bytes_are : bytes ≡ joined (map spelled (flat_map (pointers_of below) groups))

-- the spellings of the pairs of a bucket
pub record PairsAhead (pairs : Pairs) (bytes : List ℕ) : Type 0 where
  pub fit : FitNodes pairs
  pub bytes_are : bytes ≡ joined (map spelled (map pair_value pairs))

-- the spelling of the pointer to the group of a place, if it has pairs
abbrev pub pointer_text : ℕ → Pairs → Option (List ℕ)
pointer_text below group = if is_group group then Some (spelled (pointer_to below group)) else None
