-- Bits in groups of another width.
use Rattle.std.specs.Prelude.{◌≡◌, ◌^◌, ◌+◌, ◌*◌, ◌/◌, ◌%◌, ℕ, List, length}
use Rattle.fil_base.specs.Base32.{digits_in}

-- a number of so many bits is cut into groups of this width, from the highest bit on, and so many bits are left
pub record Regroups (n total width : ℕ) (groups : List ℕ) (bits count : ℕ) : Type 0 where
  pub all : width * length groups + count ≡ total
  pub left : bits ≡ n % 2 ^ count
  pub cut : groups ≡ digits_in (2 ^ width) (length groups) (n / 2 ^ count)
