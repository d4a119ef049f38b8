-- What stands at the front of bytes where a number of varying length is wanted, or why none does.
use Rattle.std.specs.Prelude.{◌≡◌, ◌<◌, ◌≤◌, ◌^◌, ℕ, List, ◌∷◌, ◌++◌, length, take, All}
use Rattle.fil_base.specs.Varint.{varint}
use Rattle.fil_base.specs.declared.varint.VarintFault.{VarintFault}
use Rattle.fil_base.specs.declared.varint.VarintFault.TheVariants.{Cut, TooLong, NotShortest}

-- the spelling of a number below 2^63 is at the front of the bytes, and has this length
pub record FoundVarint (bytes : List ℕ) (n len : ℕ) : Type 0 where
  pub small : n < 2 ^ 63
  pub len_is : len ≡ length (varint n)
  pub rest : List ℕ
  pub spelled : bytes ≡ varint n ++ rest

-- each byte has its top bit, so that another follows
abbrev pub HaveTopBits : List ℕ → Type 0
HaveTopBits bytes = All (λ byte. 128 ≤ byte) bytes

-- why no number is at the front of the bytes
abbrev pub IsVarintFault : List ℕ → VarintFault → Type 0
IsVarintFault bytes Cut = (length bytes < 9) × HaveTopBits bytes
IsVarintFault bytes TooLong = (9 ≤ length bytes) × HaveTopBits (take 9 bytes)
IsVarintFault bytes NotShortest =
    (front : List ℕ) × (rest : List ℕ) × (bytes ≡ front ++ (0 ∷ rest)) × (0 < length front) × (length front < 9) × HaveTopBits front
