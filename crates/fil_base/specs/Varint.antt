-- Numbers of varying length (the multiformats specification, "unsigned-varint").
use Rattle.std.specs.Prelude.{ℕ, ◌+◌, ◌==◌, List, [], ◌∷◌, reverse, if◌then◌else◌}
use Rattle.std.specs.Int.Digits.{digits_of}

-- the top bit on each byte but the last
abbrev pub with_top_bits : List ℕ → List ℕ
with_top_bits [] = []
with_top_bits (group ∷ []) = group ∷ []
with_top_bits (group ∷ next ∷ groups) = (128 + group) ∷ with_top_bits (next ∷ groups)

-- the one spelling of a number: groups of seven bits, the lowest first, in as few bytes as hold it
unfoldable pub varint : ℕ → List ℕ
varint n = if n == 0 then 0 ∷ [] else with_top_bits (reverse (digits_of 128 n))
