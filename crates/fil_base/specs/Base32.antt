-- Base 32 in lower case without padding (RFC 4648, section 6).
use Rattle.std.specs.Prelude.{zero, suc, ◌≡◌, ◌≢◌, ◌<◌, ◌≤◌, ◌^◌, ◌+◌, ◌-◌, ◌*◌, ◌/◌, ◌%◌, ◌⊎◌, ℕ, List, [], ◌∷◌, ◌++◌, All, length, map, nat_lt, slice_index, take, if◌then◌else◌}
use Rattle.std.specs.Int.Digits.{number_from_digits}
use Rattle.fil_base.specs.declared.base32.Base32Fault.{Base32Fault}
use Rattle.fil_base.specs.declared.base32.Base32Fault.TheVariants.{Length, Letter, Spare}

-- the digits of a number in a base, in so many places, the highest first
unfoldable pub digits_in : ℕ → ℕ → ℕ → List ℕ
digits_in base zero n = []
digits_in base (suc places) n = digits_in base places (n / base) ++ (n % base ∷ [])

-- the letter of five bits: a to z, then 2 to 7
abbrev pub letter : ℕ → ℕ
letter group = if nat_lt group 26 then group + 97 else group + 24

-- as many letters as so many bytes need, of five bits each
abbrev pub letters_for : ℕ → ℕ
letters_for len = (8 * len + 4) / 5

-- the bits of the last letter that no byte fills
abbrev pub spare_bits : ℕ → ℕ
spare_bits len = 5 * letters_for len - 8 * len

-- the text of bytes: they are read as one number, zeros fill it up to a multiple of five bits, and each group of five
-- bits is a letter
unfoldable pub base32 : List ℕ → List ℕ
base32 bytes =
    map letter (digits_in 32 (letters_for (length bytes)) (number_from_digits 256 bytes * 2 ^ spare_bits (length bytes)))

-- a to z, or 2 to 7
abbrev pub IsLetter : ℕ → Type 0
IsLetter c = ((97 ≤ c) × (c ≤ 122)) ⊎ ((50 ≤ c) × (c ≤ 55))

-- the five bits of a letter
abbrev pub value_of : ℕ → ℕ
value_of c = if nat_lt c 97 then c - 24 else c - 97

-- no bytes have so many letters
abbrev pub IsBadLength : ℕ → Type 0
IsBadLength len = (len % 8 ≡ 1) ⊎ ((len % 8 ≡ 3) ⊎ (len % 8 ≡ 6))

-- why a text is none of bytes
abbrev pub IsBase32Fault : List ℕ → Base32Fault → Type 0
IsBase32Fault text Length = IsBadLength (length text)
IsBase32Fault text (Letter i) =
    (IsBadLength (length text) → ⊥) × (i < length text) × All IsLetter (take i text) × (IsLetter (slice_index text i) → ⊥)
IsBase32Fault text Spare =
    (IsBadLength (length text) → ⊥) × All IsLetter text × (number_from_digits 32 (map value_of text) % 2 ^ (5 * length text % 8) ≢ 0)
