-- Numbers and names (WebAssembly 1.0, section 5.2). A number may be in more bytes than it needs.
use Rattle.std.specs.Prelude.{◌≡◌, ◌<◌, ◌≤◌, ◌+◌, ◌*◌, ◌^◌, ◌/◌, ◌⊎◌, ℕ, zero, suc, List, [], ◌∷◌, ◌++◌, length, IsTrue}
use Rattle.std.specs.Str.{is_utf8}

-- a byte with its top bit, the number behind it, and what the two are together: the byte's low seven bits are the
-- number's lowest
abbrev pub IsGroup : ℕ → ℕ → ℕ → Type 0
IsGroup byte high n = (128 ≤ byte) × (n + 128 ≡ byte + 128 * high)

-- an unsigned number in at most so many bytes and one more, of which the last is below `top`
abbrev pub SpellsUnsigned : ℕ → ℕ → ℕ → List ℕ → Type 0
SpellsUnsigned zero top n bytes = (n < top) × (bytes ≡ n ∷ [])
SpellsUnsigned (suc more) top n bytes =
    ((n < 128) × (bytes ≡ n ∷ []))
    ⊎ ((byte : ℕ) × (high : ℕ) × (rest : List ℕ) × IsGroup byte high n × (bytes ≡ byte ∷ rest) × SpellsUnsigned more top high rest)

-- an unsigned number of 32 bits
abbrev pub SpellsU32 : ℕ → List ℕ → Type 0
SpellsU32 = SpellsUnsigned 4 (2 ^ 4)

-- the bits of a number below 0 whose last seven bits are the byte, where there are numbers below `above`
abbrev pub IsBelowZero : ℕ → ℕ → ℕ → Type 0
IsBelowZero above byte n = (byte < 128) × (n + 128 ≡ byte + above)

-- the bits of a signed number in at most so many bytes and one more, of which the last has bits below `top`
abbrev pub SpellsSigned : ℕ → ℕ → ℕ → List ℕ → Type 0
SpellsSigned zero top n bytes =
    ((n < top / 2) × (bytes ≡ n ∷ []))
    ⊎ ((byte : ℕ) × (128 ≤ byte + top / 2) × IsBelowZero top byte n × (bytes ≡ byte ∷ []))
SpellsSigned (suc more) top n bytes =
    ((n < 64) × (bytes ≡ n ∷ []))
    ⊎ (((byte : ℕ) × (64 ≤ byte) × IsBelowZero (top * 128 ^ suc more) byte n × (bytes ≡ byte ∷ []))
    ⊎ ((byte : ℕ) × (high : ℕ) × (rest : List ℕ) × IsGroup byte high n × (bytes ≡ byte ∷ rest) × SpellsSigned more top high rest))

-- the bits of a signed number of 32 bits
abbrev pub SpellsI32 : ℕ → List ℕ → Type 0
SpellsI32 = SpellsSigned 4 (2 ^ 4)

-- the bits of a signed number of 64 bits
abbrev pub SpellsI64 : ℕ → List ℕ → Type 0
SpellsI64 = SpellsSigned 9 (2 ^ 1)

-- bytes behind their number
abbrev pub SpellsBytes : List ℕ → List ℕ → Type 0
SpellsBytes these bytes = (size : List ℕ) × SpellsU32 (length these) size × (bytes ≡ size ++ these)

-- a name, which is in UTF-8
abbrev pub SpellsName : List ℕ → List ℕ → Type 0
SpellsName name bytes = IsTrue (is_utf8 name) × SpellsBytes name bytes
