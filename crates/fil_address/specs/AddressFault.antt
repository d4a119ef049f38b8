-- Why bytes, or a text, are no address.
use Rattle.std.specs.Prelude.{◌≡◌, ◌≢◌, ◌<◌, ◌≤◌, ◌^◌, ◌⊎◌, ◌+◌, ℕ, List, [], ◌∷◌, ◌++◌, All, length}
use Rattle.std.specs.Fmt.{decimal}
use Rattle.fil_base.specs.Base32.{IsBadLength, IsBase32Fault, base32}
use Rattle.fil_base.specs.Varint.{varint}
use Rattle.fil_base.specs.declared.base32.Base32Fault.TheVariants.{Letter as BadLetter, Spare}
use Rattle.fil_address.specs.AddressText.{IsNetwork, checksum}
use Rattle.fil_address.specs.AddressBytes.{AreBytes}
use Rattle.fil_address.specs.declared.fault.AddressFault.{AddressFault}
use Rattle.fil_address.specs.declared.fault.AddressFault.TheVariants.{Empty, Protocol, Number, Length, Letter, Checksum}

-- the protocols whose payload is bytes, and how many: 20 for 1 and 2, 48 for 3
abbrev pub HasLength : ℕ → ℕ → Type 0
HasLength protocol len = (((protocol ≡ 1) ⊎ (protocol ≡ 2)) × (len ≡ 20)) ⊎ ((protocol ≡ 3) × (len ≡ 48))

-- the bytes are a protocol and what stands behind it
abbrev pub BytesOf : List ℕ → ℕ → List ℕ → Type 0
BytesOf bytes protocol rest = bytes ≡ protocol ∷ rest

-- why bytes are no address
abbrev pub IsBytesFault : List ℕ → AddressFault → Type 0
IsBytesFault bytes Empty = bytes ≡ []
IsBytesFault bytes Protocol = (protocol : ℕ) × (rest : List ℕ) × BytesOf bytes protocol rest × (3 < protocol)
IsBytesFault bytes Number = (rest : List ℕ) × BytesOf bytes 0 rest × ((id : ℕ) → id < 2 ^ 63 → rest ≢ varint id)
IsBytesFault bytes Length =
    (protocol : ℕ) × (rest : List ℕ) × (len : ℕ) × BytesOf bytes protocol rest × HasLength protocol len
    × (length rest ≢ len)
IsBytesFault bytes Letter = ⊥
IsBytesFault bytes Checksum = ⊥

-- the text is a network's letter, the digit of a protocol, and what stands behind them
abbrev pub TextOf : List ℕ → ℕ → List ℕ → Type 0
TextOf text protocol rest =
    (network : ℕ) × IsNetwork network × (text ≡ network ∷ ((48 + protocol) ∷ rest)) × (3 ≤ length text)

-- it begins with no network's letter
abbrev pub HasOtherLetter : List ℕ → Type 0
HasOtherLetter text =
    (letter : ℕ) × (rest : List ℕ) × (text ≡ letter ∷ rest) × (3 ≤ length text) × (IsNetwork letter → ⊥)

-- behind them stand characters that are none of base 32, or bits that no byte fills are not zero
abbrev pub HasBadLetter : List ℕ → Type 0
HasBadLetter rest = ((i : ℕ) × IsBase32Fault rest (BadLetter i)) ⊎ IsBase32Fault rest Spare

-- why a text is no address
abbrev pub IsTextFault : List ℕ → AddressFault → Type 0
IsTextFault text Empty = length text < 3
IsTextFault text Letter =
    HasOtherLetter text
    ⊎ ((protocol : ℕ) × (len : ℕ) × (rest : List ℕ) × TextOf text protocol rest × HasLength protocol len
    × HasBadLetter rest)
IsTextFault text Protocol =
    (network : ℕ) × (digit : ℕ) × (rest : List ℕ) × IsNetwork network × (text ≡ network ∷ (digit ∷ rest))
    × (3 ≤ length text) × ((digit < 48) ⊎ (51 < digit))
IsTextFault text Number = (rest : List ℕ) × TextOf text 0 rest × ((id : ℕ) → id < 2 ^ 63 → rest ≢ decimal id)
IsTextFault text Length =
    (protocol : ℕ) × (len : ℕ) × (rest : List ℕ) × TextOf text protocol rest × HasLength protocol len
    × (IsBadLength (length rest)
    ⊎ ((bytes : List ℕ) × (rest ≡ base32 bytes) × All (λ byte. byte < 256) bytes × (length bytes ≢ len + 4)))
IsTextFault text Checksum =
    (protocol : ℕ) × (len : ℕ) × (payload : List ℕ) × (sum : List ℕ) × TextOf text protocol (base32 (payload ++ sum))
    × HasLength protocol len × AreBytes payload len × AreBytes sum 4 × (sum ≢ checksum (protocol ∷ payload))

-- why characters spell no bytes in base 32
abbrev pub IsLettersFault : List ℕ → AddressFault → Type 0
IsLettersFault rest Empty = ⊥
IsLettersFault rest Protocol = ⊥
IsLettersFault rest Number = ⊥
IsLettersFault rest Length = IsBadLength (length rest)
IsLettersFault rest Letter = HasBadLetter rest
IsLettersFault rest Checksum = ⊥

-- a text of this protocol, with this behind its digit, has the fault
abbrev pub IsFaultBehind : ℕ → List ℕ → AddressFault → Type 0
IsFaultBehind protocol rest fault = (text : List ℕ) → TextOf text protocol rest → IsTextFault text fault
