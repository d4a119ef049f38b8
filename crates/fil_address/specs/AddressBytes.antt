-- Addresses as bytes (the Filecoin specification, "Address").
use Rattle.std.specs.Prelude.{◌≡◌, ◌<◌, ◌^◌, ℕ, List, ◌∷◌, length, All}
use Rattle.fil_base.specs.Varint.{varint}
use Rattle.fil_address.specs.declared.address.Address.{Address}
use Rattle.fil_address.specs.declared.address.Address.TheVariants.{Id, Secp, Made, Bls}

-- the number of an address's kind: 0 for an ID, 1 for a secp256k1 key, 2 for an actor that was made, 3 for a BLS key
abbrev pub protocol : Address → ℕ
protocol (Id id) = 0
protocol (Secp hash) = 1
protocol (Made hash) = 2
protocol (Bls key) = 3

-- what stands behind the protocol
abbrev pub payload : Address → List ℕ
payload (Id id) = varint id
payload (Secp hash) = hash
payload (Made hash) = hash
payload (Bls key) = key

-- the one spelling of an address
unfoldable pub address : Address → List ℕ
address a = protocol a ∷ payload a

-- so many bytes
abbrev pub AreBytes : List ℕ → ℕ → Type 0
AreBytes bytes len = (length bytes ≡ len) × All (λ byte. byte < 256) bytes

-- an ID is below 2^63, a hash has 20 bytes, a BLS key 48
abbrev pub IsAddress : Address → Type 0
IsAddress (Id id) = id < 2 ^ 63
IsAddress (Secp hash) = AreBytes hash 20
IsAddress (Made hash) = AreBytes hash 20
IsAddress (Bls key) = AreBytes key 48
