-- Addresses as text (the Filecoin specification, "Address", "String Encoding").
use Rattle.std.specs.Prelude.{◌≡◌, ◌⊎◌, ℕ, ◌+◌, List, ◌∷◌, ◌++◌}
use Rattle.std.specs.Fmt.{decimal}
use Rattle.blake2b_hash.specs.Blake.{blake}
use Rattle.fil_base.specs.Base32.{base32}
use Rattle.fil_address.specs.AddressBytes.{address, payload, protocol}
use Rattle.fil_address.specs.declared.address.Address.{Address}
use Rattle.fil_address.specs.declared.address.Address.TheVariants.{Id, Secp, Made, Bls}

-- the four bytes of BLAKE2b by which a text is checked
abbrev pub checksum : List ℕ → List ℕ
checksum bytes = blake 4 bytes

-- the payload with the checksum of the address behind it, in base 32
abbrev pub checked_payload : Address → List ℕ
checked_payload a = base32 (payload a ++ checksum (address a))

-- what stands behind the network's letter and the protocol's digit
abbrev pub body : Address → List ℕ
body (Id id) = decimal id
body (Secp hash) = checked_payload (Secp hash)
body (Made hash) = checked_payload (Made hash)
body (Bls key) = checked_payload (Bls key)

-- the text under a network's letter
unfoldable pub text_under : ℕ → Address → List ℕ
text_under network a = network ∷ ((48 + protocol a) ∷ body a)

-- `f` of the main network, under which texts are written
abbrev pub main_network : ℕ
main_network = 102

-- `f`, or `t` of the test networks
abbrev pub IsNetwork : ℕ → Type 0
IsNetwork c = (c ≡ 102) ⊎ (c ≡ 116)
