-- Addresses of keys.
use Rattle.std.specs.Prelude.{Bool, true, false}
use Rattle.fil_address.specs.declared.address.Address.{Address}
use Rattle.fil_address.specs.declared.address.Address.TheVariants.{Id, Secp, Made, Bls}

-- an address of protocol 1 or 3, which is that of a key
abbrev pub is_key : Address → Bool
is_key (Id id) = false
is_key (Secp hash) = true
is_key (Made hash) = false
is_key (Bls key) = true
