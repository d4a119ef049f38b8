-- Which address bytes spell.
use Rattle.std.specs.Prelude.{ℕ, ◌^◌, ◌%◌, ◌==◌, ◌&&◌, List, [], ◌∷◌, bytes_eq, length, map, nat_lt, reverse, Option, None, Some, if◌then◌else◌}
use Rattle.std.specs.Int.Digits.{number_from_digits}
use Rattle.std.specs.Option.{option_map}
use Rattle.fil_base.specs.Varint.{varint}
use Rattle.fil_address.specs.declared.address.Address.{Address}
use Rattle.fil_address.specs.declared.address.Address.TheVariants.{Id, Secp, Made, Bls}

-- the number of groups of seven bits, if this is its one spelling and it is below 2^63
abbrev pub id_of_groups : List ℕ → Option ℕ
id_of_groups groups = if nat_lt id (2 ^ 63) && bytes_eq groups (varint id) then Some id else None where
  id : ℕ
  id = number_from_digits 128 (reverse (map (λ byte. byte % 128) groups))

-- bytes, if they are so many
abbrev pub so_many : ℕ → List ℕ → Option (List ℕ)
so_many len bytes = if length bytes == len then Some bytes else None

-- the address of a protocol and what stands behind it
abbrev pub address_behind : ℕ → List ℕ → Option Address
address_behind protocol payload =
    if protocol == 0 then option_map Id (id_of_groups payload)
    else (if protocol == 1 then option_map Secp (so_many 20 payload)
    else (if protocol == 2 then option_map Made (so_many 20 payload)
    else (if protocol == 3 then option_map Bls (so_many 48 payload) else None)))

-- the address that bytes spell
abbrev pub address_in : List ℕ → Option Address
address_in [] = None
address_in (protocol ∷ payload) = address_behind protocol payload
