-- Which ID an address names.
use Rattle.std.specs.Prelude.{ℕ}
use Rattle.std.specs.FinMap.{get}
use Rattle.std.specs.declared.option.Option.{Option}
use Rattle.std.specs.declared.option.Option.TheVariants.{Some}
use Rattle.fil_address.specs.AddressBytes.{address}
use Rattle.fil_address.specs.declared.address.Address.{Address}
use Rattle.fil_address.specs.declared.address.Address.TheVariants.{Id, Secp, Made, Bls}
use Rattle.init_names.specs.Names.{Names}

-- an ID address names its own ID, and any other the one of its entry, if it has one
abbrev pub resolved : Names → Address → Option ℕ
resolved names (Id id) = Some id
resolved names (Secp hash) = get names (address (Secp hash))
resolved names (Made hash) = get names (address (Made hash))
resolved names (Bls key) = get names (address (Bls key))
