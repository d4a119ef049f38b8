-- The bytes of an address that is no ID are a name.
use Rattle.std.proofs.Common.{◌≡◌, ℕ, List, length, true, refl}
use Rattle.fil_address.specs.AddressBytes.{address}
use Rattle.fil_address.specs.declared.address.Address.{Address}
use Rattle.fil_address.specs.declared.address.Address.TheVariants.{Secp, Made, Bls}
use Rattle.init_names.specs.Names.{is_name}

pub secp_named : (a : Address) (hash : List ℕ) → a ≡ Secp hash → length hash ≡ 20 → is_name (address a) ≡ true
unfolding address
secp_named a hash is len = rw (is, len) refl

pub made_named : (a : Address) (hash : List ℕ) → a ≡ Made hash → length hash ≡ 20 → is_name (address a) ≡ true
unfolding address
made_named a hash is len = rw (is, len) refl

pub bls_named : (a : Address) (key : List ℕ) → a ≡ Bls key → length key ≡ 48 → is_name (address a) ≡ true
unfolding address
bls_named a key is len = rw (is, len) refl
