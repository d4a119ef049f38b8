-- Two names of different kinds of keys.
use Rattle.std.proofs.Common.{ℕ, List, [], ◌∷◌, refl}
use Rattle.std.specs.Prelude.{bytes_eq}
use Rattle.std.specs.List.{IsDistinct}
use Rattle.fil_address.specs.AddressBytes.{address}
use Rattle.fil_address.specs.declared.address.Address.TheVariants.{Bls, Secp}

-- their spellings begin otherwise
pub two_names : (hash key : List ℕ) → IsDistinct bytes_eq (address (Secp hash) ∷ address (Bls key) ∷ [])
unfolding IsDistinct address
two_names hash key = ((refl, tt), (tt, tt))
