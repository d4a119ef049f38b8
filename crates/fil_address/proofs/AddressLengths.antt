-- How long addresses are.
use Rattle.std.proofs.Common.{ℕ, zero, suc, ◌/◌, ◌^◌, ◌<◌, ◌≤◌, length, inl, inr, ap, arith}
use Rattle.std.proofs.lemmas.Bool.{cases_lt}
use Rattle.fil_base.specs.Varint.{varint}
use Rattle.fil_base.proofs.Varints.{varint-more, varint-small}
use Rattle.fil_address.specs.AddressBytes.{IsAddress, address}
use Rattle.fil_address.specs.declared.address.Address.{Address}
use Rattle.fil_address.specs.declared.address.Address.TheVariants.{Id, Secp, Made, Bls}

length-varint : (k n : ℕ) → n < 128 ^ (suc k) → length (varint n) ≤ suc k
length-varint zero n small = omega (arith, ap length (varint-small n (omega arith)))
length-varint (suc k) n small =
    elim (cases_lt n 128) [
      | inl below ↦ omega (arith, ap length (varint-small n below))
      | inr above ↦ omega (arith, ap length (varint-more n above), length-varint k (n / 128) (omega arith))
    ]

pub length-address : (a : Address) → IsAddress a → length (address a) ≤ 49
unfolding address
length-address (Id id) good = omega (arith, length-varint 8 id good)
length-address (Secp hash) good = omega (arith, good.0)
length-address (Made hash) good = omega (arith, good.0)
length-address (Bls key) good = omega (arith, good.0)
