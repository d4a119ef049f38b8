-- What an address's protocol says of it.
use Rattle.std.proofs.Common.{◌≡◌, ℕ, ◌^◌, ◌<◌, ◌≤◌, inl, inr, refl, arith}
use Rattle.std.proofs.lemmas.Bool.{cases_lt}
use Rattle.fil_address.specs.AddressBytes.{AreBytes, IsAddress, payload, protocol}
use Rattle.fil_address.specs.AddressFault.{HasLength}
use Rattle.fil_address.specs.declared.address.Address.{Address}
use Rattle.fil_address.specs.declared.address.Address.TheVariants.{Id, Secp, Made, Bls}

pub protocol-le : (a : Address) → protocol a ≤ 3
protocol-le (Id id) = omega arith
protocol-le (Secp hash) = omega arith
protocol-le (Made hash) = omega arith
protocol-le (Bls key) = omega arith

-- protocol 0 is that of IDs
pub id_of : (a : Address) → IsAddress a → protocol a ≡ 0 → (id : ℕ) × (a ≡ Id id) × (id < 2 ^ 63)
id_of (Id id) good is = (id, refl, good)
id_of (Secp hash) good is = absurd (omega arith)
id_of (Made hash) good is = absurd (omega arith)
id_of (Bls key) good is = absurd (omega arith)

-- the other payloads are bytes
pub length_of : (a : Address) → IsAddress a → 1 ≤ protocol a → (len : ℕ) × HasLength (protocol a) len × AreBytes (payload a) len
length_of (Id id) good low = absurd (omega arith)
length_of (Secp hash) good low = (20, inl (inl refl, refl), good)
length_of (Made hash) good low = (20, inl (inr refl, refl), good)
length_of (Bls key) good low = (48, inr (refl, refl), good)

pub length_for : (p : ℕ) → 1 ≤ p → p ≤ 3 → (len : ℕ) × HasLength p len
length_for p low high =
    elim (cases_lt p 3) [
      | inl small ↦ (20, inl (elim (cases_lt p 2) [ inl one ↦ inl (omega arith) | inr two ↦ inr (omega arith) ], refl))
      | inr three ↦ (48, inr (omega arith, refl))
    ]

pub one_length : (p m n : ℕ) → HasLength p m → HasLength p n → m ≡ n
one_length p m n x y = grind arith

pub positive : (p len : ℕ) → HasLength p len → 1 ≤ p
positive p len (inl (inl one, is)) = omega arith
positive p len (inl (inr two, is)) = omega arith
positive p len (inr (three, is)) = omega arith
