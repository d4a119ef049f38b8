-- Texts that are no address.
use Rattle.std.proofs.Common.{◌≡◌, ◌≢◌, ℕ, ◌+◌, ◌<◌, ◌≤◌, List, ◌∷◌, length, inl, inr, refl, ap, subst, ◌∙◌, arith}
use Rattle.std.specs.Prelude.{All}
use Rattle.fil_base.specs.Base32.{base32}
use Rattle.fil_base.specs.Failure.{IfFault}
use Rattle.fil_base.specs.declared.failure.Failure.{Failure}
use Rattle.fil_base.specs.declared.failure.Failure.TheVariants.{NoMemory, Fault}
use Rattle.fil_address.specs.AddressBytes.{AreBytes, IsAddress, address, payload, protocol}
use Rattle.fil_address.specs.AddressText.{body, checksum}
use Rattle.fil_address.specs.AddressFault.{HasLength, IsBytesFault, IsFaultBehind, IsLettersFault}
use Rattle.fil_address.proofs.Cuts.{IsCut}
use Rattle.fil_address.proofs.Protocols.{length_for, length_of}
use Rattle.fil_address.specs.declared.address.Address.{Address}
use Rattle.fil_address.specs.declared.address.Address.TheVariants.{Id, Secp, Made, Bls}
use Rattle.fil_address.specs.declared.fault.AddressFault.{AddressFault}
use Rattle.fil_address.specs.declared.fault.AddressFault.TheVariants.{Empty, Protocol, Number, Length, Letter, Checksum}

bad_letters : (p : ℕ) (rest : List ℕ) (fault : AddressFault) → 1 ≤ p → p ≤ 3 → IsLettersFault rest fault → IsFaultBehind p rest fault
bad_letters p rest Empty low high bad = elim bad [ ]
bad_letters p rest Protocol low high bad = elim bad [ ]
bad_letters p rest Number low high bad = elim bad [ ]
bad_letters p rest Length low high bad =
    let has = length_for p low high in
    λ text is. (p, has.0, rest, is, has.1, inl bad)
bad_letters p rest Letter low high bad =
    let has = length_for p low high in
    λ text is. inr (p, has.0, rest, is, has.1, bad)
bad_letters p rest Checksum low high bad = elim bad [ ]

pub letters_fail : (p : ℕ) (rest : List ℕ) (failure : Failure AddressFault) → 1 ≤ p → p ≤ 3 → IfFault failure (IsLettersFault rest) → IfFault failure (IsFaultBehind p rest)
letters_fail p rest NoMemory low high bad = tt
letters_fail p rest (Fault fault) low high bad = bad_letters p rest fault low high bad

bad_size : (p len : ℕ) (bytes : List ℕ) → HasLength p len → All (λ byte. byte < 256) bytes → length bytes ≢ len + 4 → IsFaultBehind p (base32 bytes) Length
bad_size p len bytes has below other text is =
    (p, len, base32 bytes, is, has, inr (bytes, refl, below, other))

-- there are fewer bytes than a checksum has
pub no_checksum : (p : ℕ) (bytes : List ℕ) → 1 ≤ p → p ≤ 3 → All (λ byte. byte < 256) bytes → length bytes < 4 → IsFaultBehind p (base32 bytes) Length
no_checksum p bytes low high below few =
    let has = length_for p low high in
    bad_size p has.0 bytes has.1 below (λ is. omega (arith, is))

-- the payload has another length
pub bad_payload : (p : ℕ) (rest bytes : List ℕ) (fault : AddressFault) → 1 ≤ p → p ≤ 3 → IsBytesFault (p ∷ rest) fault → All (λ byte. byte < 256) bytes → length rest + 4 ≡ length bytes → IsFaultBehind p (base32 bytes) fault
bad_payload p rest bytes Empty low high fault below size = absurd cc
bad_payload p rest bytes Protocol low high (q, more, is, great) below size = let same : p ≡ q = cc in absurd (omega arith)
bad_payload p rest bytes Number low high (more, is, none) below size = let same : p ≡ 0 = cc in absurd (omega arith)
bad_payload p rest bytes Length low high (q, more, len, is, has, other) below size =
    let same : q ≡ p = cc in
    let same_rest : more ≡ rest = cc in
    bad_size p len bytes (subst (λ k. HasLength k len) same has) below (λ is. other (omega (arith, is, ap length same_rest)))
bad_payload p rest bytes Letter low high fault below size = elim fault [ ]
bad_payload p rest bytes Checksum low high fault below size = elim fault [ ]

pub bad_checksum : (p : ℕ) (rest sum bytes : List ℕ) (a : Address) → 1 ≤ p → IsAddress a → p ∷ rest ≡ address a → IsCut bytes rest sum → sum ≢ checksum (p ∷ rest) → IsFaultBehind p (base32 bytes) Checksum
unfolding address
bad_checksum p rest sum bytes a low good is cut other text (network, known, spelled, enough) =
    let kind : protocol a ≡ p = cc in
    let same : payload a ≡ rest = cc in
    let has = length_of a good (omega arith) in
    (p, has.0, rest, sum, (network, known, spelled ∙ ap (λ b. network ∷ ((48 + p) ∷ base32 b)) cut.whole, enough), subst (λ k. HasLength k has.0) kind has.1, subst (λ bytes. AreBytes bytes has.0) same has.2, cut.four, other)

-- the payload and the checksum of an address
pub checked : (p : ℕ) (rest sum bytes : List ℕ) (a : Address) → 1 ≤ p → IsAddress a → p ∷ rest ≡ address a → IsCut bytes rest sum → sum ≡ checksum (p ∷ rest) → IsAddress a × (protocol a ≡ p) × (base32 bytes ≡ body a)
unfolding address
checked p rest sum bytes (Id id) low good is cut same = let zero : p ≡ 0 = cc in absurd (omega arith)
checked p rest sum bytes (Secp hash) low good is cut same = (good, cc, ap base32 (cut.whole ∙ cc))
checked p rest sum bytes (Made hash) low good is cut same = (good, cc, ap base32 (cut.whole ∙ cc))
checked p rest sum bytes (Bls key) low good is cut same = (good, cc, ap base32 (cut.whole ∙ cc))
