-- An address has bytes of its own, and they are not refused.
use Rattle.std.proofs.Common.{◌≡◌, ℕ, [], ◌++◌, length, ap, subst, ◌∙◌, arith}
use Rattle.fil_base.specs.Varint.{varint}
use Rattle.fil_base.proofs.Varints.{same_varints}
use Rattle.fil_address.specs.AddressBytes.{IsAddress, address, payload, protocol}
use Rattle.fil_address.specs.AddressFault.{HasLength, IsBytesFault}
use Rattle.fil_address.proofs.Protocols.{id_of, length_of, one_length, positive, protocol-le}
use Rattle.fil_address.specs.declared.address.Address.{Address}
use Rattle.fil_address.specs.declared.address.Address.TheVariants.{Id, Secp, Made, Bls}
use Rattle.fil_address.specs.declared.fault.AddressFault.{AddressFault}
use Rattle.fil_address.specs.declared.fault.AddressFault.TheVariants.{Empty, Protocol, Number, Length, Letter, Checksum}

same_ids : (m n : ℕ) → varint m ≡ varint n → m ≡ n
same_ids m n same = (same_varints m n [] [] (ap (λ bytes. bytes ++ []) same)).0

pub same_parts : (a b : Address) → protocol a ≡ protocol b → payload a ≡ payload b → a ≡ b
same_parts (Id x) (Id y) kinds payloads = ap Id (same_ids x y payloads)
same_parts (Secp x) (Secp y) kinds payloads = ap Secp payloads
same_parts (Made x) (Made y) kinds payloads = ap Made payloads
same_parts (Bls x) (Bls y) kinds payloads = ap Bls payloads
same_parts (Id x) (Secp y) kinds payloads = absurd (omega arith)
same_parts (Id x) (Made y) kinds payloads = absurd (omega arith)
same_parts (Id x) (Bls y) kinds payloads = absurd (omega arith)
same_parts (Secp x) (Id y) kinds payloads = absurd (omega arith)
same_parts (Secp x) (Made y) kinds payloads = absurd (omega arith)
same_parts (Secp x) (Bls y) kinds payloads = absurd (omega arith)
same_parts (Made x) (Id y) kinds payloads = absurd (omega arith)
same_parts (Made x) (Secp y) kinds payloads = absurd (omega arith)
same_parts (Made x) (Bls y) kinds payloads = absurd (omega arith)
same_parts (Bls x) (Id y) kinds payloads = absurd (omega arith)
same_parts (Bls x) (Secp y) kinds payloads = absurd (omega arith)
same_parts (Bls x) (Made y) kinds payloads = absurd (omega arith)

pub same_addresses : (a b : Address) → IsAddress a → IsAddress b → address a ≡ address b → a ≡ b
unfolding address
same_addresses a b good_a good_b same =
    let kinds : protocol a ≡ protocol b = cc in
    let payloads : payload a ≡ payload b = cc in
    same_parts a b kinds payloads

pub refused_is_no_address : (a : Address) (fault : AddressFault) → IsAddress a → IsBytesFault (address a) fault → ⊥
unfolding address
refused_is_no_address a Empty good is = cc
refused_is_no_address a Protocol good (p, rest, is, great) =
    let same : protocol a ≡ p = cc in
    omega (arith, protocol-le a)
refused_is_no_address a Number good (rest, is, none) =
    let kind : protocol a ≡ 0 = cc in
    let id = id_of a good kind in
    let same : rest ≡ payload a = cc in
    none id.0 id.2 (same ∙ ap payload id.1)
refused_is_no_address a Length good (p, rest, len, is, has, other) =
    let kind : p ≡ protocol a = cc in
    let same : rest ≡ payload a = cc in
    let has_own : HasLength (protocol a) len = subst (λ k. HasLength k len) kind has in
    let own = length_of a good (positive (protocol a) len has_own) in
    other (ap length same ∙ (own.2.0 ∙ one_length (protocol a) own.0 len own.1 has_own))
refused_is_no_address a Letter good fault = fault
refused_is_no_address a Checksum good fault = fault
