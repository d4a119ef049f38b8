-- Bytes that are no address.
use Rattle.std.proofs.Common.{◌≡◌, ◌≢◌, ℕ, ◌^◌, ◌<◌, List, [], ◌∷◌, length, refl, sym, ap, ◌∙◌}
use Rattle.std.proofs.lemmas.List.{append-nil}
use Rattle.fil_base.specs.Varint.{varint}
use Rattle.fil_base.specs.VarintFault.{FoundVarint, IsVarintFault}
use Rattle.fil_base.specs.declared.varint.VarintFault.{VarintFault}
use Rattle.fil_base.proofs.Varints.{fault_spells_none, same_varints}
use Rattle.fil_address.specs.AddressFault.{HasLength, IsBytesFault}
use Rattle.fil_address.specs.declared.fault.AddressFault.{AddressFault}
use Rattle.fil_address.specs.declared.fault.AddressFault.TheVariants.{Length}

pub fault_is_no_id : (bytes : List ℕ) (fault : VarintFault) → IsVarintFault bytes fault → (id : ℕ) → id < 2 ^ 63 → bytes ≢ varint id
fault_is_no_id bytes fault found id small is =
    fault_spells_none bytes fault id [] found small (is ∙ sym (append-nil (varint id)))

pub more_is_no_id : (bytes : List ℕ) (n len : ℕ) → FoundVarint bytes n len → len ≢ length bytes → (id : ℕ) → id < 2 ^ 63 → bytes ≢ varint id
more_is_no_id bytes n len found longer id small is =
    let same = same_varints id n [] found.rest (append-nil (varint id) ∙ (sym is ∙ found.spelled)) in
    longer (found.len_is ∙ (ap (λ k. length (varint k)) (sym same.0) ∙ ap length (sym is)))

pub wrong_length : (protocol len : ℕ) (payload : List ℕ) (fault : AddressFault) → HasLength protocol len → (fault ≡ Length) × (length payload ≢ len) → IsBytesFault (protocol ∷ payload) fault
wrong_length protocol len payload fault has (is, other) = rw is (protocol, payload, len, refl, has, other)
