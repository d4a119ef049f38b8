-- Bytes are read as an address if and only if they spell it.
use Rattle.std.proofs.Common.{◌≡◌, ◌≢◌, ◌↔◌, ℕ, zero, suc, ◌+◌, ◌-◌, ◌*◌, ◌/◌, ◌%◌, ◌^◌, ◌<◌, ◌≤◌, ltb, eqb, Bool, true, ◌&&◌, List, [], ◌∷◌, get_or, take, drop, length, map, reverse, Option, None, Some, Result, Ok, Err, IfOk, IfErr, OnErr, inl, inr, refl, sym, ap, subst, ◌∙◌, lit≤, arith}
use Rattle.std.specs.Prelude.{All}
use Rattle.std.specs.Str.{bytes_eq}
use Rattle.std.specs.Option.{option_map}
use Rattle.std.specs.Int.Digits.{number_from_digits}
use Rattle.std.specs.Cmp.Lexicographic.{bytes_decides}
use mathlib.Core.List.{reverse-cons}
use Rattle.std.proofs.lemmas.Bool.{cases_Bool, cases_eq, cases_lt, ne_eqb, and_parts, lt-ltb, ltb-true, eqb-true, eq-eqb}
use Rattle.std.proofs.lemmas.List.{take_rest}
use Rattle.std.proofs.lemmas.Int.Digits.{number_push}
use Rattle.fil_base.specs.Varint.{varint}
use Rattle.fil_base.proofs.Varints.{varint-small, varint-more}
use Rattle.fil_address.specs.AddressBytes.{AreBytes, IsAddress, address}
use Rattle.fil_address.specs.AddressFault.{IsBytesFault}
use Rattle.fil_address.specs.AddressReading.{address_behind, address_in, id_of_groups, so_many}
use Rattle.fil_address.specs.declared.address.Address.{Address}
use Rattle.fil_address.specs.declared.address.Address.TheVariants.{Id, Secp, Made, Bls}
use Rattle.fil_address.specs.declared.fault.AddressFault.{AddressFault}
use Rattle.fil_address.proofs.OneAddress.{refused_is_no_address}

-- the number of groups of seven bits, the lowest first
groups_number : List ℕ → ℕ
groups_number groups = number_from_digits 128 (reverse (map (λ byte. byte % 128) groups))

number_step : (byte : ℕ) (bytes : List ℕ) → groups_number (byte ∷ bytes) ≡ groups_number bytes * 128 + byte % 128
unfolding groups_number
number_step byte bytes =
    let groups : List ℕ = map (λ b. b % 128) bytes in
    ap (number_from_digits 128) (reverse-cons (byte % 128) groups) ∙ number_push 128 (reverse groups) (byte % 128)

number_within : (bound n : ℕ) → n ≤ bound → groups_number (varint n) ≡ n
unfolding groups_number
number_within zero n within = ap groups_number (varint-small n (omega arith)) ∙ (number_push 128 [] (n % 128) ∙ omega arith)
number_within (suc bound) n within =
    elim (cases_lt n 128) [
      | inl small ↦ ap groups_number (varint-small n small) ∙ (number_push 128 [] (n % 128) ∙ omega arith)
      | inr great ↦
          let high = number_within bound (n / 128) (omega arith) in
          ap groups_number (varint-more n great) ∙ (number_step (128 + n % 128) (varint (n / 128)) ∙ omega (arith, high))
    ]

number_of_varint : (n : ℕ) → groups_number (varint n) ≡ n
number_of_varint n = number_within n n (omega arith)

-- IDs
id_again : (id : ℕ) → id < 2 ^ 63 → id_of_groups (varint id) ≡ Some id
unfolding groups_number
id_again id small =
    rw (number_of_varint id, lt-ltb id (2 ^ 63) small, (bytes_decides (varint id) (varint id)).1 refl) refl

id_read : (groups : List ℕ) (id : ℕ) → id_of_groups groups ≡ Some id → (id < 2 ^ 63) × (groups ≡ varint id)
unfolding groups_number
id_read groups id read =
    let n : ℕ = number_from_digits 128 (reverse (map (λ byte. byte % 128) groups)) in
    elim (cases_Bool (ltb n (2 ^ 63) && bytes_eq groups (varint n))) [
      | inl passes ↦
          let both = and_parts (ltb n (2 ^ 63)) (bytes_eq groups (varint n)) passes in
          let same : n ≡ id = (let found : Some n ≡ Some id = (rw passes at read) in cc) in
          let small = ltb-true n (2 ^ 63) both.0 in
          let spelled = (bytes_decides groups (varint n)).0 both.1 in
          (subst (λ k. k < 2 ^ 63) same small, spelled ∙ ap varint same)
      | inr fails ↦ absurd (let wrong : None ≡ Some id = (rw fails at read) in cc)
    ]

mapped : {A B : Type 0} (f : A → B) (o : Option A) (b : B) → option_map f o ≡ Some b → (a : A) × (o ≡ Some a) × (f a ≡ b)
mapped f None b is = absurd (let wrong : None ≡ Some b = is in cc)
mapped f (Some a) b is = (a, refl, (let same : Some (f a) ≡ Some b = is in cc))

ids_read : (payload : List ℕ) (a : Address) → option_map Id (id_of_groups payload) ≡ Some a → IsAddress a × (0 ∷ payload ≡ address a)
unfolding address
ids_read payload a read =
    let there = mapped Id (id_of_groups payload) a read in
    let good = id_read payload there.0 there.1 in
    subst (λ (x : Address). IsAddress x × (0 ∷ payload ≡ address x)) there.2 (good.0, ap (λ (bytes : List ℕ). 0 ∷ bytes) good.1)

-- payloads of bytes
many_read : (len : ℕ) (bytes read : List ℕ) → All (λ byte. byte < 256) bytes → so_many len bytes ≡ Some read → AreBytes read len × (read ≡ bytes)
many_read len bytes read below is =
    elim (cases_Bool (eqb (length bytes) len)) [
      | inl passes ↦
          let same : bytes ≡ read = (let found : Some bytes ≡ Some read = (rw passes at is) in cc) in
          (subst (λ (xs : List ℕ). AreBytes xs len) same (eqb-true (length bytes) len passes, below), sym same)
      | inr fails ↦ absurd (let wrong : None ≡ Some read = (rw fails at is) in cc)
    ]

many_again : (len : ℕ) (bytes : List ℕ) → length bytes ≡ len → so_many len bytes ≡ Some bytes
many_again len bytes is = rw (eq-eqb (length bytes) len is) refl

bytes_read : (kind len : ℕ) (make : List ℕ → Address) (payload : List ℕ) (a : Address) → All (λ byte. byte < 256) payload
    → ((bytes : List ℕ) → AreBytes bytes len → IsAddress (make bytes)) → ((bytes : List ℕ) → address (make bytes) ≡ kind ∷ bytes)
    → option_map make (so_many len payload) ≡ Some a → IsAddress a × (kind ∷ payload ≡ address a)
bytes_read kind len make payload a below good spelled read =
    let there = mapped make (so_many len payload) a read in
    let bytes = many_read len payload there.0 below there.1 in
    subst (λ (x : Address). IsAddress x × (kind ∷ payload ≡ address x)) there.2
    (good there.0 bytes.0, ap (λ (xs : List ℕ). kind ∷ xs) (sym bytes.1) ∙ sym (spelled there.0))

of_secp : (hash : List ℕ) → address (Secp hash) ≡ 1 ∷ hash
unfolding address
of_secp hash = refl

of_made : (hash : List ℕ) → address (Made hash) ≡ 2 ∷ hash
unfolding address
of_made hash = refl

of_bls : (key : List ℕ) → address (Bls key) ≡ 3 ∷ key
unfolding address
of_bls key = refl

other_protocol : (protocol : ℕ) (payload : List ℕ) → protocol ≢ 0 → protocol ≢ 1 → protocol ≢ 2 → protocol ≢ 3 → address_behind protocol payload ≡ None
other_protocol protocol payload zeroth first second third =
    rw (ne_eqb protocol 0 zeroth, ne_eqb protocol 1 first, ne_eqb protocol 2 second, ne_eqb protocol 3 third) refl

behind_read : (protocol : ℕ) (payload : List ℕ) (a : Address) → All (λ byte. byte < 256) payload → address_behind protocol payload ≡ Some a → IsAddress a × (protocol ∷ payload ≡ address a)
behind_read protocol payload a below read =
    let at_kind : (kind : ℕ) → protocol ≡ kind → (address_behind kind payload ≡ Some a → IsAddress a × (kind ∷ payload ≡ address a)) → IsAddress a × (protocol ∷ payload ≡ address a) =
    λ kind is reads. subst (λ k. IsAddress a × (k ∷ payload ≡ address a)) (sym is) (reads (subst (λ k. address_behind k payload ≡ Some a) is read)) in
    elim (cases_eq protocol 0) [
      | inl is ↦ at_kind 0 is (ids_read payload a)
      | inr zeroth ↦ elim (cases_eq protocol 1) [
        | inl is ↦ at_kind 1 is (bytes_read 1 20 Secp payload a below (λ bytes good. good) of_secp)
        | inr first ↦ elim (cases_eq protocol 2) [
          | inl is ↦ at_kind 2 is (bytes_read 2 20 Made payload a below (λ bytes good. good) of_made)
          | inr second ↦ elim (cases_eq protocol 3) [
            | inl is ↦ at_kind 3 is (bytes_read 3 48 Bls payload a below (λ bytes good. good) of_bls)
            | inr third ↦ absurd (let wrong : None ≡ Some a = sym (other_protocol protocol payload zeroth first second third) ∙ read in cc)
          ]
        ]
      ]
    ]

-- what is read is spelled so
pub address_read : (bytes : List ℕ) (a : Address) → All (λ byte. byte < 256) bytes → address_in bytes ≡ Some a → IsAddress a × (bytes ≡ address a)
address_read [] a below read = absurd (let wrong : None ≡ Some a = read in cc)
address_read (protocol ∷ payload) a below read = behind_read protocol payload a (λ i d within. below (suc i) d (omega arith)) read

-- what is spelled so is read
pub address_again : (a : Address) → IsAddress a → address_in (address a) ≡ Some a
unfolding address
address_again (Id id) good = ap (option_map Id) (id_again id good)
address_again (Secp hash) good = ap (option_map Secp) (many_again 20 hash good.0)
address_again (Made hash) good = ap (option_map Made) (many_again 20 hash good.0)
address_again (Bls key) good = ap (option_map Bls) (many_again 48 key good.0)

pub read_if_spelled : (bytes : List ℕ) (a : Address) → All (λ byte. byte < 256) bytes → (address_in bytes ≡ Some a) ↔ (IsAddress a × (bytes ≡ address a))
read_if_spelled bytes a below = (address_read bytes a below, λ spells. ap address_in spells.1 ∙ address_again a spells.0)

-- bytes with a fault are read as none
no_address : (bytes : List ℕ) (read : Option Address) → ((a : Address) → read ≡ Some a → ⊥) → read ≡ None
no_address bytes None none = refl
no_address bytes (Some a) none = absurd (none a refl)

pub none_read : (bytes : List ℕ) (fault : AddressFault) → All (λ byte. byte < 256) bytes → IsBytesFault bytes fault → address_in bytes ≡ None
none_read bytes fault below refused =
    no_address bytes (address_in bytes) (λ a read.
    let good = address_read bytes a below read in
    refused_is_no_address a fault good.0 (subst (λ (xs : List ℕ). IsBytesFault xs fault) good.1 refused))

-- what an answer of one of the two readings says of the other
pub found_is_read : {E : Type 0} (bytes : List ℕ) (r : Result Address E) → All (λ byte. byte < 256) bytes → IfOk r (λ a. IsAddress a × (bytes ≡ address a)) → IfOk r (λ a. address_in bytes ≡ Some a)
found_is_read bytes (Ok a) below good = ap address_in good.1 ∙ address_again a good.0
found_is_read bytes (Err fault) below good = tt

pub fault_is_none : (bytes : List ℕ) (r : Result Address AddressFault) → All (λ byte. byte < 256) bytes → IfErr r (IsBytesFault bytes) → OnErr r (address_in bytes ≡ None)
fault_is_none bytes (Ok a) below refused = tt
fault_is_none bytes (Err fault) below refused = none_read bytes fault below refused

-- the first of some bytes, and the others
pub first_and_rest : (bytes : List ℕ) → 1 ≤ length bytes → get_or bytes 0 0 ∷ take (length bytes - 1) (drop 1 bytes) ≡ bytes
first_and_rest [] some = absurd (omega arith)
first_and_rest (first ∷ rest) some = ap (λ (xs : List ℕ). first ∷ xs) (take_rest (first ∷ rest) 1)
