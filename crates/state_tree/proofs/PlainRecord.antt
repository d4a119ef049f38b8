-- Records of actors, and roots of states, have a spelling.
use Rattle.std.proofs.Common.{◌≡◌, ℕ, zero, suc, ◌^◌, ◌<◌, ◌≤◌, List, [], ◌∷◌, length, pos, sym, ap, subst, lit≤, arith}
use Rattle.std.specs.Int.Digits.{digits_of}
use Rattle.std.specs.List.{AllByRecursion}
use Rattle.fil_base.specs.Amount.{amount}
use Rattle.fil_base.specs.CidParts.{CidParts, IsCid}
use Rattle.fil_base.specs.declared.token.TheConstants.{GREATEST_AMOUNT}
use Rattle.fil_base.proofs.Magnitude.{amount-positive, magnitude_start}
use Rattle.std.proofs.lemmas.Int.Digits.{length-digits_of-le}
use Rattle.dag_cbor.specs.Plain.{IsPlain}
use Rattle.dag_cbor.specs.declared.value.Value.{Value}
use Rattle.dag_cbor.specs.declared.value.Value.TheVariants as v
use Rattle.dag_cbor.proofs.Equations.{IsPlain-Blob, IsPlain-Link, IsPlain-List, IsPlain-pos}
use Rattle.state_tree.specs.Actors.{IsActor, actor_record}
use Rattle.state_tree.specs.declared.actor.Actor.{Actor}

plain_list : (d : ℕ) (items : List Value) → length items < 2 ^ 64 → AllByRecursion (IsPlain d) items → IsPlain (suc d) (v.List items)
plain_list d items small all = subst (λ (P : Type 0). P) (sym (IsPlain-List d items)) (small, all)

plain_blob : (d : ℕ) (bytes : List ℕ) → length bytes < 2 ^ 64 → IsPlain (suc d) (v.Blob bytes)
plain_blob d bytes small = subst (λ (P : Type 0). P) (sym (IsPlain-Blob d bytes)) small

plain_link : (d : ℕ) (cid : CidParts) → IsCid cid → IsPlain (suc d) (v.Link cid)
plain_link d cid is = subst (λ (P : Type 0). P) (sym (IsPlain-Link d cid)) is

plain_number : (d n : ℕ) → n < 2 ^ 64 → IsPlain (suc d) (v.Int (pos n))
plain_number d n small = subst (λ (P : Type 0). P) (sym (IsPlain-pos d n)) small

amount_small : (n : ℕ) → n ≤ GREATEST_AMOUNT → length (amount n) < 2 ^ 64
unfolding amount
amount_small zero small = omega arith
amount_small (suc n) small =
    let below : suc n < 256 ^ 12 = magnitude_start (suc n) small in
    let few : length (digits_of 256 (suc n)) ≤ 12 = length-digits_of-le 256 12 (suc n) (lit≤ tt) below in
    let size : length (amount (suc n)) ≡ suc (length (digits_of 256 (suc n))) = ap length (amount-positive (suc n) (omega arith)) in
    omega (arith, size, few)

-- the record of an actor in its ranges
pub plain_record : (a : Actor) → IsActor a → IsPlain 120 (actor_record a)
plain_record a is =
    plain_list 119 (v.Link a.code ∷ v.Link a.head ∷ v.Int (pos a.sequence) ∷ v.Blob (amount a.balance) ∷ []) (omega arith)
    (plain_link 118 a.code is.code, (plain_link 118 a.head is.head, (plain_number 118 a.sequence is.sequence, (plain_blob 118 (amount a.balance) (amount_small a.balance is.balance), tt))))

-- a root of links
pub plain_root : (version : ℕ) (actors info : CidParts) → version ≡ 4 → IsCid actors → IsCid info → IsPlain 128 (v.List (v.Int (pos version) ∷ v.Link actors ∷ v.Link info ∷ []))
plain_root version actors info four is-actors is-info =
    plain_list 127 (v.Int (pos version) ∷ v.Link actors ∷ v.Link info ∷ []) (omega arith)
    (plain_number 126 version (omega (arith, four)), (plain_link 126 actors is-actors, (plain_link 126 info is-info, tt)))
