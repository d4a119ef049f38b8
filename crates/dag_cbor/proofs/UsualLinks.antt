-- A usual link is spelled by its front and its digest.
use Rattle.std.proofs.Common.{◌≡◌, ℕ, zero, suc, ◌+◌, ◌<◌, ◌≤◌, List, [], ◌∷◌, ◌++◌, length, take, drop, Result, Ok, Some, refl, sym, ap, subst, ◌∙◌, append_assoc, arith, length-append}
use Rattle.std.proofs.lemmas.List.{length-take-le, take-append-drop}
use Rattle.fil_base.specs.CidParts.{IsCid}
use Rattle.fil_base.specs.CidBytes.{cid_bytes}
use Rattle.fil_base.specs.Varint.{varint}
use Rattle.fil_base.proofs.Varints.{varint-small}
use Rattle.dag_cbor.specs.declared.value.Value.{Value}
use Rattle.dag_cbor.specs.declared.value.Value.TheVariants as v
use Rattle.dag_cbor.specs.declared.value.Value.TheOpen as layer
use Rattle.dag_cbor.specs.declared.fault.Flaw.{Flaw}
use Rattle.dag_cbor.specs.Behind.{behind}
use Rattle.dag_cbor.specs.Plain.{IsPlain}
use Rattle.dag_cbor.specs.Reading.{item_at, linked}
use Rattle.dag_cbor.specs.Spelling.{head, spelled, spelled_layer}
use Rattle.dag_cbor.specs.UsualLink.{usual, usual_front, usual_link_front}
use Rattle.dag_cbor.proofs.CidLaw.{bytes_of_1, cid_of-is}
use Rattle.dag_cbor.proofs.Equations.{IsPlain-Link, spelled-Link}
use Rattle.dag_cbor.proofs.Items.{item_again}

-- the code of BLAKE2b-256
hash_code : varint 0xb220 ≡ 0xa0 ∷ 0xe4 ∷ 0x02 ∷ []
unfolding varint
hash_code = refl

-- such a CID is one
pub usual_is : (codec : ℕ) (digest : List ℕ) → codec < 128 → length digest ≡ 32 → IsCid (usual codec digest)
usual_is codec digest small len = record { version = omega arith; codec = omega (arith, small); hash = omega arith; digest = omega (arith, len); version0 = λ z. absurd (omega (arith, z)) }

-- its spelling
pub usual_bytes : (codec : ℕ) (digest : List ℕ) → codec < 128 → length digest ≡ 32 → 0 ∷ cid_bytes (usual codec digest) ≡ usual_front codec ++ digest
usual_bytes codec digest small len =
    ap (λ (t : List ℕ). 0 ∷ t) (bytes_of_1 (usual codec digest) refl)
    ∙ (λ i. 0 ∷ (1 ∷ (varint-small codec small i ++ (hash_code i ++ (varint (len i) ++ digest)))))
    ∙ ap (λ (t : List ℕ). 0 ∷ (1 ∷ (codec ∷ (0xa0 ∷ (0xe4 ∷ (0x02 ∷ (t ++ digest))))))) (varint-small 32 (omega arith))

-- the heads in front of it
heads : head 6 42 ++ head 2 39 ≡ 0xd8 ∷ 0x2a ∷ 0x58 ∷ 0x27 ∷ []
unfolding head
heads = refl

-- its link
pub usual_link : (codec : ℕ) (digest : List ℕ) → codec < 128 → length digest ≡ 32 → spelled_layer (layer.Link (usual codec digest)) ≡ usual_link_front codec ++ digest
usual_link codec digest small len =
    let bytes = usual_bytes codec digest small len in
    let size : length (cid_bytes (usual codec digest)) + 1 ≡ 39 = omega (arith, ap length bytes, len, length-append (usual_front codec) digest) in
    (λ i. head 6 42 ++ (head 2 (size i) ++ bytes i))
    ∙ sym (append_assoc (head 6 42) (head 2 39) (usual_front codec ++ digest))
    ∙ ap (λ (t : List ℕ). t ++ (usual_front codec ++ digest)) heads

-- bytes that begin with one are behind it
pub usual_passed : (depth codec : ℕ) (bytes digest rest : List ℕ) → 0 < depth → codec < 128 → length digest ≡ 32 → bytes ≡ usual_link_front codec ++ (digest ++ rest) → behind (item_at depth bytes) ≡ Ok rest
usual_passed (suc depth) codec bytes digest rest some small len is =
    let link = v.Link (usual codec digest) in
    let plain : IsPlain (suc depth) link = subst (λ (P : Type 0). P) (sym (IsPlain-Link depth (usual codec digest))) (usual_is codec digest small len) in
    let whole : bytes ≡ spelled link ++ rest =
    is ∙ sym (append_assoc (usual_link_front codec) digest rest) ∙ ap (λ (t : List ℕ). t ++ rest) (sym (spelled-Link (usual codec digest) ∙ usual_link codec digest small len)) in
    ap (λ (t : List ℕ). behind (item_at (suc depth) t)) whole ∙ ap (λ (r : Result (Value × List ℕ) Flaw). behind r) (item_again (suc depth) link rest plain)
usual_passed zero codec bytes digest rest some small len is = absurd (omega (arith, some))

-- a link's byte string that is so has its CID
pub usual_linked : (codec : ℕ) (bytes digest : List ℕ) → codec < 128 → length digest ≡ 32 → bytes ≡ usual_front codec ++ digest → linked bytes ≡ Some (usual codec digest)
usual_linked codec bytes digest small len is =
    let whole : cid_bytes (usual codec digest) ≡ drop 1 (usual_front codec ++ digest) = ap (drop 1) (usual_bytes codec digest small len) in
    ap linked is ∙ cid_of-is (drop 1 (usual_front codec ++ digest)) (usual codec digest) (usual_is codec digest small len) (sym whole)

-- what is written after its front
pub usual_put : (codec : ℕ) (out new last digest : List ℕ) → codec < 128 → length digest ≡ 32 → new ≡ out ++ usual_link_front codec → last ≡ new ++ digest → last ≡ out ++ spelled_layer (layer.Link (usual codec digest))
usual_put codec out new last digest small len first second =
    second
    ∙ ap (λ (t : List ℕ). t ++ digest) first
    ∙ append_assoc out (usual_link_front codec) digest
    ∙ ap (λ (t : List ℕ). out ++ t) (sym (usual_link codec digest small len))

-- bytes behind the front of one are its digest, and what is left
pub usual_cut : (depth codec : ℕ) (bytes digest : List ℕ) → 0 < depth → codec < 128 → 32 ≤ length digest → bytes ≡ usual_link_front codec ++ digest → behind (item_at depth bytes) ≡ Ok (drop 32 digest)
usual_cut depth codec bytes digest some small long is =
    usual_passed depth codec bytes (take 32 digest) (drop 32 digest) some small (length-take-le 32 digest long)
    (is ∙ ap (λ (t : List ℕ). usual_link_front codec ++ t) (sym (take-append-drop 32 digest)))
