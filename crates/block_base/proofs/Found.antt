-- The first block under a CID, from places.
use Rattle.std.proofs.Common.{cond, suc, zero, ◌≡◌, ℕ, ◌<◌, Bool, List, [], ◌∷◌, false, true, length, get_or, refl, sym, ap, ◌∙◌, arith, Some, None, is_some, nat_eq}
use Rattle.std.proofs.lemmas.Bool.Decides.{nat_tests}
use Rattle.std.proofs.lemmas.List.{get_or_default}
use Rattle.std.specs.Cmp.{first_so, second_so}
use Rattle.std.specs.Cmp.Lexicographic.{same_text}
use Rattle.cid_core.specs.BlockParts.{BlockParts, found}
use Rattle.fil_base.specs.CidEquality.{parts_equiv, same_parts}
use Rattle.fil_base.specs.CidParts.{CidParts}

same_number : (x y : ℕ) → nat_eq x y ≡ true → x ≡ y
same_number x y same = grind (arith, nat_tests)

pub same_cid : (a b : CidParts) → same_parts a b ≡ true → a ≡ b
same_cid a b same =
    let codecs = second_so (nat_eq a.version b.version) _ same in
    let hashes = second_so (nat_eq a.codec b.codec) _ codecs in
    let version = same_number a.version b.version (first_so _ _ same) in
    let codec = same_number a.codec b.codec (first_so _ _ codecs) in
    let hash = same_number a.hash b.hash (first_so _ _ hashes) in
    let digest = same_text a.digest b.digest (sym (second_so (nat_eq a.hash b.hash) _ hashes)) in
    λ i. record { version = version i; codec = codec i; hash = hash i; digest = digest i }

itself : (a b : CidParts) → a ≡ b → same_parts a b ≡ true
itself a b same = ap (λ x. same_parts a x) (sym same) ∙ parts_equiv.refl a

true_is : true ≡ false → ⊥
true_is same = cc

pub other_parts : (a b : CidParts) → false ≡ same_parts a b → a ≡ b → ⊥
other_parts a b other same = true_is (sym (itself a b same) ∙ sym other)

other_cid : (a b : CidParts) → (a ≡ b → ⊥) → same_parts a b ≡ false
other_cid a b not = by (same_parts a b) refl
  where
    by : (t : Bool) → same_parts a b ≡ t → t ≡ false
    by true is = absurd (not (same_cid a b is))
    by false is = refl

pub found_none : (blocks : List BlockParts) (cid : CidParts) (d : BlockParts) → ((k : ℕ) → k < length blocks → (get_or blocks k d).cid ≡ cid → ⊥) → found blocks cid ≡ None
found_none [] cid d none = refl
found_none (b ∷ blocks) cid d none =
    ap (λ t. cond t (Some b) (found blocks cid)) (other_cid b.cid cid (none 0 (omega arith))) ∙ found_none blocks cid d (λ k within. none (suc k) (omega arith))

pub found_first : (blocks : List BlockParts) (cid : CidParts) (p : ℕ) (d : BlockParts) → p < length blocks → (get_or blocks p d).cid ≡ cid → ((k : ℕ) → k < p → (get_or blocks k d).cid ≡ cid → ⊥) → found blocks cid ≡ Some (get_or blocks p d)
found_first [] cid p d within is none = absurd (omega arith)
found_first (b ∷ blocks) cid zero d within is none = ap (λ t. cond t (Some b) (found blocks cid)) (itself b.cid cid is)
found_first (b ∷ blocks) cid (suc p) d within is none =
    ap (λ t. cond t (Some b) (found blocks cid)) (other_cid b.cid cid (none 0 (omega arith))) ∙ found_first blocks cid p d (omega arith) is (λ k below. none (suc k) (omega arith))

pub found_is_none : (blocks : List BlockParts) (cid : CidParts) (d : BlockParts) → ((k : ℕ) → k < length blocks → (get_or blocks k d).cid ≡ cid → ⊥) → false ≡ is_some (found blocks cid)
found_is_none blocks cid d none = sym (ap is_some (found_none blocks cid d none))

pub found_is_some : (blocks : List BlockParts) (cid : CidParts) (p : ℕ) (d b : BlockParts) → p < length blocks → b ≡ get_or blocks p b → true ≡ same_parts b.cid cid → ((k : ℕ) → k < p → (get_or blocks k d).cid ≡ cid → ⊥) → true ≡ is_some (found blocks cid)
found_is_some blocks cid p d b within is same none =
    sym (ap is_some (found_first blocks cid p d within (ap (λ x. x.cid) (get_or_default blocks p d b within ∙ sym is) ∙ same_cid b.cid cid (sym same)) none))
