-- Sections: a block has one, and bytes that are none have one fault.
use Rattle.std.proofs.Common.{◌≡◌, ◌≢◌, ℕ, ◌^◌, ◌<◌, List, ◌++◌, length, inl, inr, refl, sym, ap, subst, ◌∙◌, arith}
use Rattle.std.proofs.lemmas.List.{length-append}
use Rattle.fil_base.proofs.Cids.{same_cids}
use Rattle.cid_core.specs.BlockFault.{IsBlockFault}
use Rattle.cid_core.specs.BlockParts.{BlockParts, IsBlock}
use Rattle.cid_core.specs.CidOf.{HasSupportedHash, digest_under}
use Rattle.cid_core.specs.declared.block.BlockFault.TheVariants as block
use Rattle.car_file.specs.Car.{content_of, framed}
use Rattle.car_file.specs.CarFault.{IsContentFault, IsFramed, IsSectionFault}
use Rattle.car_file.specs.declared.fault.CarKind.{CarKind}
use Rattle.car_file.specs.declared.fault.CarKind.TheVariants.{Header, Version, Roots, Section, Cid, HashNotSupported, Digest, Cut}
use Rattle.car_file.proofs.Lengths.{some_cid_bytes}
use Rattle.car_file.proofs.Framing.{bad_not_cut, bad_stays, framed_not_bad, framed_not_cut, framed_stays, one_framed}

-- ---- the content of a section

-- one block for a content
pub one_content : (a b : BlockParts) → IsBlock a → IsBlock b → content_of a ≡ content_of b → a ≡ b
one_content a b is_a is_b same =
    let both = same_cids a.cid b.cid a.bytes b.bytes is_a.cid is_b.cid same in
    λ i. record { cid = both.0 i; bytes = both.1 i }

empty_or_supported : (content : List ℕ) → IsContentFault content Section → IsContentFault content HashNotSupported → ⊥
empty_or_supported content empty (cid, held, is_cid, is, fault) = some_cid_bytes cid held (sym is ∙ empty)

empty_or_digest : (content : List ℕ) → IsContentFault content Section → IsContentFault content Digest → ⊥
empty_or_digest content empty (cid, held, is_cid, is, fault) = some_cid_bytes cid held (sym is ∙ empty)

empty_or_cid : (content : List ℕ) → IsContentFault content Section → IsContentFault content Cid → ⊥
empty_or_cid content empty fault = absurd (omega (arith, ap length empty, fault.0))

cid_or_supported : (content : List ℕ) → IsContentFault content Cid → IsContentFault content HashNotSupported → ⊥
cid_or_supported content fault (cid, held, is_cid, is, unsupported) = fault.1 cid held is_cid is

cid_or_digest : (content : List ℕ) → IsContentFault content Cid → IsContentFault content Digest → ⊥
cid_or_digest content fault (cid, held, is_cid, is, differs) = fault.1 cid held is_cid is

supported_or_digest : (content : List ℕ) → IsContentFault content HashNotSupported → IsContentFault content Digest → ⊥
supported_or_digest content (cid, held, is_cid, is, unsupported) (other, rest, is_other, is_too, differs) =
    let both = same_cids cid other held rest is_cid is_other (sym is ∙ is_too) in
    subst (λ c. IsBlockFault c held block.HashNotSupported) both.0 unsupported differs.0

pub one_content_fault : (content : List ℕ) (a b : CarKind) → IsContentFault content a → IsContentFault content b → a ≡ b
one_content_fault content Header b x y = absurd x
one_content_fault content Version b x y = absurd x
one_content_fault content Roots b x y = absurd x
one_content_fault content Cut b x y = absurd x
one_content_fault content Section Header x y = absurd y
one_content_fault content Section Version x y = absurd y
one_content_fault content Section Roots x y = absurd y
one_content_fault content Section Section x y = refl
one_content_fault content Section Cid x y = absurd (empty_or_cid content x y)
one_content_fault content Section HashNotSupported x y = absurd (empty_or_supported content x y)
one_content_fault content Section Digest x y = absurd (empty_or_digest content x y)
one_content_fault content Section Cut x y = absurd y
one_content_fault content Cid Header x y = absurd y
one_content_fault content Cid Version x y = absurd y
one_content_fault content Cid Roots x y = absurd y
one_content_fault content Cid Section x y = absurd (empty_or_cid content y x)
one_content_fault content Cid Cid x y = refl
one_content_fault content Cid HashNotSupported x y = absurd (cid_or_supported content x y)
one_content_fault content Cid Digest x y = absurd (cid_or_digest content x y)
one_content_fault content Cid Cut x y = absurd y
one_content_fault content HashNotSupported Header x y = absurd y
one_content_fault content HashNotSupported Version x y = absurd y
one_content_fault content HashNotSupported Roots x y = absurd y
one_content_fault content HashNotSupported Section x y = absurd (empty_or_supported content y x)
one_content_fault content HashNotSupported Cid x y = absurd (cid_or_supported content y x)
one_content_fault content HashNotSupported HashNotSupported x y = refl
one_content_fault content HashNotSupported Digest x y = absurd (supported_or_digest content x y)
one_content_fault content HashNotSupported Cut x y = absurd y
one_content_fault content Digest Header x y = absurd y
one_content_fault content Digest Version x y = absurd y
one_content_fault content Digest Roots x y = absurd y
one_content_fault content Digest Section x y = absurd (empty_or_digest content y x)
one_content_fault content Digest Cid x y = absurd (cid_or_digest content y x)
one_content_fault content Digest HashNotSupported x y = absurd (supported_or_digest content y x)
one_content_fault content Digest Digest x y = refl
one_content_fault content Digest Cut x y = absurd y

-- a block's content has no fault
block_has_no_fault : (b : BlockParts) (kind : CarKind) → IsBlock b → IsContentFault (content_of b) kind → ⊥
block_has_no_fault b Header is_b x = x
block_has_no_fault b Version is_b x = x
block_has_no_fault b Roots is_b x = x
block_has_no_fault b Section is_b x = some_cid_bytes b.cid b.bytes x
block_has_no_fault b Cid is_b x = x.1 b.cid b.bytes is_b.cid refl
block_has_no_fault b HashNotSupported is_b (cid, held, is_cid, is, unsupported) =
    unsupported (subst HasSupportedHash (same_cids b.cid cid b.bytes held is_b.cid is_cid is).0 is_b.supported)
block_has_no_fault b Digest is_b (cid, held, is_cid, is, (supported, differs)) =
    let both = same_cids b.cid cid b.bytes held is_b.cid is_cid is in
    differs (sym (λ i. digest_under (both.0 i).hash (both.1 i)) ∙ (is_b.matches ∙ ap (λ c. c.digest) both.0))
block_has_no_fault b Cut is_b x = x

-- ---- the section at the front

-- a block that has a section: its content's length is below 2^63
pub record HasSection (b : BlockParts) : Type 0 where
  pub block : IsBlock b
  pub short : length (content_of b) < 2 ^ 63

-- a block's section stands at the front
pub section_front : (b : BlockParts) (bytes rest : List ℕ) → HasSection b → bytes ≡ framed (content_of b) ++ rest → IsFramed bytes (content_of b) rest
section_front b bytes rest has is = record { short = has.short; spelled = is }

pub section_has_no_fault : (b : BlockParts) (bytes rest : List ℕ) (kind : CarKind) → HasSection b → bytes ≡ framed (content_of b) ++ rest → IsSectionFault bytes kind → ⊥
section_has_no_fault b bytes rest kind has is (some, inl (cut, is_cut)) = framed_not_cut bytes (content_of b) rest (section_front b bytes rest has is) cut
section_has_no_fault b bytes rest kind has is (some, inr (inl (bad, is_bad))) = framed_not_bad bytes (content_of b) rest (section_front b bytes rest has is) bad
section_has_no_fault b bytes rest kind has is (some, inr (inr (content, others, f, fault))) =
    let same = one_framed bytes content (content_of b) others rest f (section_front b bytes rest has is) in
    block_has_no_fault b kind has.block (subst (λ c. IsContentFault c kind) same.0 fault)

pub one_section_fault : (bytes : List ℕ) (a b : CarKind) → IsSectionFault bytes a → IsSectionFault bytes b → a ≡ b
one_section_fault bytes a b (some, inl x) (also, inl y) = x.1 ∙ sym y.1
one_section_fault bytes a b (some, inl x) (also, inr (inl y)) = absurd (bad_not_cut bytes y.0 x.0)
one_section_fault bytes a b (some, inl x) (also, inr (inr (d, s, g, y))) = absurd (framed_not_cut bytes d s g x.0)
one_section_fault bytes a b (some, inr (inl x)) (also, inl y) = absurd (bad_not_cut bytes x.0 y.0)
one_section_fault bytes a b (some, inr (inl x)) (also, inr (inl y)) = x.1 ∙ sym y.1
one_section_fault bytes a b (some, inr (inl x)) (also, inr (inr (d, s, g, y))) = absurd (framed_not_bad bytes d s g x.0)
one_section_fault bytes a b (some, inr (inr (c, r, f, x))) (also, inl y) = absurd (framed_not_cut bytes c r f y.0)
one_section_fault bytes a b (some, inr (inr (c, r, f, x))) (also, inr (inl y)) = absurd (framed_not_bad bytes c r f y.0)
one_section_fault bytes a b (some, inr (inr (c, r, f, x))) (also, inr (inr (d, s, g, y))) =
    one_content_fault d a b (subst (λ content. IsContentFault content a) (one_framed bytes c d r s f g).0 x) y

-- a fault other than a cut stays where more bytes follow
pub section_fault_stays : (bytes more : List ℕ) (kind : CarKind) → kind ≢ Cut → IsSectionFault bytes kind → IsSectionFault (bytes ++ more) kind
section_fault_stays bytes more kind no_cut (some, inl (cut, is_cut)) = absurd (no_cut is_cut)
section_fault_stays bytes more kind no_cut (some, inr (inl (bad, is_bad))) = (omega (arith, length-append bytes more), inr (inl (bad_stays bytes more bad, is_bad)))
section_fault_stays bytes more kind no_cut (some, inr (inr (content, rest, f, fault))) =
    (omega (arith, length-append bytes more), inr (inr (content, rest ++ more, framed_stays bytes content rest more f, fault)))
