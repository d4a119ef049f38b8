-- Sections at the front of bytes, and one after another.
use Rattle.std.proofs.Common.{◌≡◌, ◌≢◌, ℕ, ◌+◌, ◌-◌, ◌^◌, ◌<◌, List, [], ◌∷◌, ◌++◌, length, min, inl, inr, refl, sym, ap, subst, ◌∙◌, append_assoc, arith, length-append}
use Rattle.std.specs.Prelude.{IfNone}
use Rattle.std.proofs.Common.{Option, None, Some}
use Rattle.std.proofs.lemmas.Bool.{cases_lt}
use Rattle.std.proofs.lemmas.List.{append-nil}
use Rattle.std.proofs.lemmas.List.Concat.{flat_map-append}
use Rattle.std.proofs.lemmas.List.Elements.{All-push}
use Rattle.fil_base.specs.Varint.{varint}
use Rattle.fil_base.specs.Failure.{IfFault}
use Rattle.fil_base.specs.declared.failure.Failure.{Failure}
use Rattle.fil_base.specs.declared.failure.Failure.TheVariants.{NoMemory, Fault}
use Rattle.fil_base.proofs.Varints.{varint-small, varint-more}
use Rattle.cid_core.specs.BlockParts.{BlockParts, IsBlock}
use Rattle.car_file.specs.Car.{content_of, framed}
use Rattle.car_file.specs.CarFault.{IsCut, IsContentFault, IsFramed, IsSectionFault}
use Rattle.car_file.specs.Place.{at_place}
use Rattle.car_file.specs.Sections.{AreRead, IsFaultAfter, IsSection, HasRead, sections_of}
use Rattle.car_file.specs.declared.fault.CarFault.{CarFault}
use Rattle.car_file.specs.declared.fault.CarKind.{CarKind}
use Rattle.car_file.specs.declared.fault.CarKind.TheVariants.{Header, Version, Roots, Section, Cid, HashNotSupported, Digest, Cut}
use Rattle.car_file.specs.declared.section_reader.SectionReader.{SectionReader}

-- a number has a byte
varint-some : (n : ℕ) → 0 < length (varint n)
varint-some n = elim (cases_lt n 128) [
  | inl small ↦ omega (arith, ap length (varint-small n small))
  | inr great ↦ omega (arith, ap length (varint-more n great))
]

pub framed_shorter : (bytes content rest : List ℕ) → IsFramed bytes content rest → length rest < length bytes
framed_shorter bytes content rest f =
    omega (arith, ap length f.spelled, length-append (framed content) rest, length-append (varint (length content)) content, varint-some (length content))

content_not_cut : (content : List ℕ) (kind : CarKind) → IsContentFault content kind → kind ≢ Cut
content_not_cut content Header fault = absurd fault
content_not_cut content Version fault = absurd fault
content_not_cut content Roots fault = absurd fault
content_not_cut content Section fault = λ same. cc
content_not_cut content Cid fault = λ same. cc
content_not_cut content HashNotSupported fault = λ same. cc
content_not_cut content Digest fault = λ same. cc
content_not_cut content Cut fault = absurd fault

-- a fault of a section's content is one of the section
pub content_fault : (bytes content rest : List ℕ) (kind : CarKind) → IsFramed bytes content rest → IsContentFault content kind → IsSectionFault bytes kind × (kind ≢ Cut)
content_fault bytes content rest kind f fault =
    let shorter = framed_shorter bytes content rest f in
    ((omega arith, inr (inr (content, rest, f, fault))), content_not_cut content kind fault)

-- the sections of one block more
sections-push : (front : List ℕ) (blocks : List BlockParts) (b : BlockParts) → front ++ sections_of (blocks ++ b ∷ []) ≡ (front ++ sections_of blocks) ++ framed (content_of b)
sections-push front blocks b =
    ap (λ (s : List ℕ). front ++ s) (flat_map-append (λ (x : BlockParts). framed (content_of x)) blocks (b ∷ []) ∙ ap (λ (s : List ℕ). sections_of blocks ++ s) (append-nil (framed (content_of b)))) ∙ sym (append_assoc front (sections_of blocks) (framed (content_of b)))

-- one section more is read
pub read_more : (front given : List ℕ) (blocks : List BlockParts) (b : BlockParts) (end next : ℕ) (rest behind : List ℕ) → AreRead front blocks end rest given → IsSection rest b behind → next ≡ min (end + (length rest - length behind)) (2 ^ 64 - 1) → AreRead front (blocks ++ b ∷ []) next behind given
read_more front given blocks b end next rest behind read section is_next =
    let f = framed (content_of b) in
    let whole = front ++ sections_of blocks in
    let more : front ++ sections_of (blocks ++ b ∷ []) ≡ whole ++ f = sections-push front blocks b in
    let size : length rest ≡ length f + length behind = ap length section.framed.spelled ∙ length-append f behind in
    let sum : length (front ++ sections_of (blocks ++ b ∷ [])) ≡ length whole + length f = ap length more ∙ length-append whole f in
    record {
      checked = All-push IsBlock blocks b read.checked section.block;
      short = All-push (λ x. length (content_of x) < 2 ^ 63) blocks b read.short section.framed.short;
      spelled = read.spelled ∙ (ap (λ (r : List ℕ). whole ++ r) section.framed.spelled ∙ (sym (append_assoc whole f behind) ∙ ap (λ (w : List ℕ). w ++ behind) (sym more)));
      at = omega (arith, read.at, is_next, size, sum);
    }

-- the next section has a fault
pub read_fault : (front given : List ℕ) (blocks : List BlockParts) (end : ℕ) (rest : List ℕ) (failure : Failure CarFault) → AreRead front blocks end rest given → IfFault failure (λ fault. IsSectionFault rest fault.kind × (fault.kind ≢ Cut) × (fault.at ≡ end)) → IfFault failure (IsFaultAfter front given)
read_fault front given blocks end rest NoMemory read fault = fault
read_fault front given blocks end rest (Fault fault) read (bad, other, at) =
    (blocks, rest, subst (λ (place : ℕ). AreRead front blocks place rest given) (sym at) read, bad, other)

-- the same, where the fault gets its place
pub section_fault : (bytes content rest : List ℕ) (begin : ℕ) (failure : Failure CarKind) (result : Failure CarFault) → result ≡ at_place failure begin → IsFramed bytes content rest → IfFault failure (IsContentFault content) → IfFault result (λ fault. IsSectionFault bytes fault.kind × (fault.kind ≢ Cut) × (fault.at ≡ begin))
section_fault bytes content rest begin NoMemory result is f fault = rw is tt
section_fault bytes content rest begin (Fault kind) result is f fault =
    let bad = content_fault bytes content rest kind f fault in
    rw is (bad.0, bad.1, refl)

-- what an arm for the other variants knows
pub none_found : {T : Type 0} (o : Option T) (P : Type 0) → ((x : T) → o ≡ Some x → ⊥) → IfNone o P → P
none_found None P other none = none
none_found (Some x) P other none = absurd (other x refl)

-- what is left is cut
pub stand_for : (front given : List ℕ) (sections : SectionReader) (rest : List ℕ) → sections.begun.items ≡ rest → AreRead front sections.blocks.items sections.end rest given → IsCut rest → HasRead front sections given
stand_for front given sections rest kept read cut = record {
  read = subst (λ (r : List ℕ). AreRead front sections.blocks.items sections.end r given) (sym kept) read;
  cut = subst IsCut (sym kept) cut;
}
