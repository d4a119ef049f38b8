-- Archives: bytes are one at most, and bytes that are none have one fault.
use Rattle.std.proofs.Common.{◌≡◌, ◌≢◌, ℕ, List, [], ◌∷◌, ◌++◌, length, inl, inr, refl, sym, ap, subst, ◌∙◌, append_assoc, append-nil, arith}
use Rattle.std.proofs.lemmas.List.{length-append}
use Rattle.std.proofs.lemmas.List.Elements.{recursion_from_All}
use Rattle.std.specs.List.{AllByRecursion, flat_map}
use Rattle.fil_base.specs.CidParts.{CidParts, IsCid}
use Rattle.fil_base.specs.Varint.{varint}
use Rattle.cid_core.specs.BlockParts.{BlockParts}
use Rattle.dag_cbor.specs.Spelling.{spelled}
use Rattle.car_file.specs.Car.{IsCar, car, content_of, framed, header_of}
use Rattle.car_file.specs.CarFault.{IsCarFault, IsFaultBehind, IsFaultInFront, IsFramed, IsFrontFault, IsHeaderFault, IsSectionFault, place_of}
use Rattle.car_file.specs.declared.fault.CarFault.{CarFault}
use Rattle.car_file.specs.declared.fault.CarKind.{CarKind}
use Rattle.car_file.specs.declared.fault.CarKind.TheVariants.{Header, Version, Roots, Section, Cid, HashNotSupported, Digest, Cut}
use Rattle.car_file.proofs.Framing.{bad_not_cut, bad_stays, framed_not_bad, framed_not_cut, framed_stays, one_framed, same_framed}
use Rattle.car_file.proofs.Headers.{header_has_no_fault, one_header_fault, one_root}
use Rattle.car_file.proofs.Lengths.{length-header, some_cid_bytes}
use Rattle.car_file.proofs.Sections.{HasSection, one_content, one_section_fault, section_fault_stays, section_has_no_fault}

-- ---- sections

abbrev pub sections : List BlockParts → List ℕ
sections blocks = flat_map (λ b. framed (content_of b)) blocks

-- no section of a block stands at the front
abbrev pub NoSection : List ℕ → Type 0
NoSection bytes = (b : BlockParts) (rest : List ℕ) → HasSection b → bytes ≡ framed (content_of b) ++ rest → ⊥

sections-cons : (b : BlockParts) (blocks : List BlockParts) (rest : List ℕ) → sections (b ∷ blocks) ++ rest ≡ framed (content_of b) ++ (sections blocks ++ rest)
sections-cons b blocks rest = append_assoc (framed (content_of b)) (sections blocks) rest

-- sections up to where no more stands are of the same blocks
same_sections : (x y : List BlockParts) (r s : List ℕ) → AllByRecursion HasSection x → AllByRecursion HasSection y → NoSection r → NoSection s → sections x ++ r ≡ sections y ++ s → (x ≡ y) × (r ≡ s)
same_sections [] [] r s all_x all_y end_r end_s same = (refl, same)
same_sections [] (b ∷ y) r s all_x all_y end_r end_s same = absurd (end_r b (sections y ++ s) all_y.0 (same ∙ sections-cons b y s))
same_sections (a ∷ x) [] r s all_x all_y end_r end_s same = absurd (end_s a (sections x ++ r) all_x.0 (sym same ∙ sections-cons a x r))
same_sections (a ∷ x) (b ∷ y) r s all_x all_y end_r end_s same =
    let front = same_framed (content_of a) (content_of b) (sections x ++ r) (sections y ++ s) (sym (sections-cons a x r) ∙ (same ∙ sections-cons b y s)) in
    let block : a ≡ b = one_content a b all_x.0.block all_y.0.block front.0 in
    let others = same_sections x y r s all_x.1 all_y.1 end_r end_s front.1 in
    (λ i. block i ∷ others.0 i, others.1)

have_sections : (root : CidParts) (blocks : List BlockParts) → IsCar root blocks → AllByRecursion HasSection blocks
have_sections root blocks is =
    recursion_from_All HasSection blocks (λ k d within. record { block = is.checked k d within; short = is.short k d within })

not_empty : (content rest : List ℕ) → (content ≡ [] → ⊥) → [] ≡ framed content ++ rest → ⊥
not_empty [] rest some is = some refl
not_empty (byte ∷ content) rest some is =
    absurd (omega (arith, ap length is, length-append (framed (byte ∷ content)) rest, length-append (varint (length (byte ∷ content))) (byte ∷ content)))

none_at_end : NoSection []
none_at_end b rest has is = not_empty (content_of b) rest (some_cid_bytes b.cid b.bytes) is

none_at_fault : (bytes : List ℕ) (kind : CarKind) → IsSectionFault bytes kind → NoSection bytes
none_at_fault bytes kind fault b rest has is = section_has_no_fault b bytes rest kind has is fault

-- ---- archives

car-append : (root : CidParts) (blocks : List BlockParts) (rest : List ℕ) → car root blocks ++ rest ≡ framed (spelled (header_of root)) ++ (sections blocks ++ rest)
unfolding car
car-append root blocks rest = append_assoc (framed (spelled (header_of root))) (sections blocks) rest

-- a front up to where no more sections stand is one archive
same_fronts : (root other : CidParts) (x y : List BlockParts) (r s : List ℕ) → IsCar root x → IsCar other y → NoSection r → NoSection s → car root x ++ r ≡ car other y ++ s
    → (root ≡ other) × (x ≡ y) × (r ≡ s)
same_fronts root other x y r s is_x is_y end_r end_s same =
    let front = same_framed (spelled (header_of root)) (spelled (header_of other)) (sections x ++ r) (sections y ++ s) (sym (car-append root x r) ∙ (same ∙ car-append other y s)) in
    let behind = same_sections x y r s (have_sections root x is_x) (have_sections other y is_y) end_r end_s front.1 in
    (one_root root other is_x.cid is_y.cid front.0, behind.0, behind.1)

pub one_car : (r s : CidParts) (x y : List BlockParts) → IsCar r x → IsCar s y → car r x ≡ car s y → (r ≡ s) × (x ≡ y)
one_car r s x y is_x is_y same =
    let front = same_fronts r s x y [] [] is_x is_y none_at_end none_at_end (ap (λ b. b ++ []) same) in
    (front.0, front.1)

-- ---- the fault in front

-- an archive's header stands at the front
header_front : (root : CidParts) (blocks : List BlockParts) (bytes rest : List ℕ) → IsCid root → bytes ≡ car root blocks ++ rest → IsFramed bytes (spelled (header_of root)) (sections blocks ++ rest)
header_front root blocks bytes rest is_cid is = record { short = length-header root is_cid; spelled = is ∙ car-append root blocks rest }

front_has_no_fault : (root : CidParts) (bytes rest : List ℕ) (kind : CarKind) → IsCid root → IsFramed bytes (spelled (header_of root)) rest → IsFrontFault bytes kind → ⊥
front_has_no_fault root bytes rest kind is_cid f (inl (cut, is)) = framed_not_cut bytes (spelled (header_of root)) rest f cut
front_has_no_fault root bytes rest kind is_cid f (inr (inl (bad, is))) = framed_not_bad bytes (spelled (header_of root)) rest f bad
front_has_no_fault root bytes rest kind is_cid f (inr (inr (content, others, g, fault))) =
    header_has_no_fault root kind is_cid (subst (λ c. IsHeaderFault c kind) (one_framed bytes content (spelled (header_of root)) others rest g f).0 fault)

one_front_fault : (bytes : List ℕ) (a b : CarKind) → IsFrontFault bytes a → IsFrontFault bytes b → a ≡ b
one_front_fault bytes a b (inl x) (inl y) = x.1 ∙ sym y.1
one_front_fault bytes a b (inl x) (inr (inl y)) = absurd (bad_not_cut bytes y.0 x.0)
one_front_fault bytes a b (inl x) (inr (inr (d, s, g, y))) = absurd (framed_not_cut bytes d s g x.0)
one_front_fault bytes a b (inr (inl x)) (inl y) = absurd (bad_not_cut bytes x.0 y.0)
one_front_fault bytes a b (inr (inl x)) (inr (inl y)) = x.1 ∙ sym y.1
one_front_fault bytes a b (inr (inl x)) (inr (inr (d, s, g, y))) = absurd (framed_not_bad bytes d s g x.0)
one_front_fault bytes a b (inr (inr (c, r, f, x))) (inl y) = absurd (framed_not_cut bytes c r f y.0)
one_front_fault bytes a b (inr (inr (c, r, f, x))) (inr (inl y)) = absurd (framed_not_bad bytes c r f y.0)
one_front_fault bytes a b (inr (inr (c, r, f, x))) (inr (inr (d, s, g, y))) =
    one_header_fault d a b (subst (λ content. IsHeaderFault content a) (one_framed bytes c d r s f g).0 x) y

front_fault_stays : (bytes more : List ℕ) (kind : CarKind) → kind ≢ Cut → IsFrontFault bytes kind → IsFrontFault (bytes ++ more) kind
front_fault_stays bytes more kind no_cut (inl (cut, is_cut)) = absurd (no_cut is_cut)
front_fault_stays bytes more kind no_cut (inr (inl (bad, is_bad))) = inr (inl (bad_stays bytes more bad, is_bad))
front_fault_stays bytes more kind no_cut (inr (inr (content, rest, f, fault))) = inr (inr (content, rest ++ more, framed_stays bytes content rest more f, fault))

-- ---- the fault of all bytes

same_fault : (a b : CarFault) → a.kind ≡ b.kind → a.at ≡ b.at → a ≡ b
same_fault a b kinds places = λ i. record { kind = kinds i; at = places i }

-- only the place of a cut goes by the bytes behind
place-append : (bytes more : List ℕ) (begin : ℕ) (kind : CarKind) → kind ≢ Cut → place_of bytes begin kind ≡ place_of (bytes ++ more) begin kind
place-append bytes more begin Header no_cut = refl
place-append bytes more begin Version no_cut = refl
place-append bytes more begin Roots no_cut = refl
place-append bytes more begin Section no_cut = refl
place-append bytes more begin Cid no_cut = refl
place-append bytes more begin HashNotSupported no_cut = refl
place-append bytes more begin Digest no_cut = refl
place-append bytes more begin Cut no_cut = absurd (no_cut refl)

front_or_behind : (bytes : List ℕ) (a b : CarFault) → IsFaultInFront bytes a → IsFaultBehind bytes b → ⊥
front_or_behind bytes a b front (root, blocks, rest, is_car, is, fault, at) =
    front_has_no_fault root bytes (sections blocks ++ rest) a.kind is_car.cid (header_front root blocks bytes rest is_car.cid is) front.0

one_behind : (bytes : List ℕ) (a b : CarFault) → IsFaultBehind bytes a → IsFaultBehind bytes b → a ≡ b
one_behind bytes a b (r, x, rest_a, is_x, split_x, fault_a, at_a) (s, y, rest_b, is_y, split_y, fault_b, at_b) =
    let front = same_fronts r s x y rest_a rest_b is_x is_y (none_at_fault rest_a a.kind fault_a) (none_at_fault rest_b b.kind fault_b) (sym split_x ∙ split_y) in
    let kinds : a.kind ≡ b.kind = one_section_fault rest_b a.kind b.kind (subst (λ rest. IsSectionFault rest a.kind) front.2 fault_a) fault_b in
    same_fault a b kinds (at_a ∙ ((λ i. place_of bytes (length (car (front.0 i) (front.1 i))) (kinds i)) ∙ sym at_b))

pub one_fault : (bytes : List ℕ) (a b : CarFault) → IsCarFault bytes a → IsCarFault bytes b → a ≡ b
unfolding IsCarFault
one_fault bytes a b (inl x) (inl y) =
    let kinds = one_front_fault bytes a.kind b.kind x.0 y.0 in
    same_fault a b kinds (x.1 ∙ (ap (place_of bytes 0) kinds ∙ sym y.1))
one_fault bytes a b (inl x) (inr y) = absurd (front_or_behind bytes a b x y)
one_fault bytes a b (inr x) (inl y) = absurd (front_or_behind bytes b a y x)
one_fault bytes a b (inr x) (inr y) = one_behind bytes a b x y

pub fault_stays : (bytes more : List ℕ) (fault : CarFault) → fault.kind ≢ Cut → IsCarFault bytes fault → IsCarFault (bytes ++ more) fault
unfolding IsCarFault
fault_stays bytes more fault no_cut (inl (front, at)) =
    inl (front_fault_stays bytes more fault.kind no_cut front, at ∙ place-append bytes more 0 fault.kind no_cut)
fault_stays bytes more fault no_cut (inr (root, blocks, rest, is_car, split, behind, at)) =
    inr (root, blocks, rest ++ more, is_car, ap (λ b. b ++ more) split ∙ append_assoc (car root blocks) rest more, section_fault_stays rest more fault.kind no_cut behind, at ∙ place-append bytes more (length (car root blocks)) fault.kind no_cut)

-- an archive has no fault
pub archive_has_no_fault : (root : CidParts) (blocks : List BlockParts) (fault : CarFault) → IsCar root blocks → IsCarFault (car root blocks) fault → ⊥
unfolding IsCarFault
archive_has_no_fault root blocks fault is_car (inl front) =
    front_has_no_fault root (car root blocks) (sections blocks ++ []) fault.kind is_car.cid (header_front root blocks (car root blocks) [] is_car.cid (sym (append-nil (car root blocks)))) front.0
archive_has_no_fault root blocks fault is_car (inr (other, front, rest, is_front, split, behind, at)) =
    let same = same_fronts root other blocks front [] rest is_car is_front none_at_end (none_at_fault rest fault.kind behind) (append-nil (car root blocks) ∙ split) in
    absurd (omega (arith, ap length same.2, behind.0))
