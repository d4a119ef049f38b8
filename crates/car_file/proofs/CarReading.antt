-- The header and the sections together: what the fault of all bytes is, or that they have none.
use Rattle.std.proofs.Common.{◌≡◌, ◌≢◌, ℕ, ◌^◌, ◌<◌, List, [], ◌∷◌, ◌++◌, length, inl, inr, refl, sym, ap, subst, ◌∙◌, append-nil, arith}
use Rattle.std.proofs.Common.{Err}
use Rattle.std.proofs.lemmas.List.Elements.{All-nil}
use Rattle.fil_base.specs.CidParts.{CidParts, IsCid}
use Rattle.fil_base.specs.Failure.{IfFault}
use Rattle.fil_base.specs.declared.failure.Failure.{Failure}
use Rattle.fil_base.specs.declared.failure.Failure.TheVariants.{NoMemory, Fault}
use Rattle.cid_core.specs.BlockParts.{BlockParts, IsBlock}
use Rattle.dag_cbor.specs.Spelling.{spelled}
use Rattle.car_file.specs.Car.{IsCar, car, content_of, framed, header_of}
use Rattle.car_file.specs.CarFault.{IsCarFault, IsCut, IsFramed, IsFrontFault, in_64_bits, place_of}
use Rattle.car_file.specs.Frame.{HasNothingBehind}
use Rattle.car_file.specs.Reader.{IsKept, IsOtherFault, IsStateOf, Took}
use Rattle.car_file.specs.Sections.{AreRead, IsCutAfter, IsFaultAfter}
use Rattle.car_file.specs.declared.fault.CarFault.{CarFault}
use Rattle.car_file.specs.declared.fault.CarKind.{CarKind}
use Rattle.car_file.specs.declared.fault.CarKind.TheVariants.{Header, Version, Roots, Section, Cid, HashNotSupported, Digest, Cut}
use Rattle.car_file.specs.declared.reader.State.{State}
use Rattle.car_file.proofs.Archives.{archive_has_no_fault, fault_stays, one_fault}

-- the header of a root, behind its length
abbrev pub front_of : CidParts → List ℕ
front_of root = framed (spelled (header_of root))

-- sections behind a header make an archive
pub is_car : (root : CidParts) (blocks : List BlockParts) (end : ℕ) (rest given : List ℕ) → IsCid root → AreRead (front_of root) blocks end rest given → IsCar root blocks
is_car root blocks end rest given is_cid read = record { cid = is_cid; checked = read.checked; short = read.short }

pub car_spelled : (root : CidParts) (blocks : List BlockParts) (end : ℕ) (given : List ℕ) → AreRead (front_of root) blocks end [] given → given ≡ car root blocks
unfolding car
car_spelled root blocks end given read = read.spelled ∙ append-nil (car root blocks)

-- a fault that is no cut stands where its part begins
place_of_other : (bytes : List ℕ) (begin : ℕ) (kind : CarKind) → kind ≢ Cut → place_of bytes begin kind ≡ in_64_bits begin
place_of_other bytes begin Header other = refl
place_of_other bytes begin Version other = refl
place_of_other bytes begin Roots other = refl
place_of_other bytes begin Section other = refl
place_of_other bytes begin Cid other = refl
place_of_other bytes begin HashNotSupported other = refl
place_of_other bytes begin Digest other = refl
place_of_other bytes begin Cut other = absurd (other refl)

fault_behind : (root : CidParts) (given : List ℕ) (fault : CarFault) → IsCid root → IsFaultAfter (front_of root) given fault → IsOtherFault given fault
unfolding IsCarFault car
fault_behind root given fault is_cid (blocks, rest, read, bad, other) =
    (inr (root, blocks, rest, is_car root blocks fault.at rest given is_cid read, read.spelled, bad, read.at ∙ sym (place_of_other given (length (car root blocks)) fault.kind other)), other)

pub behind_header : (root : CidParts) (given : List ℕ) (failure : Failure CarFault) → IsCid root → IfFault failure (IsFaultAfter (front_of root) given) → IfFault failure (IsOtherFault given)
behind_header root given NoMemory is_cid fault = fault
behind_header root given (Fault f) is_cid fault = fault_behind root given f is_cid fault

pub cut_behind : (root : CidParts) (given : List ℕ) (fault : CarFault) → IsCid root → IsCutAfter (front_of root) given fault → IsCarFault given fault
unfolding IsCarFault car
cut_behind root given fault is_cid (blocks, end, rest, read, some, cut, is) =
    subst (IsCarFault given) (sym is) (inr (root, blocks, rest, is_car root blocks end rest given is_cid read, read.spelled, (some, inl (cut, refl)), refl))

-- a header that is cut is the only fault
pub cut_in_front : (given : List ℕ) → IsCut given → IsCarFault given (record { kind = Cut; at = in_64_bits (length given) })
unfolding IsCarFault
cut_in_front given cut = inl (inl (cut, refl), refl)

pub fine_in_front : (given : List ℕ) (fault : CarFault) → IsCut given → IsCarFault given fault → fault.kind ≡ Cut
fine_in_front given fault cut is = ap (λ (f : CarFault). f.kind) (one_fault given fault _ is (cut_in_front given cut))

-- and so is a section that is cut
pub fine_behind : (root : CidParts) (blocks : List BlockParts) (end : ℕ) (rest given : List ℕ) (fault : CarFault) → IsCid root → AreRead (front_of root) blocks end rest given → IsCut rest → IsCarFault given fault → fault.kind ≡ Cut
fine_behind root blocks end [] given fault is_cid read cut is =
    absurd (archive_has_no_fault root blocks fault (is_car root blocks end [] given is_cid read) (subst (λ (g : List ℕ). IsCarFault g fault) (car_spelled root blocks end given read) is))
fine_behind root blocks end (x ∷ xs) given fault is_cid read cut is =
    ap (λ (f : CarFault). f.kind) (one_fault given fault _ is (cut_behind root given _ is_cid (blocks, end, x ∷ xs, read, omega arith, cut, refl)))

-- the front has a fault other than a cut, which stands at 0
pub front_fault : (bytes more given : List ℕ) (failure : Failure CarFault) → given ≡ bytes ++ more → IfFault failure (λ fault. IsFrontFault bytes fault.kind × (fault.kind ≢ Cut) × (fault.at ≡ 0)) → IfFault failure (IsOtherFault given)
unfolding IsCarFault
front_fault bytes more given NoMemory is fault = fault
front_fault bytes more given (Fault f) is (bad, other, at) =
    (subst (λ (g : List ℕ). IsCarFault g f) (sym is) (fault_stays bytes more f other (inl (bad, at ∙ sym (place_of_other bytes 0 f.kind other)))), other)

-- the header is whole, and the sections begin behind it
pub header_whole : (root : CidParts) (before header slice rest behind piece : List ℕ) (len : ℕ) (blocks : List BlockParts) → slice ≡ header → header ++ rest ≡ before ++ piece → HasNothingBehind header → IsFramed slice (spelled (header_of root)) behind → len < 2 ^ 64 → length slice ≡ len → blocks ≡ [] → AreRead (front_of root) blocks len rest (before ++ piece)
header_whole root before header slice rest behind piece len blocks same all just f small size none =
    let g : IsFramed header (spelled (header_of root)) behind = subst (λ (s : List ℕ). IsFramed s (spelled (header_of root)) behind) same f in
    let whole : header ≡ front_of root ++ [] = g.spelled ∙ ap (λ (b : List ℕ). front_of root ++ b) (just (spelled (header_of root)) behind g) in
    let long : length (front_of root ++ []) ≡ len = ap length (sym whole) ∙ (ap length (sym same) ∙ size) in
    subst (λ (bs : List BlockParts). AreRead (front_of root) bs len rest (before ++ piece)) (sym none) (record {
      checked = All-nil IsBlock;
      short = All-nil (λ b. length (content_of b) < 2 ^ 63);
      spelled = sym all ∙ ap (λ (h : List ℕ). h ++ rest) whole;
      at = omega (arith, long);
    })

-- the bytes of a header that is cut, and no others, were given
pub cut_header : (header given : List ℕ) (len : ℕ) → header ≡ given → IsCut given → len ≡ length header → len < 2 ^ 64 → IsCarFault given (record { kind = Cut; at = len })
cut_header header given len same cut size small =
    let place : in_64_bits (length given) ≡ len = omega (arith, ap length same, size) in
    subst (λ (n : ℕ). IsCarFault given (record { kind = Cut; at = n })) place (cut_in_front given cut)

-- what becomes of the reader where a piece is refused
pub kept_taken : (failure result : Failure CarFault) (old new : State) (given : List ℕ) → result ≡ failure → IsKept failure old new → IfFault failure (IsOtherFault given) → Took {T = Unit {0}} (Err result) → IsStateOf new given
kept_taken NoMemory result old new given same kept fault took = absurd (subst (λ (f : Failure CarFault). Took {T = Unit {0}} (Err f)) same took)
kept_taken (Fault f) result old new given same kept fault took = subst (λ (s : State). IsStateOf s given) (sym kept) fault

pub kept_unchanged : (failure result : Failure CarFault) (old new : State) (given : List ℕ) → result ≡ failure → IsKept failure old new → result ≡ NoMemory → (failure ≡ NoMemory → IsStateOf old given) → IsStateOf new given
kept_unchanged NoMemory result old new given same kept none before = subst (λ (s : State). IsStateOf s given) (sym kept) (before refl)
kept_unchanged (Fault f) result old new given same kept none before = absurd (let e : Fault f ≡ NoMemory = sym same ∙ none in cc)
