-- Sections in two parts: those read before, and those that a piece brings.
use Rattle.std.proofs.Common.{◌≡◌, ◌≢◌, ℕ, ◌+◌, ◌-◌, ◌^◌, ◌<◌, List, [], ◌∷◌, ◌++◌, length, min, sym, ap, subst, ◌∙◌, append_assoc, arith, length-append}
use Rattle.std.proofs.lemmas.List.{append-nil}
use Rattle.std.proofs.lemmas.List.Concat.{flat_map-append}
use Rattle.std.proofs.lemmas.List.Elements.{All-append, All-nil}
use Rattle.fil_base.specs.Failure.{IfFault}
use Rattle.fil_base.specs.declared.failure.Failure.{Failure}
use Rattle.fil_base.specs.declared.failure.Failure.TheVariants.{NoMemory, Fault}
use Rattle.cid_core.specs.BlockParts.{BlockParts, IsBlock}
use Rattle.car_file.specs.Car.{content_of, framed}
use Rattle.car_file.specs.CarFault.{IsFramed, IsSectionFault}
use Rattle.car_file.specs.Frame.{HasNothingBehind}
use Rattle.car_file.specs.Sections.{AreRead, IsFaultAfter, IsSection, Joins, HasRead, sections_of}
use Rattle.car_file.specs.declared.fault.CarFault.{CarFault}
use Rattle.car_file.specs.declared.fault.CarKind.TheVariants.{Cut}
use Rattle.car_file.specs.declared.section_reader.SectionReader.{SectionReader}
use Rattle.car_file.proofs.Framing.{framed_stays}
use Rattle.car_file.proofs.Sections.{section_fault_stays}
use Rattle.car_file.proofs.SectionLemmas.{read_fault, read_more, stand_for}

-- a piece comes behind what is left
pub read_grown : (front given piece : List ℕ) (blocks : List BlockParts) (end : ℕ) (rest now : List ℕ) → AreRead front blocks end rest given → now ≡ rest ++ piece → AreRead front blocks end now (given ++ piece)
read_grown front given piece blocks end rest now read is = record {
  checked = read.checked;
  short = read.short;
  spelled = ap (λ (g : List ℕ). g ++ piece) read.spelled ∙ (append_assoc (front ++ sections_of blocks) rest piece ∙ ap (λ (r : List ℕ). (front ++ sections_of blocks) ++ r) (sym is));
  at = read.at;
}

-- what was read counts as the front
pub read_apart : (front given : List ℕ) (blocks : List BlockParts) (end : ℕ) (rest : List ℕ) → AreRead front blocks end rest given → AreRead (front ++ sections_of blocks) [] end rest given
read_apart front given blocks end rest read =
    let whole = front ++ sections_of blocks in
    record {
      checked = All-nil IsBlock;
      short = All-nil (λ b. length (content_of b) < 2 ^ 63);
      spelled = read.spelled ∙ ap (λ (w : List ℕ). w ++ rest) (sym (append-nil whole));
      at = read.at ∙ ap (λ (w : List ℕ). min (length w) (2 ^ 64 - 1)) (sym (append-nil whole));
    }

-- and as sections again
pub read_joined : (front given bytes : List ℕ) (blocks more : List BlockParts) (end next : ℕ) (rest left : List ℕ) → AreRead front blocks end rest given → AreRead (front ++ sections_of blocks) more next left bytes → AreRead front (blocks ++ more) next left bytes
read_joined front given bytes blocks more end next rest left read new =
    let one : (front ++ sections_of blocks) ++ sections_of more ≡ front ++ sections_of (blocks ++ more) =
    append_assoc front (sections_of blocks) (sections_of more) ∙ ap (λ (s : List ℕ). front ++ s) (sym (flat_map-append (λ (b : BlockParts). framed (content_of b)) blocks more)) in
    record {
      checked = All-append IsBlock blocks more read.checked new.checked;
      short = All-append (λ b. length (content_of b) < 2 ^ 63) blocks more read.short new.short;
      spelled = new.spelled ∙ ap (λ (w : List ℕ). w ++ left) one;
      at = new.at ∙ ap (λ (w : List ℕ). min (length w) (2 ^ 64 - 1)) one;
    }

pub fault_joined : (front given bytes : List ℕ) (blocks : List BlockParts) (end : ℕ) (rest : List ℕ) (failure : Failure CarFault) → AreRead front blocks end rest given → IfFault failure (IsFaultAfter (front ++ sections_of blocks) bytes) → IfFault failure (IsFaultAfter front bytes)
fault_joined front given bytes blocks end rest NoMemory read fault = fault
fault_joined front given bytes blocks end rest (Fault fault) read (more, left, new, bad, other) =
    (blocks ++ more, left, read_joined front given bytes blocks more end fault.at rest left read new, bad, other)

pub stand_joined : (front given bytes : List ℕ) (old next new : SectionReader) → HasRead front old given → HasRead (front ++ sections_of old.blocks.items) next bytes → Joins old.blocks.items next new → HasRead front new bytes
stand_joined front given bytes old next new stand more joins =
    let read = read_joined front given bytes old.blocks.items next.blocks.items old.end next.end old.begun.items next.begun.items stand.read more.read in
    stand_for front bytes new next.begun.items joins.begun (subst (λ (b : List BlockParts). AreRead front b new.end next.begun.items bytes) (sym joins.all) (subst (λ (e : ℕ). AreRead front (old.blocks.items ++ next.blocks.items) e next.begun.items bytes) (sym joins.end) read)) more.cut

-- a section that is whole stays so, and nothing else is behind it
pub section_grown : (begun rest behind : List ℕ) (b : BlockParts) → IsSection begun b behind → HasNothingBehind begun → IsSection (begun ++ rest) b rest
section_grown begun rest behind b section just = record {
  block = section.block;
  framed = subst (λ (r : List ℕ). IsFramed (begun ++ rest) (content_of b) (r ++ rest)) (just (content_of b) behind section.framed) (framed_stays begun (content_of b) behind rest section.framed);
}

-- the section that has begun has a fault
pub begun_fault : (front given piece : List ℕ) (old : SectionReader) (begun slice rest : List ℕ) (failure : Failure CarFault) → HasRead front old given → slice ≡ begun → begun ++ rest ≡ old.begun.items ++ piece → IfFault failure (λ fault. IsSectionFault slice fault.kind × (fault.kind ≢ Cut) × (fault.at ≡ old.end)) → IfFault failure (IsFaultAfter front (given ++ piece))
begun_fault front given piece old begun slice rest NoMemory stand same all fault = fault
begun_fault front given piece old begun slice rest (Fault fault) stand same all (bad, other, at) =
    read_fault front (given ++ piece) old.blocks.items old.end (begun ++ rest) (Fault fault) (read_grown front given piece old.blocks.items old.end old.begun.items (begun ++ rest) stand.read all) (section_fault_stays begun rest fault.kind other (subst (λ (s : List ℕ). IsSectionFault s fault.kind) same bad), other, at)

-- the section that has begun is whole, and its block comes first
pub begun_whole : (front given piece : List ℕ) (old : SectionReader) (begun slice rest behind : List ℕ) (b : BlockParts) (blocks : List BlockParts) (len next : ℕ) → HasRead front old given → slice ≡ begun → begun ++ rest ≡ old.begun.items ++ piece → HasNothingBehind begun → IsSection slice b behind → blocks ≡ b ∷ [] → length slice ≡ len → next ≡ min (old.end + len) (2 ^ 64 - 1) → AreRead (front ++ sections_of old.blocks.items) blocks next rest (given ++ piece)
begun_whole front given piece old begun slice rest behind b blocks len next stand same all just section one size is_next =
    let whole = front ++ sections_of old.blocks.items in
    let grown = read_apart front (given ++ piece) old.blocks.items old.end (begun ++ rest) (read_grown front given piece old.blocks.items old.end old.begun.items (begun ++ rest) stand.read all) in
    let here = section_grown begun rest behind b (subst (λ (s : List ℕ). IsSection s b behind) same section) just in
    subst (λ (bs : List BlockParts). AreRead whole bs next rest (given ++ piece)) (sym one) (read_more whole (given ++ piece) [] b old.end next (begun ++ rest) rest grown here (omega (arith, is_next, size, ap length same, length-append begun rest)))

-- none has begun, and no block comes first
pub behind_none : (front given piece : List ℕ) (old : SectionReader) (blocks : List BlockParts) → HasRead front old given → old.begun.items ≡ [] → blocks ≡ [] → AreRead (front ++ sections_of old.blocks.items) blocks old.end piece (given ++ piece)
behind_none front given piece old blocks stand none no_block =
    let grown = read_grown front given piece old.blocks.items old.end old.begun.items piece stand.read (ap (λ (b : List ℕ). b ++ piece) (sym none)) in
    subst (λ (b : List BlockParts). AreRead (front ++ sections_of old.blocks.items) b old.end piece (given ++ piece)) (sym no_block) (read_apart front (given ++ piece) old.blocks.items old.end piece grown)
