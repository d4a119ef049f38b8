-- Sections that follow one another.
use Rattle.std.specs.Prelude.{◌≡◌, ◌≢◌, ◌<◌, ◌^◌, ◌++◌, ℕ, List, All, length, take}
use Rattle.std.specs.List.{flat_map}
use Rattle.cid_core.specs.BlockParts.{BlockParts, IsBlock}
use Rattle.car_file.specs.Car.{content_of, framed}
use Rattle.car_file.specs.CarFault.{IsCut, IsFramed, IsSectionFault, in_64_bits}
use Rattle.car_file.specs.declared.fault.CarFault.{CarFault}
use Rattle.car_file.specs.declared.fault.CarKind.TheVariants.{Cut}
use Rattle.car_file.specs.declared.section_reader.SectionReader.{SectionReader}

-- the section of a block stands at the front, and then the rest
pub record IsSection (bytes : List ℕ) (b : BlockParts) (rest : List ℕ) : Type 0 where
  pub block : IsBlock b
  pub framed : IsFramed bytes (content_of b) rest

-- the sections of blocks, one after another
abbrev pub sections_of : List BlockParts → List ℕ
sections_of blocks = flat_map (λ b. framed (content_of b)) blocks

-- bytes are a front, the sections of blocks, which end at this place, and the rest
pub record AreRead (front : List ℕ) (blocks : List BlockParts) (end : ℕ) (rest bytes : List ℕ) : Type 0 where
  pub checked : All IsBlock blocks
  pub short : All (λ b. length (content_of b) < 2 ^ 63) blocks
  pub spelled : bytes ≡ (front ++ sections_of blocks) ++ rest
  pub at : end ≡ in_64_bits (length (front ++ sections_of blocks))

-- bytes are a front and these sections, the last of which is not whole
pub record HasRead (front : List ℕ) (reader : SectionReader) (bytes : List ℕ) : Type 0 where
  pub read : AreRead front reader.blocks.items reader.end reader.begun.items bytes
  pub cut : IsCut reader.begun.items

-- behind a front and some sections one has the fault, which is no cut
abbrev pub IsFaultAfter : List ℕ → List ℕ → CarFault → Type 0
IsFaultAfter front bytes fault =
    (blocks : List BlockParts) × (rest : List ℕ) × AreRead front blocks fault.at rest bytes
    × IsSectionFault rest fault.kind × (fault.kind ≢ Cut)

-- behind a front and some sections one is cut; the fault stands where the bytes end
abbrev pub IsCutAfter : List ℕ → List ℕ → CarFault → Type 0
IsCutAfter front bytes fault =
    (blocks : List BlockParts) × (end : ℕ) × (rest : List ℕ) × AreRead front blocks end rest bytes
    × (0 < length rest) × IsCut rest × (fault ≡ record { kind = Cut; at = in_64_bits (length bytes) })

-- the same blocks, which end at the same place
pub record SameBlocks (old new : SectionReader) : Type 0 where
  pub blocks : new.blocks.items ≡ old.blocks.items
  pub end : new.end ≡ old.end

-- and the same bytes of one that is not whole
pub record SameSections (old new : SectionReader) : Type 0 where
  pub same : SameBlocks old new
  pub begun : new.begun.items ≡ old.begun.items

-- and bytes that begin with those of the one that is not whole
pub record SameButBegun (old new : SectionReader) : Type 0 where
  pub same : SameBlocks old new
  pub begun : take (length old.begun.items) new.begun.items ≡ old.begun.items

-- other sections follow those of the blocks
pub record Joins (blocks : List BlockParts) (next new : SectionReader) : Type 0 where
  pub all : new.blocks.items ≡ blocks ++ next.blocks.items
  pub end : new.end ≡ next.end
  pub begun : new.begun.items ≡ next.begun.items
