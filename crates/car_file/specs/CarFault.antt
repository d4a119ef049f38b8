-- Why bytes are no archive: the first fault from the left, and its place. The header is judged when all its bytes came,
-- and so is each section; a bad length is judged at once.
use Rattle.std.specs.Prelude.{◌≡◌, ◌≢◌, ◌<◌, ◌^◌, ◌-◌, ◌⊎◌, ℕ, pos, List, [], ◌∷◌, ◌++◌, length, min}
use Rattle.std.specs.List.{IsAmong}
use Rattle.fil_base.specs.CidBytes.{cid_bytes}
use Rattle.fil_base.specs.CidParts.{CidParts, IsCid}
use Rattle.fil_base.specs.Varint.{varint}
use Rattle.fil_base.specs.VarintFault.{IsVarintFault}
use Rattle.fil_base.specs.declared.varint.VarintFault.TheVariants.{Cut as VarintCut, TooLong, NotShortest}
use Rattle.cid_core.specs.BlockFault.{IsBlockFault}
use Rattle.cid_core.specs.BlockParts.{BlockParts}
use Rattle.cid_core.specs.declared.block.BlockFault.TheVariants as block
use Rattle.dag_cbor.specs.Plain.{IsPlain}
use Rattle.dag_cbor.specs.Spelling.{spelled}
use Rattle.dag_cbor.specs.declared.value.Value.{Value}
use Rattle.dag_cbor.specs.declared.value.Value.TheVariants as v
use Rattle.car_file.specs.Car.{IsCar, car, framed, roots, version}
use Rattle.car_file.specs.declared.fault.CarFault.{CarFault}
use Rattle.car_file.specs.declared.fault.CarKind.{CarKind}
use Rattle.car_file.specs.declared.fault.CarKind.TheVariants.{Header, Version, Roots, Section, Cid, HashNotSupported, Digest, Cut}

-- some bytes stand at the front, behind their length, and then the rest
pub record IsFramed (bytes content rest : List ℕ) : Type 0 where
  pub short : length content < 2 ^ 63
  pub spelled : bytes ≡ framed content ++ rest

-- the length at the front is not in its one spelling
abbrev pub HasBadLength : List ℕ → Type 0
HasBadLength bytes = IsVarintFault bytes TooLong ⊎ IsVarintFault bytes NotShortest

-- the bytes end inside the length at the front, or inside what it is the length of
abbrev pub IsCut : List ℕ → Type 0
IsCut bytes =
    IsVarintFault bytes VarintCut ⊎ ((len : ℕ) × (rest : List ℕ) × (len < 2 ^ 63) × (bytes ≡ varint len ++ rest) × (length rest < len))

-- the pairs of a map
abbrev pub Pairs : Type 0
Pairs = List (List ℕ × Value)

-- the bytes spell the map of these pairs
abbrev pub IsMap : List ℕ → Pairs → Type 0
IsMap content pairs = IsPlain 128 (v.Map pairs) × (content ≡ spelled (v.Map pairs))

-- the version is 1
abbrev pub IsVersion1 : Pairs → Type 0
IsVersion1 pairs = IsAmong pairs (version, v.Int (pos 1))

-- a key other than the two of a header
abbrev pub IsOtherKey : List ℕ → Type 0
IsOtherKey key = (key ≢ roots) × (key ≢ version)

-- why a header's bytes are none of version 1 with one root
abbrev pub IsHeaderFault : List ℕ → CarKind → Type 0
IsHeaderFault content Header =
    ((pairs : Pairs) (value : Value) → IsMap content pairs → IsAmong pairs (version, value) → ⊥)
    ⊎ ((pairs : Pairs) × (key : List ℕ) × (value : Value) × IsMap content pairs × IsVersion1 pairs × IsAmong pairs (key, value) × IsOtherKey key)
IsHeaderFault content Version =
    (pairs : Pairs) × (value : Value) × IsMap content pairs × IsAmong pairs (version, value) × (value ≢ v.Int (pos 1))
IsHeaderFault content Roots =
    (pairs : Pairs) × IsMap content pairs × IsVersion1 pairs
    × ((key : List ℕ) (value : Value) → IsAmong pairs (key, value) → IsOtherKey key → ⊥)
    × ((root : CidParts) → IsAmong pairs (roots, v.List (v.Link root ∷ [])) → ⊥)
IsHeaderFault content Section = ⊥
IsHeaderFault content Cid = ⊥
IsHeaderFault content HashNotSupported = ⊥
IsHeaderFault content Digest = ⊥
IsHeaderFault content Cut = ⊥

-- why no header stands at the front
abbrev pub IsFrontFault : List ℕ → CarKind → Type 0
IsFrontFault bytes kind =
    (IsCut bytes × (kind ≡ Cut)) ⊎ ((HasBadLength bytes × (kind ≡ Header))
    ⊎ ((content : List ℕ) × (rest : List ℕ) × IsFramed bytes content rest × IsHeaderFault content kind))

-- why a section's bytes are no block
abbrev pub IsContentFault : List ℕ → CarKind → Type 0
IsContentFault content Header = ⊥
IsContentFault content Version = ⊥
IsContentFault content Roots = ⊥
IsContentFault content Section = content ≡ []
IsContentFault content Cid = (0 < length content) × ((cid : CidParts) (held : List ℕ) → IsCid cid → content ≢ cid_bytes cid ++ held)
IsContentFault content HashNotSupported =
    (cid : CidParts) × (held : List ℕ) × IsCid cid × (content ≡ cid_bytes cid ++ held) × IsBlockFault cid held block.HashNotSupported
IsContentFault content Digest =
    (cid : CidParts) × (held : List ℕ) × IsCid cid × (content ≡ cid_bytes cid ++ held) × IsBlockFault cid held block.Digest
IsContentFault content Cut = ⊥

-- why no section stands at the front, where some bytes do
abbrev pub IsSectionFault : List ℕ → CarKind → Type 0
IsSectionFault bytes kind =
    (0 < length bytes) × ((IsCut bytes × (kind ≡ Cut)) ⊎ ((HasBadLength bytes × (kind ≡ Section))
    ⊎ ((content : List ℕ) × (rest : List ℕ) × IsFramed bytes content rest × IsContentFault content kind)))

-- a place in 64 bits; one beyond them is their greatest number
abbrev pub in_64_bits : ℕ → ℕ
in_64_bits place = min place (2 ^ 64 - 1)

-- where a fault stands in bytes: a cut at their end, any other where its header or section begins
abbrev pub place_of : List ℕ → ℕ → CarKind → ℕ
place_of bytes begin Header = in_64_bits begin
place_of bytes begin Version = in_64_bits begin
place_of bytes begin Roots = in_64_bits begin
place_of bytes begin Section = in_64_bits begin
place_of bytes begin Cid = in_64_bits begin
place_of bytes begin HashNotSupported = in_64_bits begin
place_of bytes begin Digest = in_64_bits begin
place_of bytes begin Cut = in_64_bits (length bytes)

-- the header has the fault
abbrev pub IsFaultInFront : List ℕ → CarFault → Type 0
IsFaultInFront bytes fault = IsFrontFault bytes fault.kind × (fault.at ≡ place_of bytes 0 fault.kind)

-- the header and some sections are good, and what follows them has the fault
abbrev pub IsFaultBehind : List ℕ → CarFault → Type 0
IsFaultBehind bytes fault =
    (root : CidParts) × (blocks : List BlockParts) × (rest : List ℕ) × IsCar root blocks × (bytes ≡ car root blocks ++ rest)
    × IsSectionFault rest fault.kind × (fault.at ≡ place_of bytes (length (car root blocks)) fault.kind)

-- why bytes are no archive
unfoldable pub IsCarFault : List ℕ → CarFault → Type 0
IsCarFault bytes fault = IsFaultInFront bytes fault ⊎ IsFaultBehind bytes fault
