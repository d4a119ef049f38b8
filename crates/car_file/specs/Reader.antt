-- What a contract sees of a reader: the bytes given so far.
use Rattle.std.specs.Prelude.{◌≡◌, ◌≢◌, ℕ, List}
use Rattle.std.specs.declared.result.Result.{Result}
use Rattle.std.specs.declared.result.Result.TheVariants.{Ok, Err}
use Rattle.fil_base.specs.CidParts.{CidParts, IsCid}
use Rattle.fil_base.specs.declared.failure.Failure.{Failure}
use Rattle.fil_base.specs.declared.failure.Failure.TheVariants.{NoMemory, Fault}
use Rattle.dag_cbor.specs.Spelling.{spelled}
use Rattle.car_file.specs.Car.{framed, header_of}
use Rattle.car_file.specs.CarFault.{IsCarFault, IsCut}
use Rattle.car_file.specs.Sections.{HasRead}
use Rattle.car_file.specs.declared.fault.CarFault.{CarFault}
use Rattle.car_file.specs.declared.fault.CarKind.TheVariants.{Cut}
use Rattle.car_file.specs.declared.reader.CarReader.{CarReader}
use Rattle.car_file.specs.declared.reader.State.{State}
use Rattle.car_file.specs.declared.reader.State.TheVariants.{Header, Sections, Failed}
use Rattle.car_file.specs.declared.section_reader.SectionReader.{SectionReader}

-- why bytes are no archive, and not because they are cut
abbrev pub IsOtherFault : List ℕ → CarFault → Type 0
IsOtherFault bytes fault = IsCarFault bytes fault × (fault.kind ≢ Cut)

-- the header of the root was read, and these sections behind it
abbrev pub AreReadBehind : CidParts → SectionReader → List ℕ → Type 0
AreReadBehind root sections given = IsCid root × HasRead (framed (spelled (header_of root))) sections given

-- the state stands for these bytes: those of a header that is cut; a header and the sections behind it; or bytes with
-- this fault, which is no cut
abbrev pub IsStateOf : State → List ℕ → Type 0
IsStateOf (Header header) given = (header.items ≡ given) × IsCut given
IsStateOf (Sections root sections) given = AreReadBehind root sections given
IsStateOf (Failed fault) given = IsOtherFault given fault

-- a fault is kept, and nothing else changes the state
abbrev pub IsKept : Failure CarFault → State → State → Type 0
IsKept NoMemory old new = new ≡ old
IsKept (Fault fault) old new = new ≡ Failed fault

-- the reader has been given these bytes
unfoldable pub Stands : CarReader → List ℕ → Type 0
Stands reader given = IsStateOf reader.state given

-- the piece was taken: the answer is not want of memory
abbrev pub Took : {T : Type 0} → Result T (Failure CarFault) → Type 0
Took (Ok x) = Unit {0}
Took (Err NoMemory) = ⊥
Took (Err (Fault fault)) = Unit {0}
