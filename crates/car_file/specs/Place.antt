-- Where a fault stands.
use Rattle.std.specs.Prelude.{ℕ}
use Rattle.fil_base.specs.declared.failure.Failure.{Failure}
use Rattle.fil_base.specs.declared.failure.Failure.TheVariants.{NoMemory, Fault}
use Rattle.car_file.specs.declared.fault.CarFault.{CarFault}
use Rattle.car_file.specs.declared.fault.CarKind.{CarKind}

-- the failure, its fault at this place
abbrev pub at_place : Failure CarKind → ℕ → Failure CarFault
at_place NoMemory place = NoMemory
at_place (Fault kind) place = Fault (record { kind = kind; at = place })
