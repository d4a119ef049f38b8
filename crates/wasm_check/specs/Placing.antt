-- Failures with the place where they were met. No public contract speaks of them.
use Rattle.std.specs.Prelude.{ℕ}
use Rattle.fil_base.specs.declared.failure.Failure.{Failure}
use Rattle.fil_base.specs.declared.failure.Failure.TheVariants.{Fault, NoMemory}
use Rattle.wasm_check.specs.declared.fault.BodyFault.{BodyFault}
use Rattle.wasm_check.specs.declared.fault.CheckFault.{CheckFault}
use Rattle.wasm_check.specs.declared.fault.CheckKind.{CheckKind}

-- a failure at the instruction of this number
abbrev pub failure_at : ℕ → Failure CheckKind → Failure BodyFault
failure_at position NoMemory = NoMemory
failure_at position (Fault kind) = Fault (record { position = position; kind = kind })

-- a failure in the body of this number
abbrev pub failure_in : ℕ → Failure BodyFault → Failure CheckFault
failure_in function NoMemory = NoMemory
failure_in function (Fault fault) = Fault (record { function = function; position = fault.position; kind = fault.kind })
