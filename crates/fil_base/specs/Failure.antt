-- How a call fails that may run out of memory.
use Rattle.fil_base.specs.declared.failure.Failure.{Failure}
use Rattle.fil_base.specs.declared.failure.Failure.TheVariants.{NoMemory, Fault}

-- there was no memory, or there is a fault of which P holds
abbrev pub IfFault : {F : Type 0} → Failure F → (F → Type 0) → Type 0
IfFault NoMemory P = Unit {0}
IfFault (Fault fault) P = P fault
