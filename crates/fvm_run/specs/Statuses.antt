-- The statuses and their numbers.
use Rattle.std.specs.Prelude.{ℕ, List, Result, Ok, Err}
use Rattle.fvm_run.specs.declared.refusal.Refusal.{Refusal}
use Rattle.fvm_run.specs.declared.status.Status.{Status}
use Rattle.fvm_run.specs.declared.status.Status.TheVariants.{Done, Usage, Refused, ReadFault, WriteFault, NoMemory}

-- the exit status of the process
abbrev pub number : Status → ℕ
number Done = 0
number (Usage fault) = 2
number (Refused refusal) = 3
number ReadFault = 4
number WriteFault = 5
number NoMemory = 6

-- the status of an answer
abbrev pub status_of : Result (List ℕ) Refusal → Status
status_of (Ok text) = Done
status_of (Err refusal) = Refused refusal
