-- The clauses of the top call.
use Rattle.std.specs.Prelude.{◌≡◌, ℕ, List, Option, Some, None, Result, Ok}
use Rattle.std.specs.Io.KnownBytes.{Appends, IsAtEnd}
use Rattle.outside_io.specs.Causes.{Rose}
use Rattle.fvm_run.specs.declared.command.Command.{Command}
use Rattle.fvm_run.specs.declared.command.Command.TheVariants.{Run, Check}
use Rattle.fvm_run.specs.declared.refusal.Refusal.{Refusal}
use Rattle.fvm_run.specs.declared.status.Status.{Status}
use Rattle.fvm_run.specs.declared.status.UsageFault.TheVariants.{Words}
use Rattle.fvm_run.specs.declared.status.Status.TheVariants.{Done, Usage, Refused, WriteFault}
use Rattle.fvm_run.specs.Answers.{Answers}
use Rattle.fvm_run.specs.Stops.{IsRefusalOf}
use Rattle.fvm_run.specs.Statuses.{status_of}
use Rattle.fvm_run.specs.Writing.{TakesPrefix}

-- a command that reads has read its source to the end
abbrev pub HasReadAll : Command → Option (List ℕ) → Type 0
HasReadAll Run left = IsAtEnd left
HasReadAll Check left = IsAtEnd left

-- there is a command, its answer to what the source had left is a text, the source was read to its end, and
-- of the text P holds
abbrev pub AnswersText : Option Command → Option (List ℕ) → Option (List ℕ) → (List ℕ → Type 0) → Type 0
AnswersText None old new P = ⊥
AnswersText (Some command) old new P = (text : List ℕ) × Answers command old (Ok text) × HasReadAll command new × P text

-- a faulty command line is no command, and a refusal is the command's answer to what the source had left
abbrev pub IsCauseOfRefusal : Option Command → Option (List ℕ) → Option (List ℕ) → Status → Type 0
IsCauseOfRefusal None old new (Refused refusal) = ⊥
IsCauseOfRefusal (Some command) old new (Refused refusal) = IsRefusalOf command old new refusal
IsCauseOfRefusal None old new (Usage Words) = Unit {0}
IsCauseOfRefusal (Some command) old new (Usage Words) = ⊥
IsCauseOfRefusal words old new status = Unit {0}

-- statuses with which nothing was written
abbrev pub WritesNothing : Status → Type 0
WritesNothing Done = ⊥
WritesNothing WriteFault = ⊥
WritesNothing status = Unit {0}

-- the status that the words and the answer have
abbrev pub IsStatusOf : Option Command → Option (List ℕ) → Status → Type 0
IsStatusOf None left status = status ≡ Usage Words
IsStatusOf (Some command) left status = (found : Result (List ℕ) Refusal) × Answers command left found × (status ≡ status_of found)

-- a front of the line was written, and the whole line where the sink's count of faults did not rise
pub record Says (old new : Option (List ℕ)) (before now : ℕ) (line : List ℕ) : Type 0 where
  pub prefix : TakesPrefix old new line
  pub whole : (Rose before now → ⊥) → Appends old new line
