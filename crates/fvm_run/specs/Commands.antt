-- The words of a command line.
use Rattle.std.specs.Prelude.{ℕ, List, [], ◌∷◌, map, Option, Some, None, String, string_bytes, codes, if◌then◌else◌}
use Rattle.std.specs.Str.{bytes_eq}
use Rattle.std.specs.declared.alloc.Global.{Global}
use Rattle.fvm_run.specs.declared.command.Command.{Command}
use Rattle.fvm_run.specs.declared.command.Command.TheVariants.{Run, Check}

-- the command that the words' bytes name: the one word `run` or `check`
abbrev pub command : List (List ℕ) → Option Command
command [] = None
command (word ∷ []) = if bytes_eq word (codes "run") then Some Run else (if bytes_eq word (codes "check") then Some Check else None)
command (word ∷ other ∷ more) = None

-- the command that the words name
abbrev pub named : List (String Global) → Option Command
named words = command (map string_bytes words)

-- a command that never waits
abbrev pub IsPlain : Command → Type 0
IsPlain Run = ⊥
IsPlain Check = Unit {0}
