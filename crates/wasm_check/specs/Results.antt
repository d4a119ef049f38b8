-- One step of judging after another.
use Rattle.std.specs.Prelude.{Result, Ok, Err}

-- what the first step gives goes into the next, unless there is a fault
infixl 10 ◌>>=◌
abbrev pub ◌>>=◌ : {A B E : Type 0} → Result A E → (A → Result B E) → Result B E
(Ok x) >>= next = next x
(Err fault) >>= next = Err fault
