-- What a sink took of a text.
use Rattle.std.specs.Prelude.{ℕ, ◌≤◌, List, length, take, Option, Result, OnOk}
use Rattle.std.specs.Io.KnownBytes.{Appends}
use Rattle.outside_io.specs.Causes.{HasCause}

-- a front of the text was taken
abbrev pub TakesPrefix : Option (List ℕ) → Option (List ℕ) → List ℕ → Type 0
TakesPrefix old new text = (n : ℕ) × (n ≤ length text) × Appends old new (take n text)

-- all of the text was taken, or a front of it where the sink failed
pub record Wrote {T E : Type 0} (old new : Option (List ℕ)) (before now : ℕ) (text : List ℕ) (result : Result T E) : Type 0 where
  pub whole : OnOk result (Appends old new text)
  pub prefix : TakesPrefix old new text
  pub cause : HasCause before now result
