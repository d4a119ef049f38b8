-- How many bytes a sink surely takes.
use Rattle.std.specs.Prelude.{◌≡◌, ℕ, ◌+◌, ◌<◌, ◌≤◌, Result, IsOkAnd}

-- A piece that is not empty, of at most as many bytes as the sink surely takes, is taken in part or whole, with no
-- fault, and the sink then surely takes what is left of that number.
abbrev pub IsSure : {E : Type 0} → ℕ → ℕ → ℕ → ℕ → ℕ → Result ℕ E → Type 0
IsSure old new before now len result = 0 < len → len ≤ old → IsOkAnd result (λ n. old ≤ new + n) × (now ≡ before)
