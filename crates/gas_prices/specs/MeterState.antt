-- What contracts see of a meter.
use Rattle.std.specs.Prelude.{ℕ}

-- the gas limit, and what is left of it
pub record MeterState : Type 0 where
  pub limit : ℕ
  pub left : ℕ
