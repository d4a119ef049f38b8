-- What contracts see of a reader or a writer that stands for a source or a sink.
use Rattle.std.specs.Prelude.{ℕ, refl}
use Rattle.std.specs.Coded.{Coded, code_by, coded×, coded_ℕ}

-- the reader or the writer, and how often it failed
pub record WithFaults (T : Type 0) : Type 0 where
  pub inner : T
  pub faults : ℕ

-- it is stored as the pair of its fields
abbrev pub with_faults_code : {T : Type 0} → Coded T → Coded (WithFaults T)
with_faults_code {T} code =
    code_by (T × ℕ) (coded× code coded_ℕ) (λ s. (s.inner, s.faults)) (λ p. record { inner = p.0; faults = p.1 }) (λ _. refl)
