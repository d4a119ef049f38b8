-- Which calls of a source or a sink in memory are to fail.
use Rattle.std.specs.Prelude.{ℕ, List, Contains}
use Rattle.outside_io.specs.Causes.{one_more}

-- the numbers of the calls that are to fail, and the number of the next call
pub record CallPlan : Type 0 where
  pub failing : List ℕ
  pub next : ℕ

-- the next call is to fail
abbrev pub IsNextToFail : CallPlan → Type 0
IsNextToFail plan = Contains plan.failing plan.next

-- the plan after a call
abbrev pub after_call : CallPlan → CallPlan
after_call plan = record { failing = plan.failing; next = one_more plan.next }
