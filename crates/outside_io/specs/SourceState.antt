-- What contracts see of a source in memory.
use Rattle.std.specs.Prelude.{ℕ, List, Result, Ok, Err, drop, length, min}
use Rattle.outside_io.specs.CallPlan.{CallPlan, after_call}
use Rattle.outside_io.specs.Causes.{one_more}

-- the bytes still to come, how many a call moves at most, which calls are to fail, and how often one did
pub record SourceState : Type 0 where
  pub left : List ℕ
  pub piece : ℕ
  pub plan : CallPlan
  pub faults : ℕ

-- how many bytes a read into room for so many moves
abbrev pub read_count : SourceState → ℕ → ℕ
read_count source room = min source.piece (min room (length source.left))

-- the source after a read with this result: n bytes fewer, or one fault more
abbrev pub after_read : {E : Type 0} → SourceState → Result ℕ E → SourceState
after_read source (Ok n) =
    record { left = drop n source.left; piece = source.piece; plan = after_call source.plan; faults = source.faults }
after_read source (Err _) =
    record { left = source.left; piece = source.piece; plan = after_call source.plan; faults = one_more source.faults }
