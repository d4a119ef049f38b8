-- What contracts see of a sink in memory.
use Rattle.std.specs.Prelude.{◌≡◌, ℕ, ◌-◌, ◌<◌, List, [], ◌∷◌, ◌++◌, Result, Ok, Err, take, length, min, ◌⊎◌}
use Rattle.outside_io.specs.CallPlan.{CallPlan, IsNextToFail, after_call}
use Rattle.outside_io.specs.Causes.{one_more}

-- the bytes that it took, how many a call takes at most and it takes in all, which calls are to fail, and how often one
-- did
pub record SinkState : Type 0 where
  pub taken : List ℕ
  pub piece : ℕ
  pub room : ℕ
  pub plan : CallPlan
  pub faults : ℕ

-- how many more bytes it has room for
abbrev pub free_room : SinkState → ℕ
free_room sink = sink.room - length sink.taken

-- how many bytes a write of a piece of so many takes
abbrev pub write_count : SinkState → ℕ → ℕ
write_count sink len = min sink.piece (min len (free_room sink))

-- a write of a piece of so many bytes fails: its call is to fail, or there is a byte to take and the sink is full
abbrev pub FailsToWrite : SinkState → ℕ → Type 0
FailsToWrite sink len = IsNextToFail sink.plan ⊎ ((0 < len) × (length sink.taken ≡ sink.room))

-- so many where no call is to fail, and 0 where one may
abbrev pub if_none_fails : List ℕ → ℕ → ℕ
if_none_fails [] n = n
if_none_fails (call ∷ calls) n = 0

-- how many bytes it surely takes: its free room, where no call is to fail
abbrev pub sure_bytes : SinkState → ℕ
sure_bytes sink = if_none_fails sink.plan.failing (free_room sink)

-- the sink after a write of these bytes with this result: the first n of them more, or one fault more
abbrev pub after_write : {E : Type 0} → SinkState → List ℕ → Result ℕ E → SinkState
after_write sink bytes (Ok n) =
    record {
      taken = sink.taken ++ take n bytes;
      piece = sink.piece;
      room = sink.room;
      plan = after_call sink.plan;
      faults = sink.faults;
    }
after_write sink bytes (Err _) =
    record {
      taken = sink.taken;
      piece = sink.piece;
      room = sink.room;
      plan = after_call sink.plan;
      faults = one_more sink.faults;
    }
