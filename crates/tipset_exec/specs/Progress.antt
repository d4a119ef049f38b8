-- How the code keeps what the messages of a tipset did so far.
use Rattle.std.specs.Prelude.{◌≡◌, ◌≤◌, ◌<◌, ◌^◌, ℕ, List, bytes_eq, length, map, sum}
use Rattle.std.specs.Cmp.Lexicographic.{slice_cmp}
use Rattle.std.specs.List.{list_any}
use Rattle.std.specs.Ordering.{is_eq, nat_cmp}
use Rattle.cid_core.specs.BlockParts.{BlockParts}
use Rattle.fil_message.specs.declared.receipt.ReceiptLine.{ReceiptLine}
use Rattle.tipset_exec.specs.Stands.{Stands}
use Rattle.tipset_exec.specs.Tipsets.{Run}
use Rattle.tipset_exec.specs.declared.tipset.Progress.{Progress}

-- the keys of a set are the encodings that came
pub record HaveCome (keys : List (List ℕ)) (came : List (List ℕ)) : Type 0 where
  pub same : (bytes : List ℕ) → list_any (λ key. is_eq (slice_cmp nat_cmp bytes key)) keys ≡ list_any (bytes_eq bytes) came

-- it stands for a run in which no code ran, over a base that holds these blocks
pub record StandsFor (progress : Progress) (blocks : List BlockParts) (run : Run) : Type 0 where
  pub ledger : Stands progress.ledger blocks run.state
  pub lines : progress.lines.items ≡ run.lines
  pub came : HaveCome (map (λ key. key.items) progress.came.keys) run.came
  pub invocations : run.invocations ≡ 0
  pub tips : progress.tips ≡ run.tips
  pub penalties : progress.penalties ≡ run.penalties

-- receipts that are few, and of which the gas has a sum below 2^64
pub record AreCountable (lines : List ReceiptLine) : Type 0 where
  pub few : length lines ≤ 2 ^ 32
  pub gas : sum (map (λ l. l.receipt.used) lines) < 2 ^ 64
