use Rattle.std.proofs.Common.{◌-◌, ◌≡◌, ◌<◌, ◌≤◌, ℕ, false, true, length, get_or}
use Rattle.block_base.specs.Index.{is_before}
use Rattle.block_base.specs.declared.index.Entry.{Entry}
use Rattle.block_base.proofs.index.count_before.Given as goal

abbrev pub invariant-loop-low : goal.invariant-loop-low
invariant-loop-low l =
    (l.low ≤ l.high) × (l.high ≤ length l.index) × ((k : ℕ) (d : Entry) → k < l.low → is_before l.blocks (get_or l.index k d) (l.cid, 0) ≡ true) × ((k : ℕ) (d : Entry) → l.high ≤ k → k < length l.index → is_before l.blocks (get_or l.index k d) (l.cid, 0) ≡ false)

abbrev pub decreases-loop-low : goal.decreases-loop-low
decreases-loop-low l = l.high - l.low
