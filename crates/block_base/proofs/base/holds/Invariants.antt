use Rattle.std.proofs.Common.{◌≡◌, ◌<◌, ℕ}
use Rattle.block_base.specs.Index.{cid_at}
use Rattle.block_base.proofs.base.holds.Given as goal

abbrev pub invariant-loop-block : goal.invariant-loop-block
invariant-loop-block l = (k : ℕ) → k < l.block-index → cid_at l.blocks k ≡ l.cid → ⊥
