use Rattle.std.proofs.Common.{◌≡◌, map, take}
use Rattle.tipset_exec.proofs.evaluation.cids_of.Given as goal

abbrev pub invariant-loop-block : goal.invariant-loop-block
invariant-loop-block l = l.cids.items ≡ map (λ b. b.cid) (take l.block-index l.blocks)
