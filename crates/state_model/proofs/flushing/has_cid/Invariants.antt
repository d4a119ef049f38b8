use Rattle.std.proofs.Common.{◌≡◌, drop}
use Rattle.cid_core.specs.BlockParts.{found}
use Rattle.state_model.proofs.flushing.has_cid.Given as goal

abbrev pub invariant-loop-block : goal.invariant-loop-block
invariant-loop-block l = found l.blocks l.cid ≡ found (drop l.block-index l.blocks) l.cid
