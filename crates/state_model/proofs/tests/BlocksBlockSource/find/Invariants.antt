use Rattle.std.proofs.Common.{◌≡◌, drop}
use Rattle.cid_core.specs.BlockParts.{found}
use Rattle.state_model.proofs.tests.BlocksBlockSource.find.Given as goal

abbrev pub invariant-loop-block : goal.invariant-loop-block
invariant-loop-block l = found l.self.list.items l.cid ≡ found (drop l.block-index l.self.list.items) l.cid
