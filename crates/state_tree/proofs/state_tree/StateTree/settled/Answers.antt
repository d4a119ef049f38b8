use Rattle.state_tree.proofs.Calls.{are_of, settled_records}
use Rattle.state_tree.proofs.state_tree.StateTree.settled.Goals as goal

pub returns : goal.returns
returns g c = λ actors info stands. (
  settled_records c.args.self.now _ _ actors info stands (λ kept are holds. c.in_ok-write_into.ensures.after (g.B.BlockSource.blocks c.args.base.now) kept are (c.in_ok-tree.ensures _ _ holds)),
  are_of c.args.self.now _ actors info stands,
)
