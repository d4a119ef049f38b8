use Rattle.state_tree.proofs.Calls.{stands_copied}
use Rattle.state_tree.proofs.state_tree.StateTree.copy.Goals as goal

pub returns : goal.returns
returns c = λ blocks actors info stands.
    stands_copied c.args.self.now _ blocks actors info stands (c.in_ok-tree.ensures blocks) c.in_ok-changed.ensures c.in_ok-info.ensures
