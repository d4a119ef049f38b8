use Rattle.std.proofs.Common.{refl}
use Rattle.state_tree.proofs.Calls.{stands_for_none}
use Rattle.state_tree.proofs.state_tree.StateTree.empty.Goals as goal

pub returns : goal.returns
returns c = λ blocks. stands_for_none _ blocks c.args.info (c.empty.ensures blocks) c.none.ensures refl
