use Rattle.std.proofs.Common.{subst}
use Rattle.amt_map.specs.OneNode.{IsOneNode}
use Rattle.amt_map.proofs.Heights.{whole_node}
use Rattle.amt_map.proofs.pairs.Spelled.spellings.Goals as goal

pub returns-clause-node : goal.returns-clause-node
returns-clause-node c = subst (IsOneNode 19 0) c.self.view_is (whole_node _ c.self.invariant.0 c.self.invariant.1)
