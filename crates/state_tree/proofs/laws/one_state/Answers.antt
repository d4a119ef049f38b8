use Rattle.state_tree.proofs.OneState.{one_state}
use Rattle.state_tree.proofs.laws.one_state.Goals as goal

pub returns : goal.returns
returns c = one_state c.one_map.ensures
