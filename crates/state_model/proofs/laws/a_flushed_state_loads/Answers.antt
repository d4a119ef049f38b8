use Rattle.state_model.proofs.LoadedAgain.{a_flushed_state_loads}
use Rattle.state_model.proofs.laws.a_flushed_state_loads.Goals as goal

pub returns : goal.returns
returns c = a_flushed_state_loads
