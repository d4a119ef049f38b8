-- What a state that is loaded once stands for.
use Rattle.std.specs.Prelude.{List}
use Rattle.cid_core.specs.BlockParts.{BlockParts}
use Rattle.state_model.specs.State.{State}
use Rattle.tipset_exec.specs.Stands.{Stands}
use Rattle.tipset_exec.specs.declared.opening_state.OpeningState.{OpeningState}

-- evaluation opens with a state, over a base that holds these blocks
unfoldable pub Opens : OpeningState → List BlockParts → State → Type 0
Opens opening blocks s = Stands opening.ledger blocks s
