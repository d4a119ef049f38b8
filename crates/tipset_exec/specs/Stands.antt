-- What a ledger stands for.
use Rattle.std.specs.Prelude.{◌≡◌, List, []}
use Rattle.cid_core.specs.BlockParts.{BlockParts}
use Rattle.state_model.specs.Stands.{StandFor}
use Rattle.state_model.specs.State.{State}
use Rattle.tipset_exec.specs.declared.ledger.Ledger.{Ledger}

-- it stands for a state of which no blocks were made, over a base that holds these
pub record Stands (ledger : Ledger) (blocks : List BlockParts) (s : State) : Type 0 where
  pub parts : StandFor ledger.tree ledger.names blocks s
  pub minted : ledger.minted ≡ s.minted
  pub burned : ledger.burned ≡ s.burned
  pub made : s.made ≡ []
