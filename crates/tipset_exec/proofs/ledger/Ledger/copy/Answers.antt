use Rattle.state_model.specs.State.{init_of}
use Rattle.tipset_exec.proofs.ledger.Ledger.copy.Goals as goal

pub returns : goal.returns
returns c = λ blocks s stands. record {
  parts = (c.in_ok-tree.ensures blocks s.actors s.info stands.parts.0, c.in_ok-names.ensures blocks (init_of s) stands.parts.1);
  minted = stands.minted;
  burned = stands.burned;
  made = stands.made;
}
