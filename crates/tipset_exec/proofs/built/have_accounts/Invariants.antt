use Rattle.std.proofs.Common.{◌≡◌, take, true}
use Rattle.std.specs.List.{list_all}
use Rattle.state_model.specs.State.{State}
use Rattle.tipset_exec.specs.Alone.{has_account}
use Rattle.tipset_exec.specs.Stands.{Stands}
use Rattle.tipset_exec.proofs.built.have_accounts.Given as goal

abbrev pub invariant-loop-message : goal.invariant-loop-message
invariant-loop-message l = (s : State) → Stands l.ledger l.base s → list_all (λ m. has_account s m.to) (take l.message-index l.messages) ≡ true
