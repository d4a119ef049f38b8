use Rattle.std.proofs.Common.{◌≡◌, take}
use Rattle.tipset_exec.specs.Accounts.{accounts_of}
use Rattle.tipset_exec.specs.Report.{exits, final}
use Rattle.tipset_exec.specs.Ledger.{ids, IsLedger}
use Rattle.tipset_exec.proofs.running.run_messages.Given as goal

abbrev pub invariant-loop-message : goal.invariant-loop-message
invariant-loop-message l = record {
  done : l.exits.items ≡ exits (accounts_of l.fn.actors) (take l.message-index l.messages);
  run : accounts_of l.actors ≡ final (accounts_of l.fn.actors) (take l.message-index l.messages);
  ledger : IsLedger l.actors;
  same : ids l.actors ≡ ids l.fn.actors;
}
