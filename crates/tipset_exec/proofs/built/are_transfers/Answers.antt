use Rattle.std.proofs.Common.{◌≡◌}
use Rattle.std.proofs.lemmas.Result.{IfOk-weaker}
use Rattle.std.specs.List.{list_all}
use Rattle.tipset_exec.specs.Alone.{has_account, is_transfer}
use Rattle.tipset_exec.proofs.Building.{all_sends, no_sends}
use Rattle.tipset_exec.proofs.built.are_transfers.Goals as goal

pub returns-then-are_sends : goal.returns-then-are_sends
returns-then-are_sends c = λ s stands.
    IfOk-weaker c.have_accounts.result (λ all. all ≡ list_all (λ m. has_account s m.to) c.args.messages.now) (λ all. all ≡ list_all (is_transfer s) c.args.messages.now)
    (λ all is. all_sends s c.args.messages.now c.are_sends.result all c.are_sends.ensures c.if-are_sends.true is) (c.have_accounts.ensures s stands)

pub returns-else-are_sends : goal.returns-else-are_sends
returns-else-are_sends c = λ s stands. no_sends s c.args.messages.now c.are_sends.result c.are_sends.ensures c.if-are_sends.false
