use Rattle.tipset_exec.proofs.Building.{no_sends, sends_without_keys}
use Rattle.tipset_exec.proofs.built.are_transfers_over_any_state.Goals as goal

pub returns-then-not-are_sends : goal.returns-then-not-are_sends
returns-then-not-are_sends c = λ s. no_sends s c.args.messages.now c.are_sends.result c.are_sends.ensures c.if-not-are_sends.true

pub returns-then-not-have_keys : goal.returns-then-not-have_keys
returns-then-not-have_keys c = λ s.
    sends_without_keys s c.args.messages.now c.are_sends.result c.have_keys.result c.are_sends.ensures c.if-not-are_sends.false c.have_keys.ensures c.if-not-have_keys.true
