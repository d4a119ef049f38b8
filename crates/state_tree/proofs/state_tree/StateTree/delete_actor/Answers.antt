use Rattle.std.proofs.Common.{refl, ap, ◌∙◌}
use Rattle.std.specs.FinMap.{remove}
use Rattle.state_tree.specs.Actors.{id_key}
use Rattle.state_tree.proofs.Calls.{on_err_any, stands_copied, stands_without}
use Rattle.state_tree.proofs.state_tree.StateTree.delete_actor.Goals as goal

pub returns-in_err-remove-clause-unchanged : goal.returns-in_err-remove-clause-unchanged
returns-in_err-remove-clause-unchanged g c = λ actors info stands.
    on_err_any c.from_residual-in_err-remove.result (stands_copied c.args.self.now _ _ actors info stands c.in_err-remove.ensures.unchanged refl refl)

pub returns-clause-after : goal.returns-clause-after
returns-clause-after g c = λ actors info stands.
    stands_without c.args.self.now _ _ actors info c.args.id c.deref.result.now stands c.number.ensures.range (c.deref.ensures.value ∙ c.in_ok-key.ensures ∙ ap id_key c.number.ensures.value)
    c.in_ok-remove.ensures.after (c.remove-2.ensures ∙ ap (remove c.args.self.now.changed) c.number-2.ensures.value) refl
