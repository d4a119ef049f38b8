use Rattle.std.proofs.Common.{refl, ap, ◌∙◌}
use Rattle.std.specs.FinMap.{insert}
use Rattle.state_tree.specs.Actors.{Actors}
use Rattle.state_tree.proofs.Calls.{on_err_any, stands_copied, stands_with}
use Rattle.state_tree.proofs.state_tree.StateTree.put_actor.Goals as goal

pub returns-in_err-insert-clause-unchanged : goal.returns-in_err-insert-clause-unchanged
returns-in_err-insert-clause-unchanged g c = λ actors info stands.
    on_err_any c.from_residual.result (stands_copied c.args.self.now _ _ actors info stands (λ m is. is) c.in_err-insert.ensures.unchanged refl)

pub returns-clause-after : goal.returns-clause-after
returns-clause-after g c = λ actors info stands.
    stands_with c.args.self.now _ _ actors info c.args.id c.args.actor stands c.number.ensures.range c.in_ok-insert.ensures.actor
    (c.in_ok-insert.ensures.after ∙ ap (λ id. insert c.args.self.now.changed id c.args.actor) c.number.ensures.value) refl refl
