use Rattle.std.proofs.Common.{◌≡◌, ◌∷◌, ap, subst, sym, ◌∙◌}
use Rattle.std.specs.FinMap.{from_entries}
use Rattle.state_tree.specs.Over.{over}
use Rattle.state_tree.proofs.Overlay.{Entries, LeftOf, copied_all, copied_begin, copied_more, first_small, left_all, left_behind}
use Rattle.state_tree.proofs.changed.Changed.copy.Goals as goal

pub loop-id-init : goal.loop-id-init
loop-id-init c =
    let all = c.into_iter-id-iterator.ensures.into_iter_gives.0 in (
      left_all c.self.inside.inner.entries _ c.args.self.now c.self.invariant c.self.view_is all,
      copied_begin c.self.inside.inner.entries _ c.args.self.now _ c.self.view_is all c.none-copy.ensures,
    )

pub insert-requires : goal.insert-requires
insert-requires c = first_small c.args.self.now (c.in-Some.id.now, c.in-Some.actor.now) _ (subst (LeftOf c.args.self.now) c.in-Some.ensures.steps c.loop-id.invariant.0)

pub loop-id-preserved : goal.loop-id-preserved
loop-id-preserved c =
    let own = c.args.self.now in
    let left = subst (LeftOf own) c.in-Some.ensures.steps c.loop-id.invariant.0 in
    let so-far = subst (λ (es : Entries). over (from_entries es) c.loop-id.copy ≡ own) c.in-Some.ensures.steps c.loop-id.invariant.1 in (
      left_behind own (c.in-Some.id.now, c.in-Some.actor.now) _ left,
      copied_more own c.loop-id.copy _ (c.in-Some.id.now, c.in-Some.actor.now) _ c.in_ok-actor.actor left so-far c.in_ok-insert.ensures.after c.in_ok-actor.ensures,
    )

pub returns : goal.returns
returns c = copied_all c.args.self.now _ _ c.in-None.ensures.steps.0 c.loop-id.invariant.1
