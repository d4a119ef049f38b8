use Rattle.std.proofs.Common.{◌≡◌, ◌∷◌, ap, subst, sym, ◌∙◌}
use Rattle.std.specs.FinMap.{insert}
use Rattle.hamt_map.specs.Stands as hamt
use Rattle.state_tree.specs.Actors.{Actors, records}
use Rattle.state_tree.specs.declared.actor.Actor.{Actor}
use Rattle.state_tree.proofs.Overlay.{Entries, LeftOf, Written, first_small, left_all, left_behind, written_all, written_begin, written_more}
use Rattle.state_tree.proofs.changed.Changed.write_into.Goals as goal

pub loop-id-init : goal.loop-id-init
loop-id-init c =
    let all = c.into_iter-id-iterator.ensures.into_iter_gives.0 in (
      left_all c.self.inside.inner.entries _ c.args.self.now c.self.invariant c.self.view_is all,
      λ blocks kept are stands. (kept, stands, written_begin c.self.inside.inner.entries _ c.args.self.now kept c.self.view_is all are),
    )

pub write_actor-requires : goal.write_actor-requires
write_actor-requires c = first_small c.args.self.now (c.in-Some.id.now, c.in-Some.actor.now) _ (subst (LeftOf c.args.self.now) c.in-Some.ensures.steps c.loop-id.invariant.0)

pub loop-id-preserved : goal.loop-id-preserved
loop-id-preserved c =
    let own = c.args.self.now in
    let left = subst (LeftOf own) c.in-Some.ensures.steps c.loop-id.invariant.0 in (
      left_behind own (c.in-Some.id.now, c.in-Some.actor.now) _ left,
      λ blocks kept are stands.
          let so-far = c.loop-id.invariant.1 blocks kept are stands in
          let here = subst (λ (es : Entries). Written own kept es so-far.0) c.in-Some.ensures.steps so-far.2 in (
            insert so-far.0 c.in-Some.id.now c.in-Some.actor.now,
            subst (λ (a : Actor). hamt.Stands c.write_actor.new.tree blocks (records (insert so-far.0 c.in-Some.id.now a))) c.in_ok-actor.ensures (c.in_ok-write_actor.ensures.after blocks so-far.0 here.are so-far.1),
            written_more own kept (c.in-Some.id.now, c.in-Some.actor.now) _ so-far.0 left here,
          ),
    )

pub returns-in_err-actor-clause-some : goal.returns-in_err-actor-clause-some
returns-in_err-actor-clause-some c = λ blocks kept are stands.
    let so-far = c.loop-id.invariant.1 blocks kept are stands in (so-far.0, so-far.2.are, so-far.1, so-far.2.same)

pub returns-in_err-write_actor-clause-some : goal.returns-in_err-write_actor-clause-some
returns-in_err-write_actor-clause-some c = λ blocks kept are stands.
    let so-far = c.loop-id.invariant.1 blocks kept are stands in (so-far.0, so-far.2.are, c.in_err-write_actor.ensures.unchanged blocks (records so-far.0) so-far.1, so-far.2.same)

pub returns-clause-after : goal.returns-clause-after
returns-clause-after c = λ blocks kept are stands.
    let so-far = c.loop-id.invariant.1 blocks kept are stands in
    subst (λ (m : Actors). hamt.Stands c.loop-id.tree blocks (records m)) (written_all c.args.self.now kept _ so-far.0 c.in-None.ensures.steps.0 so-far.2) so-far.1

pub returns-clause-some : goal.returns-clause-some
returns-clause-some c = λ blocks kept are stands.
    let so-far = c.loop-id.invariant.1 blocks kept are stands in (so-far.0, so-far.2.are, so-far.1, so-far.2.same)
