use Rattle.std.proofs.Common.{◌≡◌, ◌+◌, [], take, length, ap, subst, ◌∙◌, arith}
use Rattle.std.proofs.lemmas.List.{take_all}
use Rattle.std.specs.FinMap.{from_entries, insert}
use Rattle.std.specs.Ordering.{nat_cmp}
use Rattle.state_tree.specs.Actors.{Actors}
use Rattle.state_tree.specs.Stands.{Stands}
use Rattle.state_tree.specs.declared.actor.Actor.{Actor}
use Rattle.state_tree.proofs.Calls.{puts_more}
use Rattle.state_tree.proofs.state_tree.StateTree.put_all.Goals as goal

pub loop-id-preserved : goal.loop-id-preserved
loop-id-preserved c = λ info none.
    let es = c.args.actors.now in
    let i = c.loop-id.id-index in
    let e = c.loop-id-item.result in
    let front : Actors = from_entries (take i es) in
    subst (λ (actors : Actors). Stands c.put_actor.new.self [] actors info)
    (ap (λ (a : Actor). insert front e.0 a) c.in_ok-actor.ensures ∙ puts_more es i e c.requires c.loop-id-test.true c.loop-id-item.is)
    (c.in_ok-put_actor.ensures.after front info (c.loop-id.invariant info none))

pub returns : goal.returns
returns c = λ info none.
    let es = c.args.actors.now in
    let i = c.loop-id.id-index in
    let all = take_all i es (omega (arith, c.loop-id-test.false)) in
    subst (λ (actors : Actors). Stands c.loop-id.self [] actors info) (ap (from_entries {R = nat_cmp}) all) (c.loop-id.invariant info none)
