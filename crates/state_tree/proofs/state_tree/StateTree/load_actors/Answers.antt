use Rattle.std.proofs.Common.{refl, ◌∙◌}
use Rattle.state_tree.proofs.LoadSteps.{tree_of_actors}
use Rattle.state_tree.proofs.state_tree.StateTree.load_actors.Goals as goal

pub returns-then-are_actors-clause-found : goal.returns-then-are_actors-clause-found
returns-then-are_actors-clause-found g c =
    let there = c.in-Ok.ensures.found in
    tree_of_actors _ _ c.args.links.actors c.args.links.info there.0 c.as_slice.result.now c.are_actors.result there.1 there.2 (c.as_slice.ensures ∙ c.in_ok-pairs.ensures there.0 there.2) c.are_actors.ensures
    c.if-are_actors.true c.none.ensures refl
