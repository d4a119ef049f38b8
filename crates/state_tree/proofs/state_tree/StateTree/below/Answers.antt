use Rattle.std.proofs.Common.{◌∙◌}
use Rattle.state_tree.proofs.Calls.{all_below}
use Rattle.state_tree.proofs.state_tree.StateTree.below.Goals as goal

pub returns : goal.returns
returns g c = λ actors info stands.
    let there = c.in_ok-pairs.ensures actors info stands in
    all_below actors c.args.next c.as_slice.result.now c.are_below.result there.1 (c.as_slice.ensures ∙ there.0) c.are_below.ensures
