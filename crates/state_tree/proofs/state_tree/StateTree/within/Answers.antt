use Rattle.std.proofs.Common.{◌∙◌}
use Rattle.fil_base.specs.declared.token.TheConstants.{GREATEST_AMOUNT}
use Rattle.state_tree.proofs.Calls.{all_within}
use Rattle.state_tree.proofs.state_tree.StateTree.within.Goals as goal

pub returns : goal.returns
returns g c = λ actors info stands.
    let there = c.in_ok-pairs.ensures actors info stands in
    all_within actors c.args.awards GREATEST_AMOUNT c.as_slice.result.now c.are_within.result there.1 (c.as_slice.ensures ∙ there.0) c.are_within.ensures
