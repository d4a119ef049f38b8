use Rattle.std.proofs.Common.{◌∙◌}
use Rattle.init_names.specs.Names.{named}
use Rattle.init_names.specs.Stands.{Stands}
use Rattle.init_names.proofs.names.Names.copy.Goals as goal

pub returns : goal.returns
unfolding Stands
returns c = λ blocks s stands.
    (c.in_ok-tree.ensures blocks (named s.names) stands.0, stands.1, c.of.ensures.value ∙ (c.in_ok-network.ensures ∙ (c.as_slice.ensures.value ∙ stands.2)), stands.3)
