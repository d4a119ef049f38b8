use Rattle.init_names.proofs.TwoNames.{two_names}
use Rattle.init_names.proofs.tests.a_state_is_made.Goals as goal

pub init_blocks-requires-clause-distinct : goal.init_blocks-requires-clause-distinct
init_blocks-requires-clause-distinct g c = rw (c.of-names.ensures, c.in_ok-vec.ensures.items) (two_names _ _)
