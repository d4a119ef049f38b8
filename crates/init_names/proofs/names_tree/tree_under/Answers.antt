use Rattle.std.proofs.Common.{ap}
use Rattle.hamt_map.specs.StateFaults.{of_tree}
use Rattle.init_names.proofs.names_tree.tree_under.Goals as goal

pub returns-in-Ok-clause-found : goal.returns-in-Ok-clause-found
returns-in-Ok-clause-found g c = let found = c.in-Ok.ensures.found in (found.0, ap of_tree found.1, found.2)
