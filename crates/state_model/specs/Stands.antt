-- What a tree of actors and names stand for together.
use Rattle.std.specs.Prelude.{List}
use Rattle.cid_core.specs.BlockParts.{BlockParts}
use Rattle.init_names.specs.Stands as of_names
use Rattle.init_names.specs.declared.names.Names.{Names}
use Rattle.state_tree.specs.Stands as of_actors
use Rattle.state_tree.specs.declared.state_tree.StateTree.{StateTree}
use Rattle.state_model.specs.State.{State, init_of}

-- they stand for the actors, the names and what is kept of a state, over a base that holds these blocks
abbrev pub StandFor : StateTree → Names → List BlockParts → State → Type 0
StandFor tree names blocks s = of_actors.Stands tree blocks s.actors s.info × of_names.Stands names blocks (init_of s)
