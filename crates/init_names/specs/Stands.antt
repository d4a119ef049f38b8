-- What a tree of names stands for.
use Rattle.std.specs.Prelude.{◌≡◌, List}
use Rattle.cid_core.specs.BlockParts.{BlockParts}
use Rattle.hamt_map.specs.Stands as hamt
use Rattle.init_names.specs.Names.{InitState, IsInitState, named}
use Rattle.init_names.specs.declared.names.Names.{Names}

-- the names stand for a state of the init actor, over a base that holds these blocks
unfoldable pub Stands : Names → List BlockParts → InitState → Type 0
Stands names blocks s =
    hamt.Stands names.tree blocks (named s.names) × (names.next ≡ s.next) × (names.network ≡ s.network) × IsInitState s
