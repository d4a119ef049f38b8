-- What a state tree stands for.
use Rattle.std.specs.Prelude.{◌≡◌, List}
use Rattle.fil_base.specs.CidParts.{CidParts}
use Rattle.cid_core.specs.BlockParts.{BlockParts}
use Rattle.hamt_map.specs.Stands as hamt
use Rattle.state_tree.specs.Actors.{Actors, AreActors, records}
use Rattle.state_tree.specs.Over.{over}
use Rattle.state_tree.specs.declared.state_tree.StateTree.{StateTree}

-- the tree stands for actors, and keeps a link, over a base that holds these blocks: those that were changed lie over
-- those whose records its HAMT has
unfoldable pub Stands : StateTree → List BlockParts → Actors → CidParts → Type 0
Stands tree blocks actors info =
    (kept : Actors) × hamt.Stands tree.tree blocks (records kept) × AreActors kept × AreActors tree.changed
    × (actors ≡ over tree.changed kept) × (tree.info ≡ info)
