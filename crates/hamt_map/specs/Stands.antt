-- What a tree stands for.
use Rattle.std.specs.Prelude.{◌≡◌, List}
use Rattle.cid_core.specs.BlockParts.{BlockParts}
use Rattle.hamt_map.specs.Holds.{Holds}
use Rattle.hamt_map.specs.Kept.{IsUnder, over}
use Rattle.hamt_map.specs.Pairs.{Map}
use Rattle.hamt_map.specs.declared.hamt.Hamt.{Hamt}

-- the tree stands for a map, over a base that holds these blocks: its pairs lie over those of the tree under its root
unfoldable pub Stands : Hamt → List BlockParts → Map → Type 0
Stands tree blocks m =
    (own : Map) × (kept : Map) × Holds tree.pairs own × IsUnder blocks tree.root kept × (m ≡ over own kept)
