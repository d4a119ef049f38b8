-- What a tree stands for.
use Rattle.std.specs.Prelude.{List}
use Rattle.cid_core.specs.BlockParts.{BlockParts}
use Rattle.amt_map.specs.Holds.{Holds}
use Rattle.amt_map.specs.Pairs.{Map}
use Rattle.amt_map.specs.declared.amt.Amt.{Amt}

-- the tree stands for a map, over a base that holds any blocks
unfoldable pub Stands : Amt → List BlockParts → Map → Type 0
Stands tree blocks m = Holds tree.pairs m
