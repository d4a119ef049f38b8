-- The blocks of a file.
use Rattle.std.specs.Prelude.{List, [], ◌∷◌, ◌++◌, if◌then◌else◌, is_some}
use Rattle.cid_core.specs.BlockParts.{BlockParts, block_of, found}

-- the block of the empty list, in DAG-CBOR (code 71)
abbrev pub empty_list : BlockParts
empty_list = block_of 0x71 (0x80 ∷ [])

-- the blocks, and that of the empty list behind them where none has its CID
abbrev pub base_of : List BlockParts → List BlockParts
base_of blocks = if is_some (found blocks empty_list.cid) then blocks else blocks ++ (empty_list ∷ [])
