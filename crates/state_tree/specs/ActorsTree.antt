-- The blocks of a state's actors.
use Rattle.std.specs.Prelude.{List, [], ◌∷◌, ◌++◌, pos}
use Rattle.fil_base.specs.CidParts.{CidParts}
use Rattle.cid_core.specs.BlockParts.{BlockParts, block_of}
use Rattle.dag_cbor.specs.Spelling.{spelled}
use Rattle.dag_cbor.specs.declared.value.Value.{Value}
use Rattle.dag_cbor.specs.declared.value.Value.TheVariants as v
use Rattle.hamt_map.specs.Node.{hamt_nodes, hamt_root}
use Rattle.state_tree.specs.Actors.{Actors, records}

-- the root of a state: its version, 4, the root of the actors' tree, and a link that is kept
abbrev pub root_value : Actors → CidParts → Value
root_value actors info = v.List (v.Int (pos 4) ∷ v.Link (hamt_root (records actors)) ∷ v.Link info ∷ [])

-- its block
abbrev pub root_block : Actors → CidParts → BlockParts
root_block actors info = block_of 0x71 (spelled (root_value actors info))

-- the nodes of the actors' tree, and the root's block last
abbrev pub actors_nodes : Actors → CidParts → List BlockParts
actors_nodes actors info = hamt_nodes (records actors) ++ (root_block actors info ∷ [])

-- the CID of the root
abbrev pub actors_root : Actors → CidParts → CidParts
actors_root actors info = (root_block actors info).cid
