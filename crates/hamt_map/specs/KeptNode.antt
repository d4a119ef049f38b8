-- A node that a base holds, with all nodes under it.
use Rattle.std.specs.Prelude.{◌≡◌, ℕ, List, T}
use Rattle.std.specs.FinMap.Entries.{is_sorted}
use Rattle.cid_core.specs.BlockParts.{BlockParts}
use Rattle.dag_cbor.specs.Spelling.{spelled}
use Rattle.hamt_map.specs.Groups.{nodes_of, nodes_under}
use Rattle.hamt_map.specs.Holds.{FitNodes}
use Rattle.hamt_map.specs.Kept.{AreHeld}
use Rattle.hamt_map.specs.Node.{node}
use Rattle.hamt_map.specs.Pairs.{Pairs, key_cmp}

-- bytes are those of the node of pairs by rising key, under which all nodes are held
pub record IsKeptNode (held : List BlockParts) (below : ℕ) (bytes : List ℕ) (pairs : Pairs) : Type 0 where
  pub spells : bytes ≡ spelled (node below pairs)
  pub under : AreHeld held (nodes_under below pairs)
  pub fit : FitNodes pairs
  pub sorted : T (is_sorted key_cmp pairs)

-- all nodes of a group of pairs by rising key are held
pub record IsKeptGroup (held : List BlockParts) (below : ℕ) (group : Pairs) : Type 0 where
  pub nodes : AreHeld held (nodes_of below group)
  pub fit : FitNodes group
  pub sorted : T (is_sorted key_cmp group)
