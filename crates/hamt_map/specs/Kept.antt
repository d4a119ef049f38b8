-- A tree of a base, of which the root alone is kept, and pairs that lie over it.
use Rattle.std.specs.Prelude.{◌≡◌, ℕ, List, ◌++◌, All}
use Rattle.std.specs.FinMap.{empty, entries}
use Rattle.std.specs.declared.option.Option.{Option}
use Rattle.std.specs.declared.option.Option.TheVariants.{None, Some}
use Rattle.std.specs.declared.result.Result.TheVariants.{Ok}
use Rattle.fil_base.specs.CidParts.{CidParts}
use Rattle.cid_core.specs.BlockParts.{BlockParts, found}
use Rattle.hamt_map.specs.Canonical.{map_of}
use Rattle.hamt_map.specs.Holds.{FitNodes, Holds}
use Rattle.hamt_map.specs.Node.{hamt_nodes, hamt_root}
use Rattle.hamt_map.specs.Pairs.{Map}
use Rattle.hamt_map.specs.Walk.{hamt_at}

-- each of the blocks is the first under its CID
abbrev pub AreHeld : List BlockParts → List BlockParts → Type 0
AreHeld held blocks = All (λ b. found held b.cid ≡ Some b) blocks

-- under a root is the tree of a map, all of whose nodes are held
pub record IsKept (held : List BlockParts) (root : CidParts) (m : Map) : Type 0 where
  pub walk : hamt_at held root ≡ Ok m
  pub top : root ≡ hamt_root m
  pub nodes : AreHeld held (hamt_nodes m)
  pub fit : FitNodes (entries m)

-- the map under a root, or that of no pairs where there is no root
abbrev pub IsUnder : List BlockParts → Option CidParts → Map → Type 0
IsUnder held None m = m ≡ empty
IsUnder held (Some root) m = IsKept held root m

-- pairs, and under them those of another map, whose values count where a key has none above
abbrev pub over : Map → Map → Map
over own m = map_of (entries own ++ entries m)

-- a tree was judged: it can be kept by its root, or its pairs are these
abbrev pub IsJudged : List BlockParts → CidParts → Option (List (List ℕ × List ℕ)) → Type 0
IsJudged held root None = (m : Map) × IsKept held root m
IsJudged held root (Some pairs) = (m : Map) × (hamt_at held root ≡ Ok m) × Holds pairs m
