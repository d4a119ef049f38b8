-- What the steps of a walk give.
use Rattle.std.specs.Prelude.{◌≡◌, ℕ, zero, suc, List}
use Rattle.std.specs.FinMap.{from_entries}
use Rattle.std.specs.declared.result.Result.{Result}
use Rattle.std.specs.declared.result.Result.TheVariants.{Ok, Err}
use Rattle.fil_base.specs.CidParts.{CidParts}
use Rattle.fil_base.specs.Failure.{IfFault}
use Rattle.fil_base.specs.declared.failure.Failure.{Failure}
use Rattle.cid_core.specs.BlockParts.{BlockParts}
use Rattle.hamt_map.specs.Pairs.{Map}
use Rattle.hamt_map.specs.Holds.{Holds}
use Rattle.tree_blocks.specs.Judging.{if_ok}
use Rattle.hamt_map.specs.Walk.{Pointer, Bucket, Child, gathered, walk}
use Rattle.tree_blocks.specs.declared.fault.TreeFault.{TreeFault}
use Rattle.tree_blocks.specs.declared.fault.TreeFault.TheVariants.{Form}

-- the map under a child of a node with so many levels below
abbrev pub walk_child : List BlockParts → ℕ → CidParts → Result Map TreeFault
walk_child blocks zero cid = Err (Form cid)
walk_child blocks (suc below) cid = walk blocks below cid

-- the map under a pointer, where a child gives a map
abbrev pub map_under : (CidParts → Result Map TreeFault) → Pointer → Result Map TreeFault
map_under child (Bucket pairs) = Ok (from_entries pairs)
map_under child (Child cid) = child cid

-- the map under pointers; of a key that is met twice the first value counts
abbrev pub gathered_map : (CidParts → Result Map TreeFault) → List Pointer → Result Map TreeFault
gathered_map child pointers = if_ok (gathered child pointers) (λ pairs. Ok (from_entries pairs))

-- the pairs of the map that a walk gives
abbrev pub AreFound : Result Map TreeFault → List (List ℕ × List ℕ) → Type 0
AreFound walked pairs = (m : Map) × (walked ≡ Ok m) × Holds pairs m

-- the fault that a walk gives, unless there was no memory
abbrev pub IsFaultOf : Result Map TreeFault → Failure TreeFault → Type 0
IsFaultOf walked failure = IfFault failure (λ fault. walked ≡ Err fault)
