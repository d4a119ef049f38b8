-- A walk over the nodes of a tree, which gives what the tree stands for or its first fault.
use Rattle.std.specs.Prelude.{◌&&◌, Bool, nat_eq}
use Rattle.std.specs.Cmp.Lexicographic.{pointwise}
use Rattle.std.specs.declared.result.Result.{Result}
use Rattle.std.specs.declared.result.Result.TheVariants.{Ok, Err}
use Rattle.fil_base.specs.CidEquality.{same_parts}
use Rattle.cid_core.specs.BlockParts.{BlockParts}
use Rattle.tree_blocks.specs.declared.fault.TreeFault.{TreeFault}

-- the answer of f, or the fault
abbrev pub if_ok : {A B : Type 0} → Result A TreeFault → (A → Result B TreeFault) → Result B TreeFault
if_ok (Ok x) f = f x
if_ok (Err fault) f = Err fault

-- the same CID, and the same bytes
abbrev pub same_block : BlockParts → BlockParts → Bool
same_block a b = same_parts a.cid b.cid && pointwise nat_eq a.bytes b.bytes
