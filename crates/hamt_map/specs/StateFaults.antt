-- Faults of trees as faults of a state.
use Rattle.std.specs.Prelude.{List}
use Rattle.std.specs.declared.option.Option.{Option}
use Rattle.std.specs.declared.option.Option.TheVariants.{None, Some}
use Rattle.fil_base.specs.CidParts.{CidParts}
use Rattle.cid_core.specs.BlockParts.{BlockParts, found}
use Rattle.dag_cbor.specs.Reading.{whole_at}
use Rattle.dag_cbor.specs.declared.value.Value.{Value}
use Rattle.std.specs.declared.result.Result.{Result}
use Rattle.std.specs.declared.result.Result.TheVariants.{Ok, Err}
use Rattle.fil_base.specs.declared.failure.Failure.{Failure}
use Rattle.fil_base.specs.declared.failure.Failure.TheVariants.{NoMemory, Fault}
use Rattle.tree_blocks.specs.declared.fault.TreeFault.{TreeFault}
use Rattle.tree_blocks.specs.declared.fault.TreeFault.TheVariants as tree
use Rattle.hamt_map.specs.declared.state_fault.StateFault.{StateFault}
use Rattle.hamt_map.specs.declared.state_fault.StateFault.TheVariants as state

-- the same fault
abbrev pub as_state_fault : TreeFault → StateFault
as_state_fault (tree.Missing cid) = state.Missing cid
as_state_fault (tree.Form cid) = state.Form cid
as_state_fault (tree.NotCanonical cid canonical) = state.NotCanonical cid canonical

-- the same failure
abbrev pub same_failure : Failure TreeFault → Failure StateFault
same_failure NoMemory = NoMemory
same_failure (Fault fault) = Fault (as_state_fault fault)

-- what a tree gives, or its fault as one of a state
abbrev pub of_tree : {X : Type 0} → Result X TreeFault → Result X StateFault
of_tree (Ok x) = Ok x
of_tree (Err fault) = Err (as_state_fault fault)

-- the answer of f, or the fault
abbrev pub if_state : {X Y : Type 0} → Result X StateFault → (X → Result Y StateFault) → Result Y StateFault
if_state (Ok x) f = f x
if_state (Err fault) f = Err fault

-- what was read, if it was
abbrev pub given : {X E : Type 0} → Result X E → Option X
given (Ok x) = Some x
given (Err fault) = None

-- the value of the block under a CID
abbrev pub value_under : List BlockParts → CidParts → Result Value StateFault
value_under blocks cid = of_block (found blocks cid) where
  of_value : {F : Type 0} → Result Value F → Result Value StateFault
  of_value (Ok value) = Ok value
  of_value (Err fault) = Err (state.Form cid)

  of_block : Option BlockParts → Result Value StateFault
  of_block None = Err (state.Missing cid)
  of_block (Some b) = of_value (whole_at b.bytes)
