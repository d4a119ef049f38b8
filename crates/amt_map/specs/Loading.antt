-- What the steps of a walk give.
use Rattle.std.specs.Prelude.{◌≡◌, ◌<◌, ℕ, List, ◌++◌, length}
use Rattle.std.specs.declared.result.Result.{Result}
use Rattle.std.specs.declared.result.Result.TheVariants.{Ok, Err}
use Rattle.fil_base.specs.CidParts.{CidParts}
use Rattle.fil_base.specs.Failure.{IfFault}
use Rattle.fil_base.specs.declared.failure.Failure.{Failure}
use Rattle.cid_core.specs.BlockParts.{BlockParts}
use Rattle.dag_cbor.specs.declared.value.Value.{Value}
use Rattle.tree_blocks.specs.declared.fault.TreeFault.{TreeFault}
use Rattle.amt_map.specs.Holds.{FitRoot, spellings}
use Rattle.amt_map.specs.Node.{node}
use Rattle.amt_map.specs.Pairs.{Pairs}
use Rattle.amt_map.specs.Walk.{child_at, node_pairs, with_value}

-- the block under a CID and the value of its bytes
abbrev pub block_value : List BlockParts → CidParts → Result (BlockParts × Value) TreeFault
block_value blocks cid = with_value blocks cid (λ b value. Ok (b, value))

-- the pairs under a child at a height and a first index
abbrev pub child_pairs : List BlockParts → ℕ → ℕ → CidParts → Result Pairs TreeFault
child_pairs blocks height = child_at blocks height (node_pairs blocks height)

-- the pairs that a walk gives stand behind others, spelled
pub record ArePut (walked : Result Pairs TreeFault) (old new : List (ℕ × List ℕ)) : Type 0 where
  pub pairs : Pairs
  pub walk : walked ≡ Ok pairs
  pub same : new ≡ old ++ spellings pairs
  pub fit : FitRoot pairs

-- the fault that a walk gives, unless there was no memory
abbrev pub IsFaultOf : {A : Type 0} → Result A TreeFault → Failure TreeFault → Type 0
IsFaultOf walked failure = IfFault failure (λ fault. walked ≡ Err fault)

-- a walk gives pairs, and not none
pub record HasPairs (walked : Result Pairs TreeFault) : Type 0 where
  pub pairs : Pairs
  pub walk : walked ≡ Ok pairs
  pub some : 0 < length pairs

-- a value is the node at a height of the pairs that a walk gives
abbrev pub IsNodeOf : ℕ → Value → Result Pairs TreeFault → Type 0
IsNodeOf height value walked = (pairs : Pairs) → walked ≡ Ok pairs → value ≡ node height pairs
