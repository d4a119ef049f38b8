-- The state that is kept from one tipset to the next.
use Rattle.std.specs.Prelude.{◌≡◌, List}
use Rattle.std.specs.declared.result.Result.TheVariants.{Ok}
use Rattle.cid_core.specs.BlockParts.{BlockParts}
use Rattle.gas_prices.specs.declared.rules.Codes.{Codes}
use Rattle.state_model.specs.State.{State}
use Rattle.state_model.specs.StateAt.{state_at}
use Rattle.tipset_exec.specs.Opens.{Opens}
use Rattle.fvm_run.specs.declared.kept_state.KeptState.{KeptState}

-- it is the state under its root, over a base that holds these blocks
abbrev pub IsKept : List BlockParts → Codes → KeptState → Type 0
IsKept blocks codes kept = (s : State) × (state_at blocks kept.root codes ≡ Ok s) × Opens kept.opening blocks s
