-- The state under a root, or its first fault: first of the actors, then of the init actor's state and the names.
use Rattle.std.specs.Prelude.{List, []}
use Rattle.std.specs.FinMap.{get}
use Rattle.std.specs.declared.option.Option.{Option}
use Rattle.std.specs.declared.option.Option.TheVariants.{None, Some}
use Rattle.std.specs.declared.result.Result.{Result}
use Rattle.std.specs.declared.result.Result.TheVariants.{Ok, Err}
use Rattle.fil_base.specs.CidParts.{CidParts}
use Rattle.cid_core.specs.BlockParts.{BlockParts}
use Rattle.gas_prices.specs.declared.rules.Codes.{Codes}
use Rattle.hamt_map.specs.StateFaults.{if_state}
use Rattle.hamt_map.specs.declared.state_fault.StateFault.{StateFault}
use Rattle.hamt_map.specs.declared.state_fault.StateFault.TheVariants.{Actor as NoActor}
use Rattle.init_names.specs.Names.{InitState}
use Rattle.init_names.specs.Reading.{init_at}
use Rattle.state_tree.specs.Actors.{Actors}
use Rattle.state_tree.specs.Reading.{actors_at}
use Rattle.state_tree.specs.declared.actor.Actor.{Actor}
use Rattle.state_model.specs.State.{State}

-- actors and a kept link with the state of the init actor; nothing was made, minted or burned yet
abbrev pub opened : Actors × CidParts → InitState → State
opened found init = record {
  actors = found.0;
  names = init.names;
  next = init.next;
  network = init.network;
  info = found.1;
  made = [];
  minted = 0;
  burned = 0;
}

-- the state of the init actor, under its head
abbrev pub init_under : List BlockParts → Option Actor → Result InitState StateFault
init_under blocks None = Err (NoActor 1)
init_under blocks (Some init) = init_at blocks init.head

-- the state under a root
abbrev pub state_at : List BlockParts → CidParts → Codes → Result State StateFault
state_at blocks root codes =
    if_state (actors_at blocks root codes) (λ found. if_state (init_under blocks (get found.0 1)) (λ init. Ok (opened found init)))
