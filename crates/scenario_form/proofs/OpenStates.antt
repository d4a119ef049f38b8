-- A state that is loaded.
use Rattle.std.proofs.Common.{◌≡◌, List, Option, Some, Result, Ok, ap, ◌∙◌}
use Rattle.std.specs.FinMap.{get}
use Rattle.fil_base.specs.CidParts.{CidParts}
use Rattle.cid_core.specs.BlockParts.{BlockParts}
use Rattle.gas_prices.specs.declared.rules.Codes.{Codes}
use Rattle.hamt_map.specs.StateFaults.{if_state}
use Rattle.hamt_map.specs.declared.state_fault.StateFault.{StateFault}
use Rattle.init_names.specs.Names.{InitState}
use Rattle.init_names.specs.Reading.{init_at}
use Rattle.state_tree.specs.Actors.{Actors}
use Rattle.state_tree.specs.Reading.{actors_at}
use Rattle.state_tree.specs.declared.actor.Actor.{Actor}
use Rattle.state_model.specs.StateAt.{init_under, opened, state_at}

pub state_found : (blocks : List BlockParts) (root : CidParts) (codes : Codes) (actors : Actors) (info : CidParts) (init : Actor) (s : InitState) → actors_at blocks root codes ≡ Ok (actors, info) → get actors 1 ≡ Some init
    → init_at blocks init.head ≡ Ok s → state_at blocks root codes ≡ Ok (opened (actors, info) s)
state_found blocks root codes actors info init s one two three =
    ap (λ (r : Result (Actors × CidParts) StateFault). if_state r (λ found. if_state (init_under blocks (get found.0 1)) (λ state. Ok (opened found state)))) one
    ∙ ap (λ (o : Option Actor). if_state (init_under blocks o) (λ state. Ok (opened (actors, info) state))) two ∙ ap (λ (r : Result InitState StateFault). if_state r (λ state. Ok (opened (actors, info) state))) three
