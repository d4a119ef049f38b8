-- The state under a root, step by step.
use Rattle.std.proofs.Common.{◌≡◌, List, Option, Result, Ok, Err, sym, ap, ◌∙◌}
use Rattle.std.specs.FinMap.{get}
use Rattle.fil_base.specs.CidParts.{CidParts}
use Rattle.cid_core.specs.BlockParts.{BlockParts}
use Rattle.gas_prices.specs.declared.rules.Codes.{Codes}
use Rattle.hamt_map.specs.StateFaults.{if_state}
use Rattle.hamt_map.specs.declared.state_fault.StateFault.{StateFault}
use Rattle.init_names.specs.Names.{InitState}
use Rattle.state_model.specs.State.{State}
use Rattle.state_model.specs.StateAt.{init_under, opened, state_at}
use Rattle.state_tree.specs.Actors.{Actors}
use Rattle.state_tree.specs.Reading.{actors_at}
use Rattle.state_tree.specs.declared.actor.Actor.{Actor}

-- what follows the actors, and what follows the names
abbrev after_actors : List BlockParts → Actors × CidParts → Result State StateFault
after_actors blocks found = if_state (init_under blocks (get found.0 1)) (λ init. Ok (opened found init))

abbrev after_names : Actors × CidParts → InitState → Result State StateFault
after_names found init = Ok (opened found init)

module _ (blocks : List BlockParts) (root : CidParts) (codes : Codes) where
  pub no_actors : (fault : StateFault) → actors_at blocks root codes ≡ Err fault → state_at blocks root codes ≡ Err fault
  no_actors fault is = ap (λ (r : Result (Actors × CidParts) StateFault). if_state r (after_actors blocks)) is

  pub with_actors : (actors : Actors) (info : CidParts) → actors_at blocks root codes ≡ Ok (actors, info)
      → state_at blocks root codes ≡ if_state (init_under blocks (get actors 1)) (after_names (actors, info))
  with_actors actors info is = ap (λ (r : Result (Actors × CidParts) StateFault). if_state r (after_actors blocks)) is

  pub no_names : (actors : Actors) (info : CidParts) (o : Option Actor) (fault : StateFault) → actors_at blocks root codes ≡ Ok (actors, info) → o ≡ get actors 1 → init_under blocks o ≡ Err fault
      → state_at blocks root codes ≡ Err fault
  no_names actors info o fault found is none =
      with_actors actors info found ∙ ap (λ (r : Result InitState StateFault). if_state r (after_names (actors, info))) (ap (init_under blocks) (sym is) ∙ none)

  pub with_names : (actors : Actors) (info : CidParts) (o : Option Actor) (init : InitState) → actors_at blocks root codes ≡ Ok (actors, info) → o ≡ get actors 1 → init_under blocks o ≡ Ok init
      → state_at blocks root codes ≡ Ok (opened (actors, info) init)
  with_names actors info o init found is there =
      with_actors actors info found ∙ ap (λ (r : Result InitState StateFault). if_state r (after_names (actors, info))) (ap (init_under blocks) (sym is) ∙ there)

-- there is one
pub same_ok : {A E : Type 0} (r : Result A E) (x y : A) → r ≡ Ok x → r ≡ Ok y → x ≡ y
same_ok r x y a b = cc
