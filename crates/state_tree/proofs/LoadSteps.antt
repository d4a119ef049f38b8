-- Steps of reading a state.
use Rattle.std.proofs.Common.{◌≡◌, ℕ, List, Bool, true, false, Option, Some, None, Result, Ok, Err, IfErr, refl, sym, ap, subst, ◌∙◌}
use Rattle.std.proofs.lemmas.Result.{err_from_is_err_and}
use Rattle.std.specs.Prelude.{IsErrAnd}
use Rattle.std.specs.FinMap.{empty, entries, from_entries}
use Rattle.fil_base.specs.CidParts.{CidParts}
use Rattle.fil_base.specs.Failure.{IfFault}
use Rattle.fil_base.specs.declared.failure.Failure.{Failure}
use Rattle.fil_base.specs.declared.failure.Failure.TheVariants.{NoMemory, Fault}
use Rattle.cid_core.specs.BlockParts.{BlockParts}
use Rattle.dag_cbor.specs.declared.value.Value.{Value}
use Rattle.gas_prices.specs.declared.rules.Codes.{Codes}
use Rattle.hamt_map.specs.Pairs.{Map, Pairs}
use Rattle.hamt_map.specs.StateFaults.{if_state, of_tree, value_under}
use Rattle.hamt_map.specs.Stands as hamt
use Rattle.hamt_map.specs.Walk.{hamt_at}
use Rattle.hamt_map.specs.declared.state_fault.StateFault.{StateFault}
use Rattle.state_tree.specs.Actors.{Actors, AreActors, records}
use Rattle.state_tree.specs.ActorPairs.{IfPairs}
use Rattle.state_tree.specs.Reading.{actors_at, actors_under, pair_in, root_links, with_own_actors}
use Rattle.tree_blocks.specs.Forms.{for_each}
use Rattle.state_tree.specs.Stands.{Stands}
use Rattle.state_tree.specs.declared.root.RootLinks.{RootLinks}
use Rattle.state_tree.specs.declared.state_tree.StateTree.{StateTree}
use Rattle.state_tree.proofs.Calls.{stands_for}
use Rattle.state_tree.proofs.FindRecords.{AreActors-from_entries, map_of_records, pairs_of_actors}

-- ---- faults

-- a fault that a `?` passes on
pub fault_through : {T : Type 0} {P Q : StateFault → Type 0} (failure : Failure StateFault) (result : Result T (Failure StateFault)) → ((fault : StateFault) → P fault → Q fault) → IfFault failure P
    → IsErrAnd result (λ f. f ≡ failure) → IfErr result (λ f. IfFault f Q)
fault_through {P = P} {Q = Q} failure result through holds failed =
    let back = err_from_is_err_and result failed in
    rw (back.1, back.2) (by failure holds)
  where
    by : (f : Failure StateFault) → IfFault f P → IfFault f Q
    by NoMemory h = tt
    by (Fault fault) h = through fault h

-- ---- reading in steps

apart : {X Y Z : Type 0} (r : Result X StateFault) (f : X → Result Y StateFault) (g : Y → Result Z StateFault) → if_state r (λ x. if_state (f x) g) ≡ if_state (if_state r f) g
apart (Ok x) f g = refl
apart (Err fault) f g = refl

-- the links of the root are read first
links_first : (blocks : List BlockParts) (root : CidParts) (codes : Codes) → actors_at blocks root codes
    ≡ if_state (if_state (value_under blocks root) (root_links root)) (λ links. if_state (actors_under blocks links.actors) (λ all. if_state (with_own_actors codes all) (λ actors. Ok (actors, links.info))))
unfolding actors_at
links_first blocks root codes = apart (value_under blocks root) (root_links root) _

pub root_fault : (blocks : List BlockParts) (root : CidParts) (codes : Codes) (fault : StateFault) → if_state (value_under blocks root) (root_links root) ≡ Err fault → actors_at blocks root codes ≡ Err fault
root_fault blocks root codes fault is = links_first blocks root codes ∙ ap (λ (r : Result RootLinks StateFault). if_state r (λ links. if_state (actors_under blocks links.actors) (λ all. if_state (with_own_actors codes all) (λ actors. Ok (actors, links.info))))) is

actors_next : (blocks : List BlockParts) (root : CidParts) (codes : Codes) (links : RootLinks) → if_state (value_under blocks root) (root_links root) ≡ Ok links
    → actors_at blocks root codes ≡ if_state (actors_under blocks links.actors) (λ all. if_state (with_own_actors codes all) (λ actors. Ok (actors, links.info)))
actors_next blocks root codes links is = links_first blocks root codes ∙ ap (λ (r : Result RootLinks StateFault). if_state r (λ ls. if_state (actors_under blocks ls.actors) (λ all. if_state (with_own_actors codes all) (λ actors. Ok (actors, ls.info))))) is

pub tree_fault : (blocks : List BlockParts) (root : CidParts) (codes : Codes) (links : RootLinks) (fault : StateFault) → if_state (value_under blocks root) (root_links root) ≡ Ok links
    → actors_under blocks links.actors ≡ Err fault → actors_at blocks root codes ≡ Err fault
tree_fault blocks root codes links fault is none =
    actors_next blocks root codes links is ∙ ap (λ (r : Result Actors StateFault). if_state r (λ all. if_state (with_own_actors codes all) (λ actors. Ok (actors, links.info)))) none

own_last : (blocks : List BlockParts) (root : CidParts) (codes : Codes) (links : RootLinks) (actors : Actors) → if_state (value_under blocks root) (root_links root) ≡ Ok links
    → actors_under blocks links.actors ≡ Ok actors → actors_at blocks root codes ≡ if_state (with_own_actors codes actors) (λ own. Ok (own, links.info))
own_last blocks root codes links actors is under =
    actors_next blocks root codes links is ∙ ap (λ (r : Result Actors StateFault). if_state r (λ all. if_state (with_own_actors codes all) (λ own. Ok (own, links.info)))) under

pub own_fault : (blocks : List BlockParts) (root : CidParts) (codes : Codes) (links : RootLinks) (actors : Actors) (fault : StateFault) → if_state (value_under blocks root) (root_links root) ≡ Ok links
    → actors_under blocks links.actors ≡ Ok actors → with_own_actors codes actors ≡ Err fault → actors_at blocks root codes ≡ Err fault
own_fault blocks root codes links actors fault is under none =
    own_last blocks root codes links actors is under ∙ ap (λ (r : Result Actors StateFault). if_state r (λ own. Ok (own, links.info))) none

pub all_read : (blocks : List BlockParts) (root : CidParts) (codes : Codes) (links : RootLinks) (actors : Actors) → if_state (value_under blocks root) (root_links root) ≡ Ok links
    → actors_under blocks links.actors ≡ Ok actors → with_own_actors codes actors ≡ Ok actors → actors_at blocks root codes ≡ Ok (actors, links.info)
all_read blocks root codes links actors is under own =
    own_last blocks root codes links actors is under ∙ ap (λ (r : Result Actors StateFault). if_state r (λ all. Ok (all, links.info))) own

-- ---- the tree's pairs

-- a tree whose pairs are keys with records stands for the actors
pub tree_of_actors : (tree : StateTree) (blocks : List BlockParts) (root info : CidParts) (m : Map) (pairs : Pairs) (b : Bool) → hamt_at blocks root ≡ Ok m → hamt.Stands tree.tree blocks m → pairs ≡ entries m
    → IfPairs b pairs → b ≡ true → tree.changed ≡ empty → tree.info ≡ info → (actors : Actors) × (actors_under blocks root ≡ Ok actors) × Stands tree blocks actors info
tree_of_actors tree blocks root info m pairs true walked stands is (es, read, are) yes_it_is unchanged kept =
    let same = sym is ∙ pairs_of_actors pairs es read in
    let known = ap (λ (ps : Pairs). for_each pair_in ps) (sym is) ∙ read in
    (from_entries es, rw (walked, known) refl, stands_for tree blocks (from_entries es) info m stands (map_of_records m es are same) (AreActors-from_entries es are) unchanged kept)
tree_of_actors tree blocks root info m pairs false walked stands is none yes_it_is unchanged kept = absurd (cc)
