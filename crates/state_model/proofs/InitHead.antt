-- The actors of a state with the init actor's new head.
use Rattle.std.proofs.Common.{◌≡◌, ℕ, ◌+◌, ◌<◌, ◌^◌, cond, length, Some, None, Option, refl, sym, ap, subst, ◌∙◌, lit<, arith}
use Rattle.std.specs.Prelude.{is_some}
use Rattle.std.specs.Cmp.{nat_cmp_total}
use Rattle.std.specs.FinMap as finmap
use Rattle.std.specs.FinMap.{entries, get, insert, len}
use Rattle.std.specs.Ordering.{eq_by_cmp, nat_cmp}
use Rattle.cid_core.proofs.Digests.{IsCid-cid_of}
use Rattle.dag_cbor.specs.Spelling.{spelled}
use Rattle.hamt_map.specs.Node.{hamt_root}
use Rattle.init_names.specs.Names.{init_head, named, parts_value}
use Rattle.state_tree.specs.Actors.{Actors, AreActors, IsActor}
use Rattle.state_tree.specs.declared.actor.Actor.{Actor}
use Rattle.state_tree.proofs.FindRecords.{AreActors-insert, found_is_actor}
use Rattle.state_model.specs.State.{HaveCount, IsState, State, init_of, with_init_head}

-- an actor with the head that is the init actor's in a state
abbrev pub headed : State → Actor → Actor
headed s init = record init { head = init_head (init_of s) }

pub head_is_put : (s : State) (init : Actor) → get s.actors 1 ≡ Some init → with_init_head s ≡ insert s.actors 1 (headed s init)
head_is_put s init there = rw there refl

pub no_head_is_put : (s : State) → get s.actors 1 ≡ None → with_init_head s ≡ s.actors
no_head_is_put s none = rw none refl

-- ---- where there is an init actor

get_with_head : (s : State) (init : Actor) (id : ℕ) → get s.actors 1 ≡ Some init → get (with_init_head s) id ≡ cond (eq_by_cmp nat_cmp id 1) (Some (headed s init)) (get s.actors id)
get_with_head s init id there = ap (λ (actors : Actors). get actors id) (head_is_put s init there) ∙ finmap.get-insert nat_cmp_total s.actors 1 (headed s init) id

pub init_has_head : (s : State) (init : Actor) → get s.actors 1 ≡ Some init → get (with_init_head s) 1 ≡ Some (headed s init)
init_has_head s init there = get_with_head s init 1 there

pub reward_is_same : (s : State) (init : Actor) → get s.actors 1 ≡ Some init → get (with_init_head s) 2 ≡ get s.actors 2
reward_is_same s init there = get_with_head s init 2 there

pub burnt_is_same : (s : State) (init : Actor) → get s.actors 1 ≡ Some init → get (with_init_head s) 99 ≡ get s.actors 99
burnt_is_same s init there = get_with_head s init 99 there

headed_is_actor : (s : State) (init : Actor) → IsActor init → IsActor (headed s init)
headed_is_actor s init is = record {
  code = is.code;
  head = IsCid-cid_of 0x71 (spelled (parts_value (hamt_root (named s.names)) s.next s.network)) (lit< tt);
  sequence = is.sequence;
  balance = is.balance;
}

pub are_actors : (s : State) (init : Actor) → IsState s → get s.actors 1 ≡ Some init → AreActors (with_init_head s)
are_actors s init is there =
    subst AreActors (sym (head_is_put s init there)) (AreActors-insert s.actors 1 (headed s init) (lit< tt) (headed_is_actor s init (found_is_actor s.actors 1 init is.actors there)) is.actors)

pub actors_are_few : (s : State) (init : Actor) → HaveCount s → get s.actors 1 ≡ Some init → length (entries (with_init_head s)) < 2 ^ 64
actors_are_few s init few there =
    let same : len (insert s.actors 1 (headed s init)) ≡ len s.actors = finmap.len-insert nat_cmp_total s.actors 1 (headed s init) ∙ ap (λ (o : Option Actor). cond (is_some o) (len s.actors) (len s.actors + 1)) there in
    let before = finmap.len-entries s.actors in
    let after = finmap.len-entries (insert s.actors 1 (headed s init)) in
    let put = ap (λ (actors : Actors). length (entries actors)) (head_is_put s init there) in
    let small = few.actors in
    omega (arith, same, before, after, put, small)
