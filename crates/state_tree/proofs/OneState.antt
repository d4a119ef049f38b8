-- A tree stands for one state at most.
use Rattle.std.proofs.Common.{◌≡◌, ℕ, ◌^◌, ◌<◌, ◌≤◌, List, false, Option, Some, None, nat_eq, inl, inr, refl, sym, ap, ◌∙◌, arith}
use Rattle.std.proofs.lemmas.Bool.{cases_lt}
use Rattle.std.proofs.lemmas.Bool.Decides.{nat_tests}
use Rattle.std.specs.Cmp.{nat_cmp_total}
use Rattle.std.specs.FinMap as finmap
use Rattle.std.specs.FinMap.{entries, get}
use Rattle.std.specs.Option.{option_map}
use Rattle.fil_base.specs.CidParts.{CidParts}
use Rattle.cid_core.specs.BlockParts.{BlockParts}
use Rattle.hamt_map.specs.Stands as hamt
use Rattle.hamt_map.specs.Pairs.{Map}
use Rattle.hamt_map.specs.declared.hamt.Hamt.{Hamt}
use Rattle.state_tree.specs.Actors.{Actors, AreActors, IsActor, actor_record, id_key, records}
use Rattle.state_tree.specs.Over.{over}
use Rattle.state_tree.specs.Stands.{Stands}
use Rattle.state_tree.specs.declared.actor.Actor.{Actor}
use Rattle.state_tree.specs.declared.state_tree.StateTree.{StateTree}
use Rattle.state_tree.proofs.Calls.{apart_is_new, none_read, record_read}
use Rattle.state_tree.proofs.FindRecords.{found_is_actor, get-records}
use Rattle.state_tree.proofs.RecordRead.{actor_of_record}

same_actor : (a b : Option Actor) → ((x : Actor) → a ≡ Some x → IsActor x) → ((x : Actor) → b ≡ Some x → IsActor x) → option_map actor_record a ≡ option_map actor_record b → a ≡ b
same_actor None b are-a are-b is = none_read b is
same_actor (Some x) b are-a are-b is = sym (actor_of_record x (are-a x refl)) ∙ record_read b (actor_record x) is are-b

none_from_2_to_the_63 : (actors : Actors) (id : ℕ) → AreActors actors → 2 ^ 63 ≤ id → get actors id ≡ None
none_from_2_to_the_63 actors id are great =
    finmap.get-entries actors id ∙ apart_is_new id (entries actors) (λ k d within. let small = (are k d within).0 in grind (arith, nat_tests, small, great))

-- records are those of one map of actors at most
pub one_record : (a b : Actors) → AreActors a → AreActors b → records a ≡ records b → a ≡ b
one_record a b are-a are-b is = finmap.same_map nat_cmp_total finmap.nat_cmp-IsAntisymmetric a b (λ id.
    elim (cases_lt id (2 ^ 63)) [
      | inl small ↦ same_actor (get a id) (get b id) (λ x e. found_is_actor a id x are-a e) (λ x e. found_is_actor b id x are-b e)
          (sym (get-records a id small are-a) ∙ (λ i. get (is i) (id_key id)) ∙ get-records b id small are-b)
      | inr great ↦ none_from_2_to_the_63 a id are-a great ∙ sym (none_from_2_to_the_63 b id are-b great)
    ])

-- where a tree of pairs stands for one map at most
pub one_state : ((tree : Hamt) (blocks : List BlockParts) (m n : Map) → hamt.Stands tree blocks m → hamt.Stands tree blocks n → m ≡ n) → (tree : StateTree) (blocks : List BlockParts) (a b : Actors) (i j : CidParts) → Stands tree blocks a i → Stands tree blocks b j → (a ≡ b) × (i ≡ j)
unfolding Stands
one_state one tree blocks a b i j (kept-a, stands-a, are-a, own-a, over-a, linked-i) (kept-b, stands-b, are-b, own-b, over-b, linked-j) =
    (over-a ∙ ap (over tree.changed) (one_record kept-a kept-b are-a are-b (one tree.tree blocks (records kept-a) (records kept-b) stands-a stands-b)) ∙ sym over-b, sym linked-i ∙ linked-j)
