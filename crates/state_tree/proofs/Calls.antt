-- What the calls of a tree give.
use Rattle.std.proofs.Common.{◌≡◌, ℕ, zero, suc, ◌+◌, ◌^◌, ◌<◌, List, [], ◌∷◌, ◌++◌, Bool, true, false, cond, length, map, take, get_or, Option, Some, None, Result, Ok, Err, IfOk, OnErr, nat_eq, refl, sym, ap, subst, ◌∙◌, arith}
use Rattle.std.proofs.lemmas.Bool.Decides.{nat_tests}
use Rattle.std.proofs.lemmas.List.{get_or-map, get_or-take, length-map, length-take, take_more}
use Rattle.std.proofs.lemmas.Map.Keys.{apart_from_distinct}
use Rattle.std.specs.Prelude.{nat_le, nat_lt}
use Rattle.std.specs.Cmp.{eq_by_cmp_equiv, nat_cmp_total}
use Rattle.std.specs.FinMap as finmap
use Rattle.std.specs.FinMap.{empty, entries, from_entries, get, insert, remove}
use Rattle.std.specs.FinMap.Entries.{find}
use Rattle.std.specs.List.{IsDistinct, list_all, sum_by}
use Rattle.std.specs.Option.{option_map}
use Rattle.std.specs.Ordering.{eq_by_cmp, nat_cmp}
use Rattle.fil_base.specs.CidParts.{CidParts}
use Rattle.cid_core.specs.BlockParts.{BlockParts}
use Rattle.dag_cbor.specs.declared.value.Value.{Value}
use Rattle.hamt_map.specs.Pairs.{Map, Pairs}
use Rattle.hamt_map.specs.Stands as hamt
use Rattle.hamt_map.specs.declared.hamt.Hamt.{Hamt}
use Rattle.state_tree.specs.Actors.{Actors, AreActors, IsActor, actor_record, balances, id_key, records}
use Rattle.state_tree.specs.ActorPairs.{balance_in, is_below}
use Rattle.state_tree.specs.Reading.{actor_in, id_in}
use Rattle.state_tree.specs.Over.{over}
use Rattle.state_tree.specs.Stands.{Stands}
use Rattle.state_tree.specs.declared.actor.Actor.{Actor}
use Rattle.state_tree.specs.declared.state_tree.StateTree.{StateTree}
use Rattle.state_tree.proofs.FindRecords.{AreActors-empty, AreActors-insert, AreActors-remove, found_is_actor, get-records, records-empty, records-insert, records-remove}
use Rattle.state_tree.proofs.Over.{balances_of_records, ids_of_records}
use Rattle.state_tree.proofs.Overlay.{AreActors-over, found_above, found_below, over_insert, over_nothing, over_remove}
use Rattle.state_tree.proofs.RecordRead.{actor_of_record}

-- ---- what a tree stands for

-- nothing was changed
pub stands_for : (tree : StateTree) (blocks : List BlockParts) (actors : Actors) (info : CidParts) (m : Map) → hamt.Stands tree.tree blocks m → m ≡ records actors → AreActors actors → tree.changed ≡ empty
    → tree.info ≡ info → Stands tree blocks actors info
unfolding Stands
stands_for tree blocks actors info m stands is are none kept =
    (actors, subst (hamt.Stands tree.tree blocks) is stands, are, subst AreActors (sym none) AreActors-empty, sym (ap (λ (c : Actors). over c actors) none ∙ over_nothing actors), kept)

pub stands_for_none : (tree : StateTree) (blocks : List BlockParts) (info : CidParts) → hamt.Stands tree.tree blocks empty → tree.changed ≡ empty → tree.info ≡ info → Stands tree blocks empty info
stands_for_none tree blocks info stands none kept = stands_for tree blocks empty info empty stands (sym records-empty) AreActors-empty none kept

pub stands_copied : (tree copy : StateTree) (blocks : List BlockParts) (actors : Actors) (info : CidParts) → Stands tree blocks actors info
    → ((m : Map) → hamt.Stands tree.tree blocks m → hamt.Stands copy.tree blocks m) → copy.changed ≡ tree.changed → copy.info ≡ tree.info → Stands copy blocks actors info
unfolding Stands
stands_copied tree copy blocks actors info (kept, stands, are, are-changed, is, same) step changed linked =
    (kept, step (records kept) stands, are, subst AreActors (sym changed) are-changed, is ∙ sym (ap (λ (c : Actors). over c kept) changed), linked ∙ same)

pub are_of : (tree : StateTree) (blocks : List BlockParts) (actors : Actors) (info : CidParts) → Stands tree blocks actors info → AreActors actors
unfolding Stands
are_of tree blocks actors info (kept, stands, are, are-changed, is, same) = subst AreActors (sym is) (AreActors-over tree.changed kept are-changed are)

-- nothing was changed: the tree has the records of all
pub unchanged_records : (tree : StateTree) (blocks : List BlockParts) (actors : Actors) (info : CidParts) → Stands tree blocks actors info → tree.changed ≡ empty → hamt.Stands tree.tree blocks (records actors)
unfolding Stands
unchanged_records tree blocks actors info (kept, stands, are, are-changed, is, same) none =
    subst (λ (m : Actors). hamt.Stands tree.tree blocks (records m)) (sym (is ∙ ap (λ (c : Actors). over c kept) none ∙ over_nothing kept)) stands

pub pairs_and_actors : {E : Type 0} (result : Result Pairs E) (actors : Actors) → AreActors actors → IfOk result (λ pairs. pairs ≡ entries (records actors)) → IfOk result (λ pairs. (pairs ≡ entries (records actors)) × AreActors actors)
pairs_and_actors (Ok pairs) actors are is = (is, are)
pairs_and_actors (Err e) actors are is = tt

pub on_err_any : {A E P : Type 0} (result : Result A E) → P → OnErr result P
on_err_any (Ok x) p = tt
on_err_any (Err e) p = p

pub info_of : (tree : StateTree) (blocks : List BlockParts) (actors : Actors) (info : CidParts) → Stands tree blocks actors info → tree.info ≡ info
unfolding Stands
info_of tree blocks actors info stands = stands.5

-- the changed actors are written
pub settled_records : (tree : StateTree) (after : Hamt) (blocks : List BlockParts) (actors : Actors) (info : CidParts) → Stands tree blocks actors info
    → ((kept : Actors) → AreActors kept → hamt.Stands tree.tree blocks (records kept) → hamt.Stands after blocks (records (over tree.changed kept))) → hamt.Stands after blocks (records actors)
unfolding Stands
settled_records tree after blocks actors info (kept, stands, are, are-changed, is, same) step =
    subst (λ (m : Actors). hamt.Stands after blocks (records m)) (sym is) (step kept are stands)

-- some of them are
pub stands_partly : (tree after : StateTree) (blocks : List BlockParts) (actors : Actors) (info : CidParts) → Stands tree blocks actors info
    → ((kept : Actors) → AreActors kept → hamt.Stands tree.tree blocks (records kept)
    → (written : Actors) × AreActors written × hamt.Stands after.tree blocks (records written) × (over tree.changed written ≡ over tree.changed kept))
    → after.changed ≡ tree.changed → after.info ≡ tree.info → Stands after blocks actors info
unfolding Stands
stands_partly tree after blocks actors info (kept, stands, are, are-changed, is, same) step changed linked =
    let there = step kept are stands in
    (there.0, there.2, there.1, subst AreActors (sym changed) are-changed, is ∙ sym there.3 ∙ sym (ap (λ (c : Actors). over c there.0) changed), linked ∙ same)

-- the changed actors are written and forgotten
pub stands_settled : (tree after : StateTree) (blocks : List BlockParts) (actors : Actors) (info : CidParts) → Stands tree blocks actors info
    → hamt.Stands after.tree blocks (records actors) → after.changed ≡ empty → after.info ≡ tree.info → Stands after blocks actors info
unfolding Stands
stands_settled tree after blocks actors info stands written none linked =
    stands_for after blocks actors info (records actors) written refl (are_of tree blocks actors info stands) none (linked ∙ stands.5)

-- ---- one actor

pub record_read : (o : Option Actor) (value : Value) → Some value ≡ option_map actor_record o → ((a : Actor) → o ≡ Some a → IsActor a) → actor_in value ≡ o
record_read None value is are = absurd (cc)
record_read (Some a) value is are = let same : value ≡ actor_record a = cc in ap actor_in same ∙ actor_of_record a (are a refl)

-- the record under the key of an ID is read as its actor
pub actor_found : (actors : Actors) (id : ℕ) (key : List ℕ) (o : Option Value) (value : Value) {E : Type 0} (result : Result (Option Actor) E) → AreActors actors → id < 2 ^ 63 → key ≡ id_key id
    → o ≡ get (records actors) key → o ≡ Some value → IfOk result (λ a. a ≡ actor_in value) → IfOk result (λ a. a ≡ get actors id)
actor_found actors id key o value result are small is found there read =
    let stored : Some value ≡ option_map actor_record (get actors id) = sym there ∙ found ∙ ap (get (records actors)) is ∙ get-records actors id small are in
    let same : actor_in value ≡ get actors id = record_read (get actors id) value stored (λ a e. found_is_actor actors id a are e) in
    subst (λ (x : Option Actor). IfOk result (λ a. a ≡ x)) same read

pub none_read : (o : Option Actor) → None ≡ option_map actor_record o → None ≡ o
none_read None is = refl
none_read (Some a) is = absurd (cc)

pub actor_missing : (actors : Actors) (id : ℕ) (key : List ℕ) (o : Option Value) → AreActors actors → id < 2 ^ 63 → key ≡ id_key id → o ≡ get (records actors) key → o ≡ None → None ≡ get actors id
actor_missing actors id key o are small is found there =
    none_read (get actors id) (sym there ∙ found ∙ ap (get (records actors)) is ∙ get-records actors id small are)

-- an actor that was changed
pub changed_found : (tree : StateTree) (blocks : List BlockParts) (actors : Actors) (info : CidParts) (id : ℕ) (o : Option Actor) (a : Actor) → Stands tree blocks actors info → o ≡ get tree.changed id → o ≡ Some a → Some a ≡ get actors id
unfolding Stands
changed_found tree blocks actors info id o a (kept, stands, are, are-changed, is, same) found some = found_above tree.changed kept actors id o a is found some

-- an actor that was not
pub written_found : (tree : StateTree) (blocks : List BlockParts) (actors : Actors) (info : CidParts) (id : ℕ) (o : Option Actor) {E : Type 0} (result : Result (Option Actor) E) → Stands tree blocks actors info → o ≡ get tree.changed id → o ≡ None
    → ((kept : Actors) → AreActors kept → hamt.Stands tree.tree blocks (records kept) → IfOk result (λ a. a ≡ get kept id)) → IfOk result (λ a. a ≡ get actors id)
unfolding Stands
written_found tree blocks actors info id o result (kept, stands, are, are-changed, is, same) found none read =
    subst (λ (x : Option Actor). IfOk result (λ a. a ≡ x)) (found_below tree.changed kept actors id o is found none) (read kept are stands)

-- ---- changes

-- the record of one more actor is written
pub record_written : (kept : Actors) (before after : Hamt) (blocks : List BlockParts) (id : ℕ) (a : Actor) (key : List ℕ) (value : Value) → AreActors kept → id < 2 ^ 63 → IsActor a → key ≡ id_key id → value ≡ actor_record a
    → hamt.Stands before blocks (records kept) → ((m : Map) → hamt.Stands before blocks m → hamt.Stands after blocks (insert m key value)) → hamt.Stands after blocks (records (insert kept id a))
record_written kept before after blocks id a key value are small is key-is value-is stands step =
    subst (hamt.Stands after blocks) ((λ i. insert (records kept) (key-is i) (value-is i)) ∙ sym (records-insert kept id a small is are)) (step (records kept) stands)

pub stands_with : (tree after : StateTree) (blocks : List BlockParts) (actors : Actors) (info : CidParts) (id : ℕ) (a : Actor) → Stands tree blocks actors info → id < 2 ^ 63
    → IsActor a → after.changed ≡ insert tree.changed id a → after.tree ≡ tree.tree → after.info ≡ tree.info → Stands after blocks (insert actors id a) info
unfolding Stands
stands_with tree after blocks actors info id a (kept, stands, are, are-changed, is, same) small is-actor changed untouched linked = (
  kept,
  subst (λ (t : Hamt). hamt.Stands t blocks (records kept)) (sym untouched) stands,
  are,
  subst AreActors (sym changed) (AreActors-insert tree.changed id a small is-actor are-changed),
  ap (λ (m : Actors). insert m id a) is ∙ over_insert tree.changed kept id a ∙ sym (ap (λ (c : Actors). over c kept) changed),
  linked ∙ same,
)

pub stands_without : (tree after : StateTree) (blocks : List BlockParts) (actors : Actors) (info : CidParts) (id : ℕ) (key : List ℕ) → Stands tree blocks actors info → id < 2 ^ 63
    → key ≡ id_key id → ((m : Map) → hamt.Stands tree.tree blocks m → hamt.Stands after.tree blocks (remove m key)) → after.changed ≡ remove tree.changed id → after.info ≡ tree.info → Stands after blocks (remove actors id) info
unfolding Stands
stands_without tree after blocks actors info id key (kept, stands, are, are-changed, is, same) small key-is step changed linked = (
  remove kept id,
  subst (hamt.Stands after.tree blocks) ((λ i. remove (records kept) (key-is i)) ∙ sym (records-remove kept id small are)) (step (records kept) stands),
  AreActors-remove kept id are,
  subst AreActors (sym changed) (AreActors-remove tree.changed id are-changed),
  ap (λ (m : Actors). remove m id) is ∙ over_remove tree.changed kept id ∙ sym (ap (λ (c : Actors). over c (remove kept id)) changed),
  linked ∙ same,
)

-- ---- all actors

pub all_below : (actors : Actors) (next : ℕ) (pairs : Pairs) (b : Bool) → AreActors actors → pairs ≡ entries (records actors) → b ≡ list_all (λ p. is_below next (id_in p.0)) pairs
    → b ≡ list_all (λ e. nat_lt e.0 next) (entries actors)
all_below actors next pairs b are is test = test ∙ ap (list_all (λ p. is_below next (id_in p.0))) is ∙ ids_of_records next actors are

pub all_within : (actors : Actors) (awards most : ℕ) (pairs : Pairs) (b : Bool) → AreActors actors → pairs ≡ entries (records actors) → b ≡ nat_le (sum_by (λ p. balance_in p.1) pairs + awards) most
    → b ≡ nat_le (balances actors + awards) most
all_within actors awards most pairs b are is test =
    test ∙ ap (λ n. nat_le (n + awards) most) (ap (sum_by (λ p. balance_in p.1)) is ∙ balances_of_records actors are)

-- ---- putting actors of distinct IDs

other_number : (a b : ℕ) → nat_eq a b ≡ false → eq_by_cmp nat_cmp b a ≡ false
other_number a b apart = sym same ∙ apart where
  same : nat_eq a b ≡ eq_by_cmp nat_cmp b a
  same = grind (arith, nat_tests)

pub apart_is_new : (id : ℕ) (es : List (ℕ × Actor)) → ((k : ℕ) (d : ℕ × Actor) → k < length es → nat_eq (get_or es k d).0 id ≡ false) → find nat_cmp id es ≡ None
apart_is_new id [] apart = refl
apart_is_new id (e ∷ es) apart =
    ap (λ t. cond t (Some e.1) (find nat_cmp id es)) (other_number e.0 id (apart 0 e (omega arith))) ∙ apart_is_new id es (λ k d within. apart (suc k) d (omega arith))

key_is_new : (es : List (ℕ × Actor)) (i : ℕ) (e : ℕ × Actor) → IsDistinct nat_eq (map (λ a. a.0) es) → i < length es → e ≡ get_or es i e → find nat_cmp e.0 (take i es) ≡ None
key_is_new es i e distinct within is = apart_is_new e.0 (take i es) (λ k d below.
    let near : k < i = omega (arith, length-take i es, below) in
    let fst : ℕ × Actor → ℕ = λ a. a.0 in
    let size : length (map fst es) ≡ length es = length-map es fst in
    let first : get_or (map fst es) k 0 ≡ (get_or es k d).0 = get_or-map fst es k d 0 (omega arith) in
    let second : get_or (map fst es) i 0 ≡ (get_or es i e).0 = get_or-map fst es i e 0 within in
    (λ j. nat_eq (ap fst (get_or-take i es k d near) j) (ap fst is j))
    ∙ (λ j. nat_eq (sym first j) (sym second j)) ∙ apart_from_distinct nat_eq (map fst es) k i 0 distinct near (omega (arith, size)))

-- a tree of the first actors becomes that of one more
pub puts_more : (es : List (ℕ × Actor)) (i : ℕ) (e : ℕ × Actor) → IsDistinct nat_eq (map (λ a. a.0) es) → i < length es → e ≡ get_or es i e
    → insert (from_entries {R = nat_cmp} (take i es)) e.0 e.1 ≡ from_entries (take (i + 1) es)
puts_more es i e distinct within is =
    sym (finmap.from_entries_push nat_cmp_total finmap.nat_cmp-IsAntisymmetric (take i es) e.0 e.1 (key_is_new es i e distinct within is))
    ∙ ap (from_entries {R = nat_cmp}) (ap (λ (a : ℕ × Actor). take i es ++ a ∷ []) is ∙ sym (take_more es i e within))
