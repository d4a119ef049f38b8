-- The records of actors by their keys, and what is found among them.
use Rattle.std.proofs.Common.{◌≡◌, ◌≢◌, ℕ, zero, suc, ◌+◌, ◌^◌, ◌<◌, List, [], ◌∷◌, ◌++◌, Bool, true, false, cond, not, ◌&&◌, length, map, Option, Some, None, inl, inr, refl, sym, ap, subst, ◌∙◌, arith}
use Rattle.std.proofs.lemmas.List.Elements.{All-nil, All-cons, All-head, All-tail}
use Rattle.std.specs.Prelude.{All, T, is_some}
use Rattle.std.specs.Cmp.{nat_cmp_total}
use Rattle.std.specs.Cmp.Lexicographic.{nat_list_cmp_total}
use Rattle.std.specs.FinMap as finmap
use Rattle.std.specs.FinMap.{empty, entries, from_entries, get, insert, remove}
use Rattle.std.specs.FinMap.Entries.{by_order, find, find-where_key, is_sorted, is_sorted-where_key, put, where_key}
use Rattle.std.specs.Cmp.{alike_right, eq_by_cmp_equiv}
use Rattle.std.proofs.lemmas.List.{nil_from_length}
use Rattle.tree_blocks.specs.Forms.{for_each}
use Rattle.tree_blocks.proofs.ForEach.{if_some_gives}
use Rattle.std.specs.Option.{option_map}
use Rattle.std.specs.Ordering.{eq_by_cmp, is_eq, nat_cmp}
use Rattle.std.specs.declared.cmp.Ordering.TheVariants.{Less, Equal, Greater}
use Rattle.dag_cbor.specs.declared.value.Value.{Value}
use Rattle.hamt_map.specs.Pairs.{Map, Pairs, key_cmp}
use Rattle.hamt_map.proofs.Held.{key_cmp_same}
use Rattle.state_tree.specs.Actors.{Actors, AreActors, IsActor, actor_record, id_key, records, IsEntry, record_pair}
use Rattle.state_tree.specs.Reading.{actor_in, id_in, pair_in}
use Rattle.state_tree.specs.declared.actor.Actor.{Actor}
use Rattle.state_tree.proofs.Keys.{id_of_key, is_id, key_test, the_id_is_small, the_key}
use Rattle.state_tree.proofs.RecordRead.{record_of_actor}

-- ---- lists of actors

put_entries : (id : ℕ) (a : Actor) (es : List (ℕ × Actor)) → IsEntry (id, a) → All IsEntry es → All IsEntry (put nat_cmp id a es)
put_entries id a [] new are = All-cons IsEntry (id, a) [] new are
put_entries id a (e ∷ es) new are =
    let here : IsEntry e = All-head IsEntry e es are in
    let rest : All IsEntry es = All-tail IsEntry e es are in
    elim (nat_cmp id e.0) as (λ o. All IsEntry (by_order o ((id, a) ∷ e ∷ es) ((e.0, a) ∷ es) (e ∷ put nat_cmp id a es))) [
      | Less ↦ All-cons IsEntry (id, a) (e ∷ es) new are
      | Equal ↦ All-cons IsEntry (e.0, a) es (here.0, new.1) rest
      | Greater ↦ All-cons IsEntry e (put nat_cmp id a es) here (put_entries id a es new rest)
    ]

pub AreActors-insert : (actors : Actors) (id : ℕ) (a : Actor) → id < 2 ^ 63 → IsActor a → AreActors actors → AreActors (insert actors id a)
AreActors-insert actors id a small is are =
    subst (All IsEntry) (sym (finmap.entries-insert nat_cmp_total actors id a)) (put_entries id a (entries actors) (small, is) are)

found_entry : (id : ℕ) (es : List (ℕ × Actor)) (a : Actor) → All IsEntry es → find nat_cmp id es ≡ Some a → IsActor a
found_entry id [] a are found = absurd (subst T (ap is_some (sym found)) tt)
found_entry id (e ∷ es) a are found =
    elim (eq_by_cmp nat_cmp id e.0) as (λ b. cond b (Some e.1) (find nat_cmp id es) ≡ Some a → IsActor a) [
      | true ↦ λ is. let same : e.1 ≡ a = cc in subst IsActor same (All-head IsEntry e es are).1
      | false ↦ λ is. found_entry id es a (All-tail IsEntry e es are) is
    ] found

-- an actor of a state is in its ranges
pub found_is_actor : (actors : Actors) (id : ℕ) (a : Actor) → AreActors actors → get actors id ≡ Some a → IsActor a
found_is_actor actors id a are found = found_entry id (entries actors) a are (sym (finmap.get-entries actors id) ∙ found)

-- ---- what is found under a key

-- what stands under the key of an ID
abbrev pub by_id : Option ℕ → List (ℕ × Actor) → Option Value
by_id None es = None
by_id (Some id) es = option_map actor_record (find nat_cmp id es)

none_is_none : (o : Option ℕ) → None ≡ by_id o []
none_is_none None = refl
none_is_none (Some id) = refl

find_step : (o : Option ℕ) (e : ℕ × Actor) (es : List (ℕ × Actor)) → cond (is_id e.0 o) (Some (actor_record e.1)) (by_id o es) ≡ by_id o (e ∷ es)
find_step None e es = refl
find_step (Some id) e es =
    elim (eq_by_cmp nat_cmp id e.0) as (λ b. cond b (Some (actor_record e.1)) (option_map actor_record (find nat_cmp id es)) ≡ option_map actor_record (cond b (Some e.1) (find nat_cmp id es))) [
      | true ↦ refl
      | false ↦ refl
    ]

pub find-records : (key : List ℕ) (es : List (ℕ × Actor)) → All IsEntry es → find key_cmp key (map record_pair es) ≡ by_id (id_in key) es
find-records key [] are = none_is_none (id_in key)
find-records key (e ∷ es) are =
    let rest = find-records key es (All-tail IsEntry e es are) in
    (λ i. cond (key_test key e.0 (id_in key) (All-head IsEntry e es are).0 refl i) (Some (actor_record e.1)) (rest i))
    ∙ find_step (id_in key) e es

-- what stands under the key of an ID, of a map of actors
abbrev pub under : Option ℕ → Actors → Option Value
under None actors = None
under (Some id) actors = option_map actor_record (get actors id)

under_is : (o : Option ℕ) (actors : Actors) → by_id o (entries actors) ≡ under o actors
under_is None actors = refl
under_is (Some id) actors = ap (option_map actor_record) (sym (finmap.get-entries actors id))

pub get-records-any : (actors : Actors) (key : List ℕ) → AreActors actors → get (records actors) key ≡ under (id_in key) actors
get-records-any actors key are =
    finmap.get-from_entries nat_list_cmp_total (map record_pair (entries actors)) key ∙ find-records key (entries actors) are ∙ under_is (id_in key) actors

-- ---- changes

under-insert : (o : Option ℕ) (actors : Actors) (id : ℕ) (a : Actor) → under o (insert actors id a) ≡ cond (is_id id o) (Some (actor_record a)) (under o actors)
under-insert None actors id a = refl
under-insert (Some other) actors id a =
    ap (option_map actor_record) (finmap.get-insert nat_cmp_total actors id a other)
    ∙ elim (eq_by_cmp nat_cmp other id) as (λ b. option_map actor_record (cond b (Some a) (get actors other)) ≡ cond b (Some (actor_record a)) (option_map actor_record (get actors other))) [
      | true ↦ refl
      | false ↦ refl
    ]

-- the records of actors with one more are those with its record
pub records-insert : (actors : Actors) (id : ℕ) (a : Actor) → id < 2 ^ 63 → IsActor a → AreActors actors → records (insert actors id a) ≡ insert (records actors) (id_key id) (actor_record a)
records-insert actors id a small is are = finmap.same_map nat_list_cmp_total key_cmp_same _ _ (λ key.
    get-records-any (insert actors id a) key (AreActors-insert actors id a small is are) ∙ under-insert (id_in key) actors id a
    ∙ (λ i. cond (sym (key_test key id (id_in key) small refl) i) (Some (actor_record a)) (sym (get-records-any actors key are) i))
    ∙ sym (finmap.get-insert nat_list_cmp_total (records actors) (id_key id) (actor_record a) key))

kept_entries : (id : ℕ) (es : List (ℕ × Actor)) → All IsEntry es → All IsEntry (where_key nat_cmp (λ a. not (eq_by_cmp nat_cmp id a)) es)
kept_entries id [] are = are
kept_entries id (e ∷ es) are =
    let here : IsEntry e = All-head IsEntry e es are in
    let rest : All IsEntry (where_key nat_cmp (λ a. not (eq_by_cmp nat_cmp id a)) es) = kept_entries id es (All-tail IsEntry e es are) in
    elim (not (eq_by_cmp nat_cmp id e.0)) as (λ b. All IsEntry (cond b (e ∷ where_key nat_cmp (λ a. not (eq_by_cmp nat_cmp id a)) es) (where_key nat_cmp (λ a. not (eq_by_cmp nat_cmp id a)) es))) [
      | true ↦ All-cons IsEntry e (where_key nat_cmp (λ a. not (eq_by_cmp nat_cmp id a)) es) here rest
      | false ↦ rest
    ]

turned : {A : Type 0} (b : Bool) (x y : A) → cond (not b) x y ≡ cond b y x
turned true x y = refl
turned false x y = refl

pub entries-remove : (actors : Actors) (id : ℕ) → entries (remove actors id) ≡ where_key nat_cmp (λ a. not (eq_by_cmp nat_cmp id a)) (entries actors)
entries-remove actors id =
    let kept : List (ℕ × Actor) = where_key nat_cmp (λ a. not (eq_by_cmp nat_cmp id a)) (entries actors) in
    let in_order : T (is_sorted nat_cmp kept) = is_sorted-where_key nat_cmp (λ a. not (eq_by_cmp nat_cmp id a)) (entries actors) (finmap.entries_sorted actors) in
    let same : remove actors id ≡ finmap.from_sorted kept = finmap.same_map nat_cmp_total finmap.nat_cmp-IsAntisymmetric (remove actors id) (finmap.from_sorted kept) (λ other.
    finmap.get-remove nat_cmp_total actors id other
    ∙ ap (λ b. cond b None (get actors other)) ((eq_by_cmp_equiv nat_cmp_total).symm other id)
    ∙ sym (turned (eq_by_cmp nat_cmp id other) (get actors other) None)
    ∙ ap (λ found. cond (not (eq_by_cmp nat_cmp id other)) found None) (finmap.get-entries actors other)
    ∙ sym (find-where_key nat_cmp (λ a. not (eq_by_cmp nat_cmp id a)) other (λ x tied. ap (λ o. not (is_eq o)) (sym (alike_right nat_cmp_total other x id tied))) (entries actors))
    ∙ sym (finmap.get-from_sorted nat_cmp kept other in_order)) in
    ap entries same ∙ finmap.entries-from_sorted nat_cmp kept in_order

pub AreActors-remove : (actors : Actors) (id : ℕ) → AreActors actors → AreActors (remove actors id)
AreActors-remove actors id are = subst (All IsEntry) (sym (entries-remove actors id)) (kept_entries id (entries actors) are)

under-remove : (o : Option ℕ) (actors : Actors) (id : ℕ) → under o (remove actors id) ≡ cond (is_id id o) None (under o actors)
under-remove None actors id = refl
under-remove (Some other) actors id =
    ap (option_map actor_record) (finmap.get-remove nat_cmp_total actors id other)
    ∙ elim (eq_by_cmp nat_cmp other id) as (λ b. option_map actor_record (cond b None (get actors other)) ≡ cond b None (option_map actor_record (get actors other))) [
      | true ↦ refl
      | false ↦ refl
    ]

-- the records of actors with one less are those without its record
pub records-remove : (actors : Actors) (id : ℕ) → id < 2 ^ 63 → AreActors actors → records (remove actors id) ≡ remove (records actors) (id_key id)
records-remove actors id small are = finmap.same_map nat_list_cmp_total key_cmp_same _ _ (λ key.
    get-records-any (remove actors id) key (AreActors-remove actors id are) ∙ under-remove (id_in key) actors id
    ∙ (λ i. cond (sym (key_test key id (id_in key) small refl) i) None (sym (get-records-any actors key are) i))
    ∙ sym (finmap.get-remove nat_list_cmp_total (records actors) (id_key id) key))

-- what stands under the key of an ID is the record of its actor
pub get-records : (actors : Actors) (id : ℕ) → id < 2 ^ 63 → AreActors actors → get (records actors) (id_key id) ≡ option_map actor_record (get actors id)
get-records actors id small are = get-records-any actors (id_key id) are ∙ ap (λ (o : Option ℕ). under o actors) (id_of_key id small)

-- ---- no actors

pub no_entries : entries (empty {K = ℕ} {X = Actor} {R = nat_cmp}) ≡ []
no_entries = nil_from_length _ (sym (finmap.len-entries (empty {R = nat_cmp})) ∙ finmap.len-empty nat_cmp Actor)

pub AreActors-empty : AreActors empty
AreActors-empty = subst (All IsEntry) (sym no_entries) (All-nil IsEntry)

pub records-empty : records empty ≡ empty
records-empty = ap (λ (es : List (ℕ × Actor)). from_entries {R = key_cmp} (map record_pair es)) no_entries

-- ---- a map of records

pub AreActors-from_entries : (es : List (ℕ × Actor)) → All IsEntry es → AreActors (from_entries es)
AreActors-from_entries [] are = AreActors-empty
AreActors-from_entries (e ∷ es) are =
    let here : IsEntry e = All-head IsEntry e es are in
    AreActors-insert (from_entries es) e.0 e.1 here.0 here.1 (AreActors-from_entries es (All-tail IsEntry e es are))

by_id-under : (o : Option ℕ) (es : List (ℕ × Actor)) → by_id o es ≡ under o (from_entries es)
by_id-under None es = refl
by_id-under (Some id) es = ap (option_map actor_record) (sym (finmap.get-from_entries nat_cmp_total es id))

-- a map whose pairs are the keys and records of some actors has the records of these
pub map_of_records : (m : Map) (es : List (ℕ × Actor)) → All IsEntry es → entries m ≡ map record_pair es → m ≡ records (from_entries es)
map_of_records m es are is = finmap.same_map nat_list_cmp_total key_cmp_same _ _ (λ key.
    finmap.get-entries m key ∙ ap (find key_cmp key) is ∙ find-records key es are ∙ by_id-under (id_in key) es
    ∙ sym (get-records-any (from_entries es) key (AreActors-from_entries es are)))

same_pairs : (p : List ℕ × Value) (id : ℕ) (a : Actor) → id_in p.0 ≡ Some id → actor_in p.1 ≡ Some a → p ≡ record_pair (id, a)
same_pairs (key, value) id a key-is value-is = λ i. (the_key key id key-is i, record_of_actor value a value-is i)

pair_of_actor : (p : List ℕ × Value) (e : ℕ × Actor) → pair_in p ≡ Some e → p ≡ record_pair e
pair_of_actor p e is =
    let id = if_some_gives (id_in p.0) _ e is in
    let actor = if_some_gives (actor_in p.1) _ e id.2 in
    let made : (id.0, actor.0) ≡ e = cc actor.2 in
    same_pairs p id.0 actor.0 id.1 actor.1 ∙ ap record_pair made

-- pairs that are read as actors are their keys and records
pub pairs_of_actors : (ps : Pairs) (es : List (ℕ × Actor)) → for_each pair_in ps ≡ Some es → ps ≡ map record_pair es
pairs_of_actors [] es is = let none : [] ≡ es = cc in ap (map record_pair) none
pairs_of_actors (p ∷ ps) es is =
    let first = if_some_gives (pair_in p) _ es is in
    let rest = if_some_gives (for_each pair_in ps) _ es first.2 in
    let whole : first.0 ∷ rest.0 ≡ es = cc rest.2 in
    (λ i. pair_of_actor p first.0 first.1 i ∷ pairs_of_actors ps rest.0 rest.1 i) ∙ ap (map record_pair) whole
