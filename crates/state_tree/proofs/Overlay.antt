-- Actors that lie over others.
use Rattle.std.proofs.Common.{◌≡◌, ℕ, ◌^◌, ◌<◌, List, [], ◌∷◌, ◌++◌, Bool, true, false, cond, not, ◌&&◌, length, Option, Some, None, Ordering, refl, sym, ap, subst, ◌∙◌}
use Rattle.std.proofs.lemmas.List.{nil_from_length}
use Rattle.std.proofs.lemmas.List.Elements.{All-append, All-head, All-tail}
use Rattle.std.specs.Prelude.{All, T, is_some}
use Rattle.std.specs.BTreeMap.{insert_entry}
use Rattle.std.specs.Cmp.{nat_cmp_total}
use Rattle.std.specs.FinMap as finmap
use Rattle.std.specs.FinMap.{empty, entries, from_entries, get, insert, remove}
use Rattle.std.specs.FinMap.Entries.{below_all, by_order, find, is_sorted, put, where_key}
use Rattle.std.specs.Map.{lookup, remove_entry}
use Rattle.std.specs.Option.{option_or}
use Rattle.std.specs.Ordering.{eq_by_cmp, is_eq, is_lt, match_ordering, nat_cmp}
use Rattle.std.specs.declared.cmp.Ordering.TheVariants.{Less, Equal, Greater}
use Rattle.state_tree.specs.Actors.{Actors, AreActors, IsActor, IsEntry}
use Rattle.state_tree.specs.Over.{AreEntries, over}
use Rattle.state_tree.specs.declared.actor.Actor.{Actor}
use Rattle.state_tree.proofs.FindRecords.{AreActors-empty, AreActors-from_entries, AreActors-insert, AreActors-remove, entries-remove, no_entries}

abbrev pub Entries : Type 0
Entries = List (ℕ × Actor)

-- two maps of actors that answer alike
alike : (a b : Actors) → ((q : ℕ) → get a q ≡ get b q) → a ≡ b
alike a b same = finmap.same_map nat_cmp_total finmap.nat_cmp-IsAntisymmetric a b same

found_again : (es : Entries) (q : ℕ) → get (from_entries {R = nat_cmp} es) q ≡ find nat_cmp q es
found_again es q = finmap.get-from_entries nat_cmp_total es q

pub shown_none : (es : Entries) → es ≡ [] → from_entries {R = nat_cmp} es ≡ empty
shown_none es none = ap (from_entries {R = nat_cmp}) none

-- ---- what is above counts

find_both : (q : ℕ) (es fs : Entries) → find nat_cmp q (es ++ fs) ≡ option_or (find nat_cmp q es) (find nat_cmp q fs)
find_both q [] fs = refl
find_both q (e ∷ es) fs =
    elim (eq_by_cmp nat_cmp q e.0) as (λ b. cond b (Some e.1) (find nat_cmp q (es ++ fs)) ≡ option_or (cond b (Some e.1) (find nat_cmp q es)) (find nat_cmp q fs)) [
      | true ↦ refl
      | false ↦ find_both q es fs
    ]

pub get-over : (own kept : Actors) (q : ℕ) → get (over own kept) q ≡ option_or (get own q) (get kept q)
get-over own kept q =
    found_again (entries own ++ entries kept) q ∙ find_both q (entries own) (entries kept)
    ∙ (λ i. option_or (sym (finmap.get-entries own q) i) (sym (finmap.get-entries kept q) i))

pub AreActors-over : (own kept : Actors) → AreActors own → AreActors kept → AreActors (over own kept)
AreActors-over own kept are-own are-kept =
    AreActors-from_entries (entries own ++ entries kept) (All-append IsEntry (entries own) (entries kept) are-own are-kept)

-- nothing above
pub over_nothing : (kept : Actors) → over empty kept ≡ kept
over_nothing kept = alike (over empty kept) kept (λ q.
    get-over empty kept q ∙ ap (λ (o : Option Actor). option_or o (get kept q)) (finmap.get-empty nat_cmp q))

else_none : (o : Option Actor) → option_or o None ≡ o
else_none None = refl
else_none (Some x) = refl

-- nothing below
pub over_none : (own : Actors) → over own empty ≡ own
over_none own = alike (over own empty) own (λ q.
    get-over own empty q ∙ ap (option_or (get own q)) (finmap.get-empty nat_cmp q) ∙ else_none (get own q))

-- an actor that is put above
pub over_insert : (own kept : Actors) (id : ℕ) (a : Actor) → insert (over own kept) id a ≡ over (insert own id a) kept
over_insert own kept id a = alike (insert (over own kept) id a) (over (insert own id a) kept) (λ q.
    finmap.get-insert nat_cmp_total (over own kept) id a q ∙ ap (cond (eq_by_cmp nat_cmp q id) (Some a)) (get-over own kept q)
    ∙ by (eq_by_cmp nat_cmp q id) (get own q) (get kept q)
    ∙ ap (λ (o : Option Actor). option_or o (get kept q)) (sym (finmap.get-insert nat_cmp_total own id a q))
    ∙ sym (get-over (insert own id a) kept q)) where
      by : (b : Bool) (o p : Option Actor) → cond b (Some a) (option_or o p) ≡ option_or (cond b (Some a) o) p
      by true o p = refl
      by false o p = refl

-- an actor that is taken away above and below
pub over_remove : (own kept : Actors) (id : ℕ) → remove (over own kept) id ≡ over (remove own id) (remove kept id)
over_remove own kept id = alike (remove (over own kept) id) (over (remove own id) (remove kept id)) (λ q.
    finmap.get-remove nat_cmp_total (over own kept) id q ∙ ap (cond (eq_by_cmp nat_cmp q id) None) (get-over own kept q)
    ∙ by (eq_by_cmp nat_cmp q id) (get own q) (get kept q)
    ∙ (λ i. option_or (sym (finmap.get-remove nat_cmp_total own id q) i) (sym (finmap.get-remove nat_cmp_total kept id q) i))
    ∙ sym (get-over (remove own id) (remove kept id) q)) where
      by : (b : Bool) (o p : Option Actor) → cond b None (option_or o p) ≡ option_or (cond b None o) (cond b None p)
      by true o p = refl
      by false o p = refl

pub found_above : (own kept actors : Actors) (id : ℕ) (o : Option Actor) (a : Actor) → actors ≡ over own kept → o ≡ get own id → o ≡ Some a → Some a ≡ get actors id
found_above own kept actors id o a is found some =
    sym (ap (λ (m : Actors). get m id) is ∙ get-over own kept id ∙ ap (λ (o : Option Actor). option_or o (get kept id)) (sym found ∙ some))

pub found_below : (own kept actors : Actors) (id : ℕ) (o : Option Actor) → actors ≡ over own kept → o ≡ get own id → o ≡ None → get kept id ≡ get actors id
found_below own kept actors id o is found none =
    sym (ap (λ (m : Actors). get m id) is ∙ get-over own kept id ∙ ap (λ (o : Option Actor). option_or o (get kept id)) (sym found ∙ none))

-- ---- lists by rising ID

both_first : (a b : Bool) → T (a && b) → T a
both_first true b h = tt
both_first false b h = h

both_second : (a b : Bool) → T (a && b) → T b
both_second true b h = h
both_second false b h = absurd h

less_from : (o : Ordering) → T (is_lt o) → o ≡ Less
less_from Less h = refl
less_from Equal h = absurd h
less_from Greater h = absurd h

none_from_below : (q : ℕ) (es : Entries) → T (below_all nat_cmp q es) → find nat_cmp q es ≡ None
none_from_below q [] below = refl
none_from_below q (e ∷ es) below =
    let less : nat_cmp q e.0 ≡ Less = less_from (nat_cmp q e.0) (both_first _ _ below) in
    ap (λ (o : Ordering). cond (is_eq o) (Some e.1) (find nat_cmp q es)) less ∙ none_from_below q es (both_second (is_lt (nat_cmp q e.0)) _ below)

pub first_alone : (e : ℕ × Actor) (es : Entries) → T (is_sorted nat_cmp (e ∷ es)) → find nat_cmp e.0 es ≡ None
first_alone e es sorted = none_from_below e.0 es (both_first _ _ sorted)

pub behind_first : (e : ℕ × Actor) (es : Entries) → T (is_sorted nat_cmp (e ∷ es)) → T (is_sorted nat_cmp es)
behind_first e es sorted = both_second (below_all nat_cmp e.0 es) _ sorted

-- ---- writing one actor after another

-- an actor that counts above lies as well below
pub over_step : (e : ℕ × Actor) (es : Entries) (m : Actors) → find nat_cmp e.0 es ≡ None → over (from_entries (e ∷ es)) m ≡ over (from_entries es) (insert m e.0 e.1)
over_step e es m alone = alike (over (from_entries (e ∷ es)) m) (over (from_entries es) (insert m e.0 e.1)) (λ q.
    get-over (from_entries (e ∷ es)) m q ∙ ap (λ (o : Option Actor). option_or o (get m q)) (found_again (e ∷ es) q)
    ∙ by (eq_by_cmp nat_cmp q e.0) (find nat_cmp q es) (get m q) (λ tied. ap (λ (k : ℕ). find nat_cmp k es) (finmap.nat_cmp-IsAntisymmetric q e.0 (equal_from (nat_cmp q e.0) tied)) ∙ alone)
    ∙ (λ i. option_or (sym (found_again es q) i) (sym (finmap.get-insert nat_cmp_total m e.0 e.1 q) i))
    ∙ sym (get-over (from_entries es) (insert m e.0 e.1) q)) where
      equal_from : (o : Ordering) → is_eq o ≡ true → o ≡ Equal
      equal_from Less h = absurd (cc h)
      equal_from Equal h = refl
      equal_from Greater h = absurd (cc h)

      by : (b : Bool) (o p : Option Actor) → (b ≡ true → o ≡ None) → option_or (cond b (Some e.1) o) p ≡ option_or o (cond b (Some e.1) p)
      by true o p none = ap (λ (o : Option Actor). option_or o (Some e.1)) (sym (none refl))
      by false o p none = refl

-- an ID that has no actor has none in the list
abbrev pub IsPart : Actors → Entries → Type 0
IsPart own es = (q : ℕ) → get own q ≡ None → find nat_cmp q es ≡ None

cond_none : (b : Bool) (x : Actor) (o : Option Actor) → cond b (Some x) o ≡ None → (b ≡ false) × (o ≡ None)
cond_none true x o is = absurd (subst T (ap is_some is) tt)
cond_none false x o is = (refl, is)

pub part_behind : (own : Actors) (e : ℕ × Actor) (es : Entries) → IsPart own (e ∷ es) → IsPart own es
part_behind own e es part = λ q none. (cond_none (eq_by_cmp nat_cmp q e.0) e.1 (find nat_cmp q es) (part q none)).1

-- what is written below an actor of the same ID does not count
pub over_same : (own m : Actors) (e : ℕ × Actor) (es : Entries) → IsPart own (e ∷ es) → over own (insert m e.0 e.1) ≡ over own m
over_same own m e es part = alike (over own (insert m e.0 e.1)) (over own m) (λ q.
    get-over own (insert m e.0 e.1) q ∙ ap (option_or (get own q)) (finmap.get-insert nat_cmp_total m e.0 e.1 q)
    ∙ by (get own q) (eq_by_cmp nat_cmp q e.0) (get m q) (λ none. (cond_none (eq_by_cmp nat_cmp q e.0) e.1 (find nat_cmp q es) (part q none)).0)
    ∙ sym (get-over own m q)) where
      by : (o : Option Actor) (b : Bool) (p : Option Actor) → (o ≡ None → b ≡ false) → option_or o (cond b (Some e.1) p) ≡ option_or o p
      by None b p apart = ap (λ (b : Bool). cond b (Some e.1) p) (apart refl)
      by (Some x) b p apart = refl

-- what is left to be written of actors
pub record LeftOf (own : Actors) (left : Entries) : Type 0 where
  pub sorted : T (is_sorted nat_cmp left)
  pub each : All IsEntry left
  pub part : IsPart own left

pub left_all : (es left : Entries) (own : Actors) → AreEntries es → from_entries es ≡ own → left ≡ es → LeftOf own left
left_all es left own (m, are, each) shows same = record {
  sorted = subst (λ (xs : Entries). T (is_sorted nat_cmp xs)) (sym (same ∙ are)) (finmap.entries_sorted m);
  each = subst (All IsEntry) (sym (same ∙ are)) each;
  part = λ q none. ap (find nat_cmp q) same ∙ sym (found_again es q) ∙ ap (λ (n : Actors). get n q) shows ∙ none;
}

pub left_behind : (own : Actors) (e : ℕ × Actor) (es : Entries) → LeftOf own (e ∷ es) → LeftOf own es
left_behind own e es left = record {
  sorted = behind_first e es left.sorted;
  each = All-tail IsEntry e es left.each;
  part = part_behind own e es left.part;
}

pub first_small : (own : Actors) (e : ℕ × Actor) (es : Entries) → LeftOf own (e ∷ es) → e.0 < 2 ^ 63
first_small own e es left = (All-head IsEntry e es left.each).0

-- some of the actors were written among others
pub record Written (own kept : Actors) (left : Entries) (written : Actors) : Type 0 where
  pub are : AreActors written
  pub rest : over (from_entries left) written ≡ over own kept
  pub same : over own written ≡ over own kept

pub written_begin : (es left : Entries) (own kept : Actors) → from_entries es ≡ own → left ≡ es → AreActors kept → Written own kept left kept
written_begin es left own kept shows same are = record {
  are = are;
  rest = ap (λ (m : Actors). over m kept) (ap (from_entries {R = nat_cmp}) same ∙ shows);
  same = refl;
}

pub written_more : (own kept : Actors) (e : ℕ × Actor) (es : Entries) (written : Actors) → LeftOf own (e ∷ es) → Written own kept (e ∷ es) written → Written own kept es (insert written e.0 e.1)
written_more own kept e es written left so-far =
    let here : IsEntry e = All-head IsEntry e es left.each in
    record {
      are = AreActors-insert written e.0 e.1 here.0 here.1 so-far.are;
      rest = sym (over_step e es written (first_alone e es left.sorted)) ∙ so-far.rest;
      same = over_same own written e es left.part ∙ so-far.same;
    }

pub written_all : (own kept : Actors) (left : Entries) (written : Actors) → left ≡ [] → Written own kept left written → written ≡ over own kept
written_all own kept left written none so-far =
    sym (ap (λ (m : Actors). over m written) (shown_none left none) ∙ over_nothing written) ∙ so-far.rest

-- ---- copying one actor after another

pub copied_begin : (es left : Entries) (own copy : Actors) → from_entries es ≡ own → left ≡ es → copy ≡ empty → over (from_entries left) copy ≡ own
copied_begin es left own copy shows same none =
    ap (over (from_entries left)) none ∙ over_none (from_entries left) ∙ ap (from_entries {R = nat_cmp}) same ∙ shows

pub copied_more : (own copy after : Actors) (e : ℕ × Actor) (es : Entries) (a : Actor) → LeftOf own (e ∷ es) → over (from_entries (e ∷ es)) copy ≡ own → after ≡ insert copy e.0 a → a ≡ e.1 → over (from_entries es) after ≡ own
copied_more own copy after e es a left so-far is same =
    ap (over (from_entries es)) (is ∙ ap (insert copy e.0) same) ∙ sym (over_step e es copy (first_alone e es left.sorted)) ∙ so-far

pub copied_all : (own copy : Actors) (left : Entries) → left ≡ [] → over (from_entries left) copy ≡ own → copy ≡ own
copied_all own copy left none so-far = sym (ap (λ (m : Actors). over m copy) (shown_none left none) ∙ over_nothing copy) ∙ so-far

-- ---- the entries of the code's map

pub lookup-find : (q : ℕ) (es : Entries) → lookup (λ a. is_eq (nat_cmp q a)) es ≡ find nat_cmp q es
lookup-find q [] = refl
lookup-find q (e ∷ es) = ap (cond (is_eq (nat_cmp q e.0)) (Some e.1)) (lookup-find q es)

pub get-shown : (q : ℕ) (es : Entries) (own : Actors) → from_entries es ≡ own → lookup (λ a. is_eq (nat_cmp q a)) es ≡ get own q
get-shown q es own shows = lookup-find q es ∙ sym (found_again es q) ∙ ap (λ (m : Actors). get m q) shows

-- the actors of the entries of a map are the map's
pub shown_again : (m : Actors) → from_entries (entries m) ≡ m
shown_again m = alike (from_entries (entries m)) m (λ q. found_again (entries m) q ∙ sym (finmap.get-entries m q))

pub shows_map : (es : Entries) (m : Actors) → es ≡ entries m → from_entries es ≡ m
shows_map es m is = ap (from_entries {R = nat_cmp}) is ∙ shown_again m

pub entries_none : (es : Entries) → es ≡ [] → AreEntries es
entries_none es none = (empty, none ∙ sym no_entries, AreActors-empty)

pub shown_of_length : (es : Entries) (own : Actors) → from_entries es ≡ own → length es ≡ 0 → own ≡ empty
shown_of_length es own shows none = sym shows ∙ shown_none es (nil_from_length es none)

insert_entry-put : (es : Entries) (id : ℕ) (a : Actor) → insert_entry nat_cmp es id a ≡ put nat_cmp id a es
insert_entry-put [] id a = refl
insert_entry-put (e ∷ es) id a = by (nat_cmp id e.0) (insert_entry-put es id a) where
  by : (o : Ordering) → insert_entry nat_cmp es id a ≡ put nat_cmp id a es
      → match_ordering o ((id, a) ∷ e ∷ es) ((e.0, a) ∷ es) (e ∷ insert_entry nat_cmp es id a) ≡ by_order o ((id, a) ∷ e ∷ es) ((e.0, a) ∷ es) (e ∷ put nat_cmp id a es)
  by Less same = refl
  by Equal same = refl
  by Greater same = ap (λ t. e ∷ t) same

inserted : (es after : Entries) (id : ℕ) (a : Actor) (m : Actors) → es ≡ entries m → after ≡ insert_entry nat_cmp es id a → after ≡ entries (insert m id a)
inserted es after id a m are is =
    is ∙ insert_entry-put es id a ∙ ap (put nat_cmp id a) are ∙ sym (finmap.entries-insert nat_cmp_total m id a)

pub entries_inserted : (es after : Entries) (id : ℕ) (a : Actor) → AreEntries es → id < 2 ^ 63 → IsActor a → after ≡ insert_entry nat_cmp es id a → AreEntries after
entries_inserted es after id a (m, are, each) small is-actor is =
    (insert m id a, inserted es after id a m are is, AreActors-insert m id a small is-actor each)

pub shown_inserted : (es after : Entries) (own : Actors) (id : ℕ) (a : Actor) → AreEntries es → from_entries es ≡ own → after ≡ insert_entry nat_cmp es id a → from_entries after ≡ insert own id a
shown_inserted es after own id a (m, are, each) shows is =
    shows_map after (insert m id a) (inserted es after id a m are is) ∙ ap (λ (n : Actors). insert n id a) (sym (shows_map es m are) ∙ shows)

none_behind : (q x : ℕ) (es : Entries) → nat_cmp q x ≡ Equal → T (below_all nat_cmp x es) → where_key nat_cmp (λ a. not (eq_by_cmp nat_cmp q a)) es ≡ es
none_behind q x [] tied below = refl
none_behind q x (e ∷ es) tied below =
    let less : nat_cmp q e.0 ≡ Less = nat_cmp_total.congr q x e.0 tied ∙ less_from (nat_cmp x e.0) (both_first _ _ below) in
    ap (λ (o : Ordering). cond (not (is_eq o)) (e ∷ where_key nat_cmp (λ a. not (eq_by_cmp nat_cmp q a)) es) (where_key nat_cmp (λ a. not (eq_by_cmp nat_cmp q a)) es)) less
    ∙ ap (λ t. e ∷ t) (none_behind q x es tied (both_second (is_lt (nat_cmp x e.0)) _ below))

-- in a list by rising ID, the first entry of an ID is the only one
remove_entry-sorted : (q : ℕ) (es : Entries) → T (is_sorted nat_cmp es) → remove_entry (λ a. is_eq (nat_cmp q a)) es ≡ where_key nat_cmp (λ a. not (eq_by_cmp nat_cmp q a)) es
remove_entry-sorted q [] sorted = refl
remove_entry-sorted q (e ∷ es) sorted = by (nat_cmp q e.0) refl (remove_entry-sorted q es (behind_first e es sorted)) where
  left : Entries
  left = where_key nat_cmp (λ a. not (eq_by_cmp nat_cmp q a)) es

  rest : Entries
  rest = remove_entry (λ a. is_eq (nat_cmp q a)) es

  by : (o : Ordering) → nat_cmp q e.0 ≡ o → rest ≡ left → cond (is_eq o) es (e ∷ rest) ≡ cond (not (is_eq o)) (e ∷ left) left
  by Less is same = ap (λ t. e ∷ t) same
  by Equal is same = sym (none_behind q e.0 es is (both_first _ _ sorted))
  by Greater is same = ap (λ t. e ∷ t) same

removed : (es after : Entries) (id : ℕ) (m : Actors) → es ≡ entries m → after ≡ remove_entry (λ a. is_eq (nat_cmp id a)) es → after ≡ entries (remove m id)
removed es after id m are is =
    is ∙ ap (remove_entry (λ a. is_eq (nat_cmp id a))) are ∙ remove_entry-sorted id (entries m) (finmap.entries_sorted m) ∙ sym (entries-remove m id)

pub entries_removed : (es after : Entries) (id : ℕ) → AreEntries es → after ≡ remove_entry (λ a. is_eq (nat_cmp id a)) es → AreEntries after
entries_removed es after id (m, are, each) is = (remove m id, removed es after id m are is, AreActors-remove m id each)

pub shown_removed : (es after : Entries) (own : Actors) (id : ℕ) → AreEntries es → from_entries es ≡ own → after ≡ remove_entry (λ a. is_eq (nat_cmp id a)) es → from_entries after ≡ remove own id
shown_removed es after own id (m, are, each) shows is =
    shows_map after (remove m id) (removed es after id m are is) ∙ ap (λ (n : Actors). remove n id) (sym (shows_map es m are) ∙ shows)
