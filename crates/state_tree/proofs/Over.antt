-- What is added up over the records of actors, in the order of their keys, is what is added up over the actors.
use Rattle.std.proofs.Common.{◌≡◌, ℕ, zero, suc, ◌+◌, ◌-◌, ◌<◌, ◌≤◌, ◌^◌, List, [], ◌∷◌, Bool, true, false, cond, ◌&&◌, length, map, take, get_or, Option, Some, None, leb, refl, sym, ap, subst, ◌∙◌, arith}
use Rattle.std.proofs.lemmas.List.Elements.{All-head, All-tail}
use Rattle.std.proofs.lemmas.List.Sums.{sum_by-cons, sum_by_more, sum_by-take-le}
use Rattle.std.proofs.lemmas.Bool.{and_parts}
use Rattle.std.proofs.lemmas.Bool.Decides.{nat_tests}
use Rattle.std.specs.Prelude.{All, T, is_some, nat_lt, sum}
use Rattle.std.specs.Cmp.{nat_cmp_total}
use Rattle.std.specs.Cmp.Lexicographic.{nat_list_cmp_total}
use Rattle.std.specs.FinMap as finmap
use Rattle.std.specs.FinMap.{entries, from_entries, get}
use Rattle.std.specs.FinMap.Entries.{below_all, by_order, find, is_sorted, put}
use Rattle.std.specs.List.{list_all, sum_by}
use Rattle.std.specs.Option.{option_map}
use Rattle.std.specs.Ordering.{eq_by_cmp, is_eq, is_lt, nat_cmp}
use Rattle.std.specs.declared.cmp.Ordering.{Ordering}
use Rattle.std.specs.declared.cmp.Ordering.TheVariants.{Less, Equal, Greater}
use Rattle.dag_cbor.specs.declared.value.Value.{Value}
use Rattle.hamt_map.specs.Pairs.{Pairs, key_cmp}
use Rattle.hamt_map.proofs.Held.{entries-empty}
use Rattle.state_tree.specs.Actors.{Actors, AreActors, actor_record, balances, id_key, records, IsEntry, record_pair}
use Rattle.state_tree.specs.ActorPairs.{balance_in, balance_of, is_below}
use Rattle.state_tree.specs.Reading.{id_in}
use Rattle.state_tree.specs.declared.actor.Actor.{Actor}
use Rattle.state_tree.proofs.FindRecords.{by_id, find-records}
use Rattle.state_tree.proofs.Keys.{id_of_key}
use Rattle.state_tree.proofs.RecordRead.{actor_of_record}

-- ---- pairs in any order

-- what is joined of each pair
joined : {A : Type 0} → (A → A → A) → A → (List ℕ × Value → A) → Pairs → A
joined join start of [] = start
joined join start of (p ∷ ps) = join (of p) (joined join start of ps)

joined-put : {A : Type 0} (join : A → A → A) (start : A) (of : List ℕ × Value → A) → ((a b c : A) → join a (join b c) ≡ join b (join a c)) → (k : List ℕ) (x : Value) (ps : Pairs) → find key_cmp k ps ≡ None
    → joined join start of (put key_cmp k x ps) ≡ join (of (k, x)) (joined join start of ps)
unfolding joined
joined-put join start of swap k x [] new = refl
joined-put join start of swap k x (p ∷ ps) new =
    elim (key_cmp k p.0) as (λ o. cond (is_eq o) (Some p.1) (find key_cmp k ps) ≡ None
    → joined join start of (by_order o ((k, x) ∷ p ∷ ps) ((p.0, x) ∷ ps) (p ∷ put key_cmp k x ps)) ≡ join (of (k, x)) (join (of p) (joined join start of ps))) [
      | Less ↦ λ is. refl
      | Equal ↦ λ is. absurd (cc)
      | Greater ↦ λ is. ap (join (of p)) (joined-put join start of swap k x ps is) ∙ swap (of p) (of (k, x)) (joined join start of ps)
    ] new

-- each key is new
abbrev AreNew : Pairs → Type 0
AreNew [] = Unit {0}
AreNew (p ∷ ps) = (find key_cmp p.0 ps ≡ None) × AreNew ps

joined-from_entries : {A : Type 0} (join : A → A → A) (start : A) (of : List ℕ × Value → A) → ((a b c : A) → join a (join b c) ≡ join b (join a c)) → (ps : Pairs) → AreNew ps
    → joined join start of (entries (from_entries {R = key_cmp} ps)) ≡ joined join start of ps
unfolding joined
joined-from_entries join start of swap [] new = ap (joined join start of) entries-empty
joined-from_entries join start of swap (p ∷ ps) new =
    ap (joined join start of) (finmap.entries-insert nat_list_cmp_total (from_entries ps) p.0 p.1)
    ∙ joined-put join start of swap p.0 p.1 (entries (from_entries ps)) (sym (finmap.get-entries (from_entries ps) p.0) ∙ finmap.get-from_entries nat_list_cmp_total ps p.0 ∙ new.0)
    ∙ ap (join (of p)) (joined-from_entries join start of swap ps new.1)

-- ---- the keys of actors are new

less_is : (o : Ordering) (b : Bool) → T (is_lt o && b) → (is_eq o ≡ false) × T b
less_is Less b h = (refl, h)
less_is Equal b h = absurd h
less_is Greater b h = absurd h

below_is_new : (id : ℕ) (es : List (ℕ × Actor)) → T (below_all nat_cmp id es) → find nat_cmp id es ≡ None
below_is_new id [] below = refl
below_is_new id (e ∷ es) below =
    let both = less_is (nat_cmp id e.0) (below_all nat_cmp id es) below in
    ap (λ t. cond t (Some e.1) (find nat_cmp id es)) both.0 ∙ below_is_new id es both.1

two_so : (s t : Bool) → T (s && t) → T s × T t
two_so true t h = (tt, h)
two_so false t h = absurd h

new_records : (es : List (ℕ × Actor)) → T (is_sorted nat_cmp es) → All IsEntry es → AreNew (map record_pair es)
new_records [] sorted are = tt
new_records (e ∷ es) sorted are =
    let here : IsEntry e = All-head IsEntry e es are in
    let rest : All IsEntry es = All-tail IsEntry e es are in
    let parts = two_so (below_all nat_cmp e.0 es) (is_sorted nat_cmp es) sorted in
    (find-records (id_key e.0) es rest ∙ ap (λ (o : Option ℕ). by_id o es) (id_of_key e.0 here.0) ∙ ap (option_map actor_record) (below_is_new e.0 es parts.0), new_records es parts.1 rest)

joined-records : {A : Type 0} (join : A → A → A) (start : A) (of : List ℕ × Value → A) → ((a b c : A) → join a (join b c) ≡ join b (join a c)) → (actors : Actors) → AreActors actors
    → joined join start of (entries (records actors)) ≡ joined join start of (map record_pair (entries actors))
joined-records join start of swap actors are =
    joined-from_entries join start of swap (map record_pair (entries actors)) (new_records (entries actors) (finmap.entries_sorted actors) are)

-- ---- the sum of all balances

add : ℕ → ℕ → ℕ
add a b = a + b

add-swap : (a b c : ℕ) → add a (add b c) ≡ add b (add a c)
unfolding add
add-swap a b c = omega arith

sum_is_joined : (of : List ℕ × Value → ℕ) (ps : Pairs) → sum_by of ps ≡ joined add 0 of ps
unfolding joined add
sum_is_joined of [] = refl
sum_is_joined of (p ∷ ps) = sum_by-cons of p ps ∙ ap (λ n. of p + n) (sum_is_joined of ps)

joined_balances : (es : List (ℕ × Actor)) → All IsEntry es → joined add 0 (λ p. balance_in p.1) (map record_pair es) ≡ sum (map (λ e. e.1.balance) es)
unfolding joined add
joined_balances [] are = refl
joined_balances (e ∷ es) are =
    let here : IsEntry e = All-head IsEntry e es are in
    (λ i. balance_of (actor_of_record e.1 here.1 i) + joined_balances es (All-tail IsEntry e es are) i)
    ∙ sym (sum_by-cons (λ n. n) e.1.balance (map (λ (a : ℕ × Actor). a.1.balance) es))

-- the balances of the records are those of the actors
pub balances_of_records : (actors : Actors) → AreActors actors → sum_by (λ p. balance_in p.1) (entries (records actors)) ≡ balances actors
balances_of_records actors are =
    sum_is_joined (λ p. balance_in p.1) (entries (records actors)) ∙ joined-records add 0 (λ p. balance_in p.1) add-swap actors are ∙ joined_balances (entries actors) are

-- ---- a test of all IDs

also : Bool → Bool → Bool
also a b = a && b

also-swap : (a b c : Bool) → also a (also b c) ≡ also b (also a c)
unfolding also
also-swap true true c = refl
also-swap true false c = refl
also-swap false true c = refl
also-swap false false c = refl

all_is_joined : (of : List ℕ × Value → Bool) (ps : Pairs) → list_all of ps ≡ joined also true of ps
unfolding joined also
all_is_joined of [] = refl
all_is_joined of (p ∷ ps) = ap (λ t. of p && t) (all_is_joined of ps)

joined_ids : (next : ℕ) (es : List (ℕ × Actor)) → All IsEntry es → joined also true (λ p. is_below next (id_in p.0)) (map record_pair es) ≡ list_all (λ e. nat_lt e.0 next) es
unfolding joined also
joined_ids next [] are = refl
joined_ids next (e ∷ es) are =
    let here : IsEntry e = All-head IsEntry e es are in
    λ i. is_below next (id_of_key e.0 here.0 i) && joined_ids next es (All-tail IsEntry e es are) i

-- the IDs of the keys are those of the actors
pub ids_of_records : (next : ℕ) (actors : Actors) → AreActors actors → list_all (λ p. is_below next (id_in p.0)) (entries (records actors)) ≡ list_all (λ e. nat_lt e.0 next) (entries actors)
ids_of_records next actors are =
    all_is_joined (λ p. is_below next (id_in p.0)) (entries (records actors)) ∙ joined-records also true (λ p. is_below next (id_in p.0)) also-swap actors are ∙ joined_ids next (entries actors) are
