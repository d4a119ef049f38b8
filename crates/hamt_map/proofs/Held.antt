-- What keys with spellings say of the map that they are the pairs of.
use Rattle.std.proofs.Common.{◌≡◌, ◌≢◌, ℕ, List, [], ◌∷◌, ◌++◌, Bool, true, false, cond, not, Option, Some, None, refl, sym, ap, subst, ◌∙◌, append_assoc}
use Rattle.std.proofs.lemmas.List.{append-nil, map-append, nil_from_length}
use Rattle.std.proofs.lemmas.List.Elements.{All-nil, All-cons, All-head, All-push, All-tail}
use Rattle.std.specs.Prelude.{T, is_some}
use Rattle.std.specs.Cmp.{alike_right, eq_by_cmp_equiv}
use Rattle.std.specs.Cmp.Lexicographic.{nat_list_cmp_total}
use Rattle.std.specs.List.{AllByRecursion}
use Rattle.std.specs.FinMap as finmap
use Rattle.std.specs.FinMap.{contains_key, empty, entries, get, insert, remove}
use Rattle.std.specs.FinMap.Entries.{by_order, find, put, where_key, is_sorted, is_sorted-where_key, find-where_key}
use Rattle.std.specs.Map.{lookup, remove_entry}
use Rattle.std.specs.Option.{option_map}
use Rattle.std.specs.Ordering.{is_eq, eq_by_cmp}
use Rattle.std.specs.declared.cmp.Ordering.{Ordering}
use Rattle.std.specs.declared.cmp.Ordering.TheVariants.{Less, Equal, Greater}
use Rattle.dag_cbor.specs.declared.value.Value.{Value}
use Rattle.dag_cbor.specs.Plain.{IsPlain}
use Rattle.dag_cbor.specs.Spelling.{spelled}
use Rattle.dag_cbor.proofs.OneSpelling.{one_spelling_within}
use Rattle.hamt_map.specs.Pairs.{Map, Pairs, key_cmp}
use Rattle.hamt_map.specs.Holds.{FitNodes, Holds, IsSpelling, spellings}
use Rattle.hamt_map.proofs.Depths.{four_deeper}
use Rattle.hamt_map.proofs.Spellings.{is_some-map, find-shown, shown-remove_entry, remove_entry-sorted}

-- ---- lists of pairs and their spellings

spellings-put : (k : List ℕ) (x : Value) (es : Pairs) → spellings (put key_cmp k x es) ≡ put key_cmp k (spelled x) (spellings es)
spellings-put k x [] = refl
spellings-put k x (e ∷ es) = by (key_cmp k e.0) (spellings-put k x es) where
  rest : Pairs
  rest = put key_cmp k x es

  left : List (List ℕ × List ℕ)
  left = put key_cmp k (spelled x) (spellings es)

  by : (o : Ordering) → spellings rest ≡ left → spellings (by_order o ((k, x) ∷ e ∷ es) ((e.0, x) ∷ es) (e ∷ rest))
      ≡ by_order o ((k, spelled x) ∷ spellings (e ∷ es)) ((e.0, spelled x) ∷ spellings es) ((e.0, spelled e.1) ∷ left)
  by Less same = refl
  by Equal same = refl
  by Greater same = ap (λ t. (e.0, spelled e.1) ∷ t) same

lookup-find : {X : Type 0} (q : List ℕ) (es : List (List ℕ × X)) → lookup (λ a. is_eq (key_cmp q a)) es ≡ find key_cmp q es
lookup-find q [] = refl
lookup-find q (e ∷ es) = ap (cond (is_eq (key_cmp q e.0)) (Some e.1)) (lookup-find q es)

find-spellings : (q : List ℕ) (es : Pairs) → find key_cmp q (spellings es) ≡ option_map spelled (find key_cmp q es)
find-spellings q es = find-shown (λ k. k) spelled q es ∙ ap (option_map spelled) (lookup-find q es)

spellings-remove_entry : (q : List ℕ) (es : Pairs) → spellings (remove_entry (λ a. is_eq (key_cmp q a)) es) ≡ remove_entry (λ a. is_eq (key_cmp q a)) (spellings es)
spellings-remove_entry q es = shown-remove_entry (λ k. k) spelled q es

fit_put : (k : List ℕ) (x : Value) (es : Pairs) → IsPlain 124 x → FitNodes es → FitNodes (put key_cmp k x es)
fit_put k x [] plain fit = All-cons (λ p. IsPlain 124 p.1) (k, x) [] plain fit
fit_put k x (e ∷ es) plain fit =
    let here : IsPlain 124 e.1 = All-head (λ p. IsPlain 124 p.1) e es fit in
    let rest : FitNodes es = All-tail (λ p. IsPlain 124 p.1) e es fit in
    elim (key_cmp k e.0) as (λ o. FitNodes (by_order o ((k, x) ∷ e ∷ es) ((e.0, x) ∷ es) (e ∷ put key_cmp k x es))) [
      | Less ↦ All-cons (λ p. IsPlain 124 p.1) (k, x) (e ∷ es) plain fit
      | Equal ↦ All-cons (λ p. IsPlain 124 p.1) (e.0, x) es plain rest
      | Greater ↦ All-cons (λ p. IsPlain 124 p.1) e (put key_cmp k x es) here (fit_put k x es plain rest)
    ]

fit_remove : (q : List ℕ) (es : Pairs) → FitNodes es → FitNodes (remove_entry (λ a. is_eq (key_cmp q a)) es)
fit_remove q [] fit = fit
fit_remove q (e ∷ es) fit =
    let here : IsPlain 124 e.1 = All-head (λ p. IsPlain 124 p.1) e es fit in
    let rest : FitNodes es = All-tail (λ p. IsPlain 124 p.1) e es fit in
    elim (is_eq (key_cmp q e.0)) as (λ b. FitNodes (cond b es (e ∷ remove_entry (λ a. is_eq (key_cmp q a)) es))) [
      | true ↦ rest
      | false ↦ All-cons (λ p. IsPlain 124 p.1) e (remove_entry (λ a. is_eq (key_cmp q a)) es) here (fit_remove q es rest)
    ]

-- what is found fits into a node
pub fit_found : (q : List ℕ) (es : Pairs) (x : Value) → FitNodes es → find key_cmp q es ≡ Some x → IsPlain 124 x
fit_found q [] x fit found = absurd (subst T (ap is_some (sym found)) tt)
fit_found q (e ∷ es) x fit found =
    elim (eq_by_cmp key_cmp q e.0) as (λ b. cond b (Some e.1) (find key_cmp q es) ≡ Some x → IsPlain 124 x) [
      | true ↦ λ is. let same : e.1 ≡ x = cc in subst (IsPlain 124) same (All-head (λ p. IsPlain 124 p.1) e es fit)
      | false ↦ λ is. fit_found q es x (All-tail (λ p. IsPlain 124 p.1) e es fit) is
    ] found

-- ---- maps

pub key_cmp_same : finmap.IsAntisymmetric key_cmp
key_cmp_same = finmap.slice_cmp-IsAntisymmetric finmap.nat_cmp-IsAntisymmetric

pub entries-empty : entries (empty {K = List ℕ} {X = Value} {R = key_cmp}) ≡ []
entries-empty = nil_from_length _ (sym (finmap.len-entries (empty {R = key_cmp})) ∙ finmap.len-empty key_cmp Value)

turned : {A : Type 0} (b : Bool) (x y : A) → cond (not b) x y ≡ cond b y x
turned true x y = refl
turned false x y = refl

pub entries-remove : (m : Map) (q : List ℕ) → entries (remove m q) ≡ where_key key_cmp (λ a. not (eq_by_cmp key_cmp q a)) (entries m)
entries-remove m q =
    let kept : Pairs = where_key key_cmp (λ a. not (eq_by_cmp key_cmp q a)) (entries m) in
    let in_order : T (is_sorted key_cmp kept) = is_sorted-where_key key_cmp (λ a. not (eq_by_cmp key_cmp q a)) (entries m) (finmap.entries_sorted m) in
    let same : remove m q ≡ finmap.from_sorted kept = finmap.same_map nat_list_cmp_total key_cmp_same (remove m q) (finmap.from_sorted kept) (λ other.
    finmap.get-remove nat_list_cmp_total m q other
    ∙ ap (λ b. cond b None (get m other)) ((eq_by_cmp_equiv nat_list_cmp_total).symm other q)
    ∙ sym (turned (eq_by_cmp key_cmp q other) (get m other) None)
    ∙ ap (λ found. cond (not (eq_by_cmp key_cmp q other)) found None) (finmap.get-entries m other)
    ∙ sym (find-where_key key_cmp (λ a. not (eq_by_cmp key_cmp q a)) other (λ x tied. ap (λ o. not (is_eq o)) (sym (alike_right nat_list_cmp_total other x q tied))) (entries m))
    ∙ sym (finmap.get-from_sorted key_cmp kept other in_order)) in
    ap entries same ∙ finmap.entries-from_sorted key_cmp kept in_order

-- ---- what holds of pairs

pub Holds-empty : (pairs : List (List ℕ × List ℕ)) → pairs ≡ [] → Holds pairs empty
Holds-empty pairs nothing = record {
  same = nothing ∙ ap spellings (sym entries-empty);
  fit = subst FitNodes (sym entries-empty) (All-nil (λ p. IsPlain 124 p.1));
}

pub Holds-insert : (pairs after : List (List ℕ × List ℕ)) (m : Map) (k : List ℕ) (x : Value) → Holds pairs m → IsPlain 124 x → after ≡ put key_cmp k (spelled x) pairs → Holds after (insert m k x)
Holds-insert pairs after m k x held plain is =
    let entries_now = finmap.entries-insert nat_list_cmp_total m k x in
    record {
      same = is ∙ ap (put key_cmp k (spelled x)) held.same ∙ sym (spellings-put k x (entries m)) ∙ ap spellings (sym entries_now);
      fit = subst FitNodes (sym entries_now) (fit_put k x (entries m) plain held.fit);
    }

pub Holds-remove : (pairs after : List (List ℕ × List ℕ)) (m : Map) (q : List ℕ) → Holds pairs m → after ≡ remove_entry (λ a. is_eq (key_cmp q a)) pairs → Holds after (remove m q)
Holds-remove pairs after m q held is =
    let entries_now : entries (remove m q) ≡ remove_entry (λ a. is_eq (key_cmp q a)) (entries m) = entries-remove m q ∙ sym (remove_entry-sorted q (entries m) (finmap.entries_sorted m)) in
    record {
      same = is ∙ ap (remove_entry (λ a. is_eq (key_cmp q a))) held.same ∙ sym (spellings-remove_entry q (entries m)) ∙ ap spellings (sym entries_now);
      fit = subst FitNodes (sym entries_now) (fit_remove q (entries m) held.fit);
    }

pub find-Holds : (pairs : List (List ℕ × List ℕ)) (m : Map) (q : List ℕ) → Holds pairs m → find key_cmp q pairs ≡ option_map spelled (get m q)
find-Holds pairs m q held = ap (find key_cmp q) held.same ∙ find-spellings q (entries m) ∙ ap (option_map spelled) (sym (finmap.get-entries m q))

pub contains-Holds : (pairs : List (List ℕ × List ℕ)) (m : Map) (q : List ℕ) (found : Bool) → found ≡ is_some (find key_cmp q pairs) → Holds pairs m → found ≡ contains_key m q
contains-Holds pairs m q found is held = is ∙ ap is_some (find-Holds pairs m q held) ∙ is_some-map spelled (get m q)

-- ---- reading a value

pub spelling_from : (o : Option Value) (s : List ℕ) → Some s ≡ option_map spelled o → (x : Value) × (o ≡ Some x) × (s ≡ spelled x)
spelling_from None s is = absurd (subst T (ap is_some is) tt)
spelling_from (Some x) s is = (x, refl, cc)

pub found-Holds : (pairs : List (List ℕ × List ℕ)) (m : Map) (q s : List ℕ) → Holds pairs m → find key_cmp q pairs ≡ Some s → (x : Value) × (get m q ≡ Some x) × IsPlain 124 x × (s ≡ spelled x)
found-Holds pairs m q s held is =
    let there = spelling_from (get m q) s (sym is ∙ find-Holds pairs m q held) in
    (there.0, there.1, fit_found q (entries m) there.0 held.fit (sym (finmap.get-entries m q) ∙ there.1), there.2)

pub none_from : (o : Option Value) → None ≡ option_map spelled o → None ≡ o
none_from None is = refl
none_from (Some x) is = absurd (subst T (ap is_some (sym is)) tt)

pub missing-Holds : (pairs : List (List ℕ × List ℕ)) (m : Map) (q : List ℕ) → Holds pairs m → find key_cmp q pairs ≡ None → None ≡ get m q
missing-Holds pairs m q held is = none_from (get m q) (sym is ∙ find-Holds pairs m q held)

pub same_value : (d : ℕ) (spelling : List ℕ) (y x : Value) → IsPlain d y → spelling ≡ spelled y → IsPlain d x → spelling ≡ spelled x → y ≡ x
same_value d spelling y x plain-y is-y plain-x is-x = (one_spelling_within d y x [] [] plain-y plain-x (ap (λ (t : List ℕ). t ++ []) (sym is-y ∙ is-x))).0

-- what is read of a spelling at any depth fits into a node
pub read_plain : (spelling : List ℕ) (y : Value) → IsSpelling spelling → IsPlain 128 y → spelling ≡ spelled y → IsPlain 124 y
read_plain spelling y is plain-y is-y =
    subst (IsPlain 124) (sym (same_value 128 spelling y is.value plain-y is-y (four_deeper 124 is.value is.plain) is.same)) is.plain

pub found_spelling : (pairs : List (List ℕ × List ℕ)) (m : Map) (q s : List ℕ) → Holds pairs m → find key_cmp q pairs ≡ Some s → IsSpelling s
found_spelling pairs m q s held is = let there = found-Holds pairs m q s held is in record { value = there.0; plain = there.2; same = there.3 }

-- each has a spelling that fits into a node
abbrev pub AreSpellings : List (List ℕ × List ℕ) → Type 0
AreSpellings ss = AllByRecursion (λ s. IsSpelling s.1) ss

spellings_are : (pairs : Pairs) → FitNodes pairs → AreSpellings (spellings pairs)
spellings_are [] fit = tt
spellings_are (p ∷ pairs) fit =
    (record { value = p.1; plain = All-head (λ q. IsPlain 124 q.1) p pairs fit; same = refl }, spellings_are pairs (All-tail (λ q. IsPlain 124 q.1) p pairs fit))

pub AreSpellings-Holds : (pairs : List (List ℕ × List ℕ)) (m : Map) → Holds pairs m → AreSpellings pairs
AreSpellings-Holds pairs m held = subst AreSpellings (sym held.same) (spellings_are (entries m) held.fit)

-- pairs that fit into a node are known by their spellings
pub same_pairs : (xs ys : Pairs) → FitNodes xs → FitNodes ys → spellings xs ≡ spellings ys → xs ≡ ys
same_pairs [] [] fit-x fit-y is = refl
same_pairs [] (y ∷ ys) fit-x fit-y is = absurd (cc)
same_pairs (x ∷ xs) [] fit-x fit-y is = absurd (cc)
same_pairs (x ∷ xs) (y ∷ ys) fit-x fit-y is =
    let first : ◌≡◌ {A = List ℕ × List ℕ} (x.0, spelled x.1) (y.0, spelled y.1) = cc is in
    let behind : spellings xs ≡ spellings ys = cc is in
    let key : x.0 ≡ y.0 = ap (λ (s : List ℕ × List ℕ). s.0) first in
    let text : spelled x.1 ≡ spelled y.1 = ap (λ (s : List ℕ × List ℕ). s.1) first in
    let value : x.1 ≡ y.1 = same_value 124 (spelled x.1) x.1 y.1 (All-head (λ p. IsPlain 124 p.1) x xs fit-x) refl (All-head (λ p. IsPlain 124 p.1) y ys fit-y) text in
    let rest = same_pairs xs ys (All-tail (λ p. IsPlain 124 p.1) x xs fit-x) (All-tail (λ p. IsPlain 124 p.1) y ys fit-y) behind in
    λ i. (key i, value i) ∷ rest i

-- pairs with these spellings are the map's
pub read_entries : (pairs : List (List ℕ × List ℕ)) (m : Map) (xs : Pairs) → Holds pairs m → pairs ≡ spellings xs → FitNodes xs → xs ≡ entries m
read_entries pairs m xs held is fit = same_pairs xs (entries m) fit held.fit (sym is ∙ held.same)

-- keys with spellings are those of one map at most
pub one_map : (pairs : List (List ℕ × List ℕ)) (m n : Map) → Holds pairs m → Holds pairs n → m ≡ n
one_map pairs m n held-m held-n = finmap.same_entries_map m n (same_pairs (entries m) (entries n) held-m.fit held-n.fit (sym held-m.same ∙ held-n.same))

-- some pairs are read, and these spellings are left
pub record ReadSoFar (whole left : List (List ℕ × List ℕ)) (done : Pairs) : Type 0 where
  pub all : whole ≡ spellings done ++ left
  pub fit : FitNodes done
  pub spelled : AreSpellings left

pub read_more : (whole left : List (List ℕ × List ℕ)) (done : Pairs) (s : List ℕ × List ℕ) (x : Value) → ReadSoFar whole (s ∷ left) done → IsPlain 124 x → s.1 ≡ spelled x → ReadSoFar whole left (done ++ (s.0, x) ∷ [])
read_more whole left done s x so_far plain is = record {
  all = so_far.all ∙ ap (λ (t : List ℕ). spellings done ++ (s.0, t) ∷ left) is ∙ sym (append_assoc (spellings done) ((s.0, spelled x) ∷ []) left)
      ∙ ap (λ (ss : List (List ℕ × List ℕ)). ss ++ left) (sym (map-append (λ (p : List ℕ × Value). (p.0, spelled p.1)) done ((s.0, x) ∷ [])));
  fit = All-push (λ p. IsPlain 124 p.1) done (s.0, x) so_far.fit plain;
  spelled = so_far.spelled.1;
}

pub read_all : (whole left : List (List ℕ × List ℕ)) (done : Pairs) → ReadSoFar whole left done → left ≡ [] → whole ≡ spellings done
read_all whole left done so_far none = so_far.all ∙ ap (λ (ss : List (List ℕ × List ℕ)). spellings done ++ ss) none ∙ append-nil (spellings done)

-- ---- orders

pub tied_from : (o : Ordering) → is_eq o ≡ true → o ≡ Equal
tied_from Less is = absurd (subst T (sym is) tt)
tied_from Equal is = refl
tied_from Greater is = absurd (subst T (sym is) tt)

pub tied_same : (q k : List ℕ) → eq_by_cmp key_cmp q k ≡ true → q ≡ k
tied_same q k tied = key_cmp_same q k (tied_from _ tied)

two_tests : {A : Type 0} (s t : Bool) (x y z : A) → (s ≡ true → t ≡ true → ⊥) → cond s x (cond t y z) ≡ cond t y (cond s x z)
two_tests true true x y z apart = absurd (apart refl refl)
two_tests true false x y z apart = refl
two_tests false t x y z apart = refl

-- two different keys are given their values in any order
pub insert-insert : (m : Map) (a b : List ℕ) (x y : Value) → a ≢ b → insert (insert m a x) b y ≡ insert (insert m b y) a x
insert-insert m a b x y apart = finmap.same_map nat_list_cmp_total key_cmp_same _ _ (λ q.
    finmap.get-insert nat_list_cmp_total (insert m a x) b y q ∙ ap (cond (eq_by_cmp key_cmp q b) (Some y)) (finmap.get-insert nat_list_cmp_total m a x q)
    ∙ two_tests (eq_by_cmp key_cmp q b) (eq_by_cmp key_cmp q a) (Some y) (Some x) (get m q) (λ at-b at-a. apart (sym (tied_same q a at-a) ∙ tied_same q b at-b))
    ∙ sym (finmap.get-insert nat_list_cmp_total (insert m b y) a x q ∙ ap (cond (eq_by_cmp key_cmp q a) (Some x)) (finmap.get-insert nat_list_cmp_total m b y q)))
