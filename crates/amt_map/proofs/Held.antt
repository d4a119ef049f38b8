-- What indexes with spellings say of the map that they are the pairs of.
use Rattle.std.proofs.Common.{◌≡◌, ◌≢◌, ◌<◌, ◌^◌, ℕ, List, [], ◌∷◌, ◌++◌, length, Bool, true, false, cond, not, Option, Some, None, refl, sym, ap, subst, ◌∙◌, append_assoc}
use Rattle.std.proofs.lemmas.List.{append-nil, length-map, map-append, nil_from_length}
use Rattle.std.proofs.lemmas.List.Elements.{All-nil, All-cons, All-head, All-push, All-tail}
use Rattle.std.specs.Prelude.{T, is_some}
use Rattle.std.specs.Cmp.{alike_right, eq_by_cmp_equiv, nat_cmp_total}
use Rattle.std.specs.List.{AllByRecursion}
use Rattle.std.specs.FinMap as finmap
use Rattle.std.specs.FinMap.{empty, entries, get, insert, remove}
use Rattle.std.specs.FinMap.Entries.{by_order, find, put, where_key, is_sorted, is_sorted-where_key, find-where_key}
use Rattle.std.specs.Map.{lookup, remove_entry}
use Rattle.std.specs.Option.{option_map}
use Rattle.std.specs.Ordering.{is_eq, eq_by_cmp, nat_cmp}
use Rattle.std.specs.declared.cmp.Ordering.{Ordering}
use Rattle.std.specs.declared.cmp.Ordering.TheVariants.{Less, Equal, Greater}
use Rattle.dag_cbor.specs.declared.value.Value.{Value}
use Rattle.dag_cbor.specs.Plain.{IsPlain}
use Rattle.dag_cbor.specs.Spelling.{spelled}
use Rattle.dag_cbor.proofs.OneSpelling.{one_spelling_within}
use Rattle.amt_map.specs.Pairs.{Map, Pairs}
use Rattle.amt_map.specs.Holds.{FitRoot, Holds, IsSpelling, spellings}
use Rattle.amt_map.proofs.Depths.{three_deeper}
use Rattle.amt_map.proofs.Spellings.{find-shown, shown-remove_entry, remove_entry-sorted}

-- a pair fits into a root
abbrev pub Fits : ℕ × Value → Type 0
Fits p = (p.0 < 2 ^ 60) × IsPlain 125 p.1

-- ---- lists of pairs and their spellings

spellings-put : (k : ℕ) (x : Value) (es : Pairs) → spellings (put nat_cmp k x es) ≡ put nat_cmp k (spelled x) (spellings es)
spellings-put k x [] = refl
spellings-put k x (e ∷ es) = by (nat_cmp k e.0) (spellings-put k x es) where
  rest : Pairs
  rest = put nat_cmp k x es

  left : List (ℕ × List ℕ)
  left = put nat_cmp k (spelled x) (spellings es)

  by : (o : Ordering) → spellings rest ≡ left → spellings (by_order o ((k, x) ∷ e ∷ es) ((e.0, x) ∷ es) (e ∷ rest))
      ≡ by_order o ((k, spelled x) ∷ spellings (e ∷ es)) ((e.0, spelled x) ∷ spellings es) ((e.0, spelled e.1) ∷ left)
  by Less same = refl
  by Equal same = refl
  by Greater same = ap (λ t. (e.0, spelled e.1) ∷ t) same

lookup-find : {X : Type 0} (q : ℕ) (es : List (ℕ × X)) → lookup (λ a. is_eq (nat_cmp q a)) es ≡ find nat_cmp q es
lookup-find q [] = refl
lookup-find q (e ∷ es) = ap (cond (is_eq (nat_cmp q e.0)) (Some e.1)) (lookup-find q es)

find-spellings : (q : ℕ) (es : Pairs) → find nat_cmp q (spellings es) ≡ option_map spelled (find nat_cmp q es)
find-spellings q es = find-shown spelled q es ∙ ap (option_map spelled) (lookup-find q es)

spellings-remove_entry : (q : ℕ) (es : Pairs) → spellings (remove_entry (λ a. is_eq (nat_cmp q a)) es) ≡ remove_entry (λ a. is_eq (nat_cmp q a)) (spellings es)
spellings-remove_entry q es = shown-remove_entry spelled q es

fit_put : (k : ℕ) (x : Value) (es : Pairs) → k < 2 ^ 60 → IsPlain 125 x → FitRoot es → FitRoot (put nat_cmp k x es)
fit_put k x [] small plain fit = All-cons Fits (k, x) [] (small, plain) fit
fit_put k x (e ∷ es) small plain fit =
    let here : Fits e = All-head Fits e es fit in
    let rest : FitRoot es = All-tail Fits e es fit in
    elim (nat_cmp k e.0) as (λ o. FitRoot (by_order o ((k, x) ∷ e ∷ es) ((e.0, x) ∷ es) (e ∷ put nat_cmp k x es))) [
      | Less ↦ All-cons Fits (k, x) (e ∷ es) (small, plain) fit
      | Equal ↦ All-cons Fits (e.0, x) es (here.0, plain) rest
      | Greater ↦ All-cons Fits e (put nat_cmp k x es) here (fit_put k x es small plain rest)
    ]

fit_remove : (q : ℕ) (es : Pairs) → FitRoot es → FitRoot (remove_entry (λ a. is_eq (nat_cmp q a)) es)
fit_remove q [] fit = fit
fit_remove q (e ∷ es) fit =
    let here : Fits e = All-head Fits e es fit in
    let rest : FitRoot es = All-tail Fits e es fit in
    elim (is_eq (nat_cmp q e.0)) as (λ b. FitRoot (cond b es (e ∷ remove_entry (λ a. is_eq (nat_cmp q a)) es))) [
      | true ↦ rest
      | false ↦ All-cons Fits e (remove_entry (λ a. is_eq (nat_cmp q a)) es) here (fit_remove q es rest)
    ]

-- what is found fits into a root
fit_found : (q : ℕ) (es : Pairs) (x : Value) → FitRoot es → find nat_cmp q es ≡ Some x → IsPlain 125 x
fit_found q [] x fit found = absurd (subst T (ap is_some (sym found)) tt)
fit_found q (e ∷ es) x fit found =
    elim (eq_by_cmp nat_cmp q e.0) as (λ b. cond b (Some e.1) (find nat_cmp q es) ≡ Some x → IsPlain 125 x) [
      | true ↦ λ is. let same : e.1 ≡ x = cc in subst (IsPlain 125) same (All-head Fits e es fit).1
      | false ↦ λ is. fit_found q es x (All-tail Fits e es fit) is
    ] found

-- ---- maps

pub nat_cmp_same : finmap.IsAntisymmetric nat_cmp
nat_cmp_same = finmap.nat_cmp-IsAntisymmetric

pub entries-empty : entries (empty {K = ℕ} {X = Value} {R = nat_cmp}) ≡ []
entries-empty = nil_from_length _ (sym (finmap.len-entries (empty {R = nat_cmp})) ∙ finmap.len-empty nat_cmp Value)

turned : {A : Type 0} (b : Bool) (x y : A) → cond (not b) x y ≡ cond b y x
turned true x y = refl
turned false x y = refl

pub entries-remove : (m : Map) (q : ℕ) → entries (remove m q) ≡ where_key nat_cmp (λ a. not (eq_by_cmp nat_cmp q a)) (entries m)
entries-remove m q =
    let kept : Pairs = where_key nat_cmp (λ a. not (eq_by_cmp nat_cmp q a)) (entries m) in
    let in_order : T (is_sorted nat_cmp kept) = is_sorted-where_key nat_cmp (λ a. not (eq_by_cmp nat_cmp q a)) (entries m) (finmap.entries_sorted m) in
    let same : remove m q ≡ finmap.from_sorted kept = finmap.same_map nat_cmp_total nat_cmp_same (remove m q) (finmap.from_sorted kept) (λ other.
    finmap.get-remove nat_cmp_total m q other
    ∙ ap (λ b. cond b None (get m other)) ((eq_by_cmp_equiv nat_cmp_total).symm other q)
    ∙ sym (turned (eq_by_cmp nat_cmp q other) (get m other) None)
    ∙ ap (λ found. cond (not (eq_by_cmp nat_cmp q other)) found None) (finmap.get-entries m other)
    ∙ sym (find-where_key nat_cmp (λ a. not (eq_by_cmp nat_cmp q a)) other (λ x tied. ap (λ o. not (is_eq o)) (sym (alike_right nat_cmp_total other x q tied))) (entries m))
    ∙ sym (finmap.get-from_sorted nat_cmp kept other in_order)) in
    ap entries same ∙ finmap.entries-from_sorted nat_cmp kept in_order

-- ---- what holds of pairs

pub Holds-empty : (pairs : List (ℕ × List ℕ)) → pairs ≡ [] → Holds pairs empty
Holds-empty pairs nothing = record {
  same = nothing ∙ ap spellings (sym entries-empty);
  fit = subst FitRoot (sym entries-empty) (All-nil Fits);
}

pub Holds-insert : (pairs after : List (ℕ × List ℕ)) (m : Map) (k : ℕ) (x : Value) → Holds pairs m → k < 2 ^ 60 → IsPlain 125 x → after ≡ put nat_cmp k (spelled x) pairs → Holds after (insert m k x)
Holds-insert pairs after m k x held small plain is =
    let entries_now = finmap.entries-insert nat_cmp_total m k x in
    record {
      same = is ∙ ap (put nat_cmp k (spelled x)) held.same ∙ sym (spellings-put k x (entries m)) ∙ ap spellings (sym entries_now);
      fit = subst FitRoot (sym entries_now) (fit_put k x (entries m) small plain held.fit);
    }

pub Holds-remove : (pairs after : List (ℕ × List ℕ)) (m : Map) (q : ℕ) → Holds pairs m → after ≡ remove_entry (λ a. is_eq (nat_cmp q a)) pairs → Holds after (remove m q)
Holds-remove pairs after m q held is =
    let entries_now : entries (remove m q) ≡ remove_entry (λ a. is_eq (nat_cmp q a)) (entries m) = entries-remove m q ∙ sym (remove_entry-sorted q (entries m) (finmap.entries_sorted m)) in
    record {
      same = is ∙ ap (remove_entry (λ a. is_eq (nat_cmp q a))) held.same ∙ sym (spellings-remove_entry q (entries m)) ∙ ap spellings (sym entries_now);
      fit = subst FitRoot (sym entries_now) (fit_remove q (entries m) held.fit);
    }

pub find-Holds : (pairs : List (ℕ × List ℕ)) (m : Map) (q : ℕ) → Holds pairs m → find nat_cmp q pairs ≡ option_map spelled (get m q)
find-Holds pairs m q held = ap (find nat_cmp q) held.same ∙ find-spellings q (entries m) ∙ ap (option_map spelled) (sym (finmap.get-entries m q))

-- ---- reading a value

spelling_from : (o : Option Value) (s : List ℕ) → Some s ≡ option_map spelled o → (x : Value) × (o ≡ Some x) × (s ≡ spelled x)
spelling_from None s is = absurd (subst T (ap is_some is) tt)
spelling_from (Some x) s is = (x, refl, cc)

pub found-Holds : (pairs : List (ℕ × List ℕ)) (m : Map) (q : ℕ) (s : List ℕ) → Holds pairs m → find nat_cmp q pairs ≡ Some s → (x : Value) × (get m q ≡ Some x) × IsPlain 125 x × (s ≡ spelled x)
found-Holds pairs m q s held is =
    let there = spelling_from (get m q) s (sym is ∙ find-Holds pairs m q held) in
    (there.0, there.1, fit_found q (entries m) there.0 held.fit (sym (finmap.get-entries m q) ∙ there.1), there.2)

none_from : (o : Option Value) → None ≡ option_map spelled o → None ≡ o
none_from None is = refl
none_from (Some x) is = absurd (subst T (ap is_some (sym is)) tt)

pub missing-Holds : (pairs : List (ℕ × List ℕ)) (m : Map) (q : ℕ) → Holds pairs m → find nat_cmp q pairs ≡ None → None ≡ get m q
missing-Holds pairs m q held is = none_from (get m q) (sym is ∙ find-Holds pairs m q held)

pub same_value : (d : ℕ) (spelling : List ℕ) (y x : Value) → IsPlain d y → spelling ≡ spelled y → IsPlain d x → spelling ≡ spelled x → y ≡ x
same_value d spelling y x plain-y is-y plain-x is-x = (one_spelling_within d y x [] [] plain-y plain-x (ap (λ (t : List ℕ). t ++ []) (sym is-y ∙ is-x))).0

-- what is read of a spelling at any depth fits into a root
pub read_plain : (spelling : List ℕ) (y : Value) → IsSpelling spelling → IsPlain 128 y → spelling ≡ spelled y → IsPlain 125 y
read_plain spelling y is plain-y is-y =
    subst (IsPlain 125) (sym (same_value 128 spelling y is.value plain-y is-y (three_deeper 125 is.value is.plain) is.same)) is.plain

pub found_spelling : (pairs : List (ℕ × List ℕ)) (m : Map) (q : ℕ) (s : List ℕ) → Holds pairs m → find nat_cmp q pairs ≡ Some s → IsSpelling s
found_spelling pairs m q s held is = let there = found-Holds pairs m q s held is in record { value = there.0; plain = there.2; same = there.3 }

-- each is an index with a spelling that fits into a root
abbrev pub AreSpellings : List (ℕ × List ℕ) → Type 0
AreSpellings ss = AllByRecursion (λ s. (s.0 < 2 ^ 60) × IsSpelling s.1) ss

spellings_are : (pairs : Pairs) → FitRoot pairs → AreSpellings (spellings pairs)
spellings_are [] fit = tt
spellings_are (p ∷ pairs) fit =
    (((All-head Fits p pairs fit).0, record { value = p.1; plain = (All-head Fits p pairs fit).1; same = refl }), spellings_are pairs (All-tail Fits p pairs fit))

pub AreSpellings-Holds : (pairs : List (ℕ × List ℕ)) (m : Map) → Holds pairs m → AreSpellings pairs
AreSpellings-Holds pairs m held = subst AreSpellings (sym held.same) (spellings_are (entries m) held.fit)

-- pairs that fit into a root are known by their spellings
pub same_pairs : (xs ys : Pairs) → FitRoot xs → FitRoot ys → spellings xs ≡ spellings ys → xs ≡ ys
same_pairs [] [] fit-x fit-y is = refl
same_pairs [] (y ∷ ys) fit-x fit-y is = absurd (cc)
same_pairs (x ∷ xs) [] fit-x fit-y is = absurd (cc)
same_pairs (x ∷ xs) (y ∷ ys) fit-x fit-y is =
    let first : ◌≡◌ {A = ℕ × List ℕ} (x.0, spelled x.1) (y.0, spelled y.1) = cc is in
    let behind : spellings xs ≡ spellings ys = cc is in
    let key : x.0 ≡ y.0 = ap (λ (s : ℕ × List ℕ). s.0) first in
    let text : spelled x.1 ≡ spelled y.1 = ap (λ (s : ℕ × List ℕ). s.1) first in
    let value : x.1 ≡ y.1 = same_value 125 (spelled x.1) x.1 y.1 (All-head Fits x xs fit-x).1 refl (All-head Fits y ys fit-y).1 text in
    let rest = same_pairs xs ys (All-tail Fits x xs fit-x) (All-tail Fits y ys fit-y) behind in
    λ i. (key i, value i) ∷ rest i

-- pairs with these spellings are the map's
pub read_entries : (pairs : List (ℕ × List ℕ)) (m : Map) (xs : Pairs) → Holds pairs m → pairs ≡ spellings xs → FitRoot xs → xs ≡ entries m
read_entries pairs m xs held is fit = same_pairs xs (entries m) fit held.fit (sym is ∙ held.same)

-- indexes with spellings are those of one map at most
pub one_map : (pairs : List (ℕ × List ℕ)) (m n : Map) → Holds pairs m → Holds pairs n → m ≡ n
one_map pairs m n held-m held-n = finmap.same_entries_map m n (same_pairs (entries m) (entries n) held-m.fit held-n.fit (sym held-m.same ∙ held-n.same))

-- some pairs are read, and these spellings are left
pub record ReadSoFar (whole left : List (ℕ × List ℕ)) (done : Pairs) : Type 0 where
  pub all : whole ≡ spellings done ++ left
  pub fit : FitRoot done
  pub spelled : AreSpellings left

pub read_more : (whole left : List (ℕ × List ℕ)) (done : Pairs) (s : ℕ × List ℕ) (x : Value) → ReadSoFar whole (s ∷ left) done → IsPlain 125 x → s.1 ≡ spelled x → ReadSoFar whole left (done ++ (s.0, x) ∷ [])
read_more whole left done s x so_far plain is = record {
  all = so_far.all ∙ ap (λ (t : List ℕ). spellings done ++ (s.0, t) ∷ left) is ∙ sym (append_assoc (spellings done) ((s.0, spelled x) ∷ []) left)
      ∙ ap (λ (ss : List (ℕ × List ℕ)). ss ++ left) (sym (map-append (λ (p : ℕ × Value). (p.0, spelled p.1)) done ((s.0, x) ∷ [])));
  fit = All-push Fits done (s.0, x) so_far.fit (so_far.spelled.0.0, plain);
  spelled = so_far.spelled.1;
}

pub read_all : (whole left : List (ℕ × List ℕ)) (done : Pairs) → ReadSoFar whole left done → left ≡ [] → whole ≡ spellings done
read_all whole left done so_far none = so_far.all ∙ ap (λ (ss : List (ℕ × List ℕ)). spellings done ++ ss) none ∙ append-nil (spellings done)

-- ---- orders

pub tied_from : (o : Ordering) → is_eq o ≡ true → o ≡ Equal
tied_from Less is = absurd (subst T (sym is) tt)
tied_from Equal is = refl
tied_from Greater is = absurd (subst T (sym is) tt)

tied_same : (q k : ℕ) → eq_by_cmp nat_cmp q k ≡ true → q ≡ k
tied_same q k tied = nat_cmp_same q k (tied_from _ tied)

two_tests : {A : Type 0} (s t : Bool) (x y z : A) → (s ≡ true → t ≡ true → ⊥) → cond s x (cond t y z) ≡ cond t y (cond s x z)
two_tests true true x y z apart = absurd (apart refl refl)
two_tests true false x y z apart = refl
two_tests false t x y z apart = refl

-- two different indexes are given their values in any order
pub insert-insert : (m : Map) (a b : ℕ) (x y : Value) → a ≢ b → insert (insert m a x) b y ≡ insert (insert m b y) a x
insert-insert m a b x y apart = finmap.same_map nat_cmp_total nat_cmp_same _ _ (λ q.
    finmap.get-insert nat_cmp_total (insert m a x) b y q ∙ ap (cond (eq_by_cmp nat_cmp q b) (Some y)) (finmap.get-insert nat_cmp_total m a x q)
    ∙ two_tests (eq_by_cmp nat_cmp q b) (eq_by_cmp nat_cmp q a) (Some y) (Some x) (get m q) (λ at-b at-a. apart (sym (tied_same q a at-a) ∙ tied_same q b at-b))
    ∙ sym (finmap.get-insert nat_cmp_total (insert m b y) a x q ∙ ap (cond (eq_by_cmp nat_cmp q a) (Some x)) (finmap.get-insert nat_cmp_total m b y q)))

-- ---- how many pairs there are

pub length-Holds : (pairs : List (ℕ × List ℕ)) (m : Map) (n : ℕ) → Holds pairs m → n ≡ length pairs → n ≡ length (entries m)
length-Holds pairs m n held is = is ∙ ap (λ (ss : List (ℕ × List ℕ)). length ss) held.same ∙ length-map {B = ℕ × List ℕ} (entries m) (λ p. (p.0, spelled p.1))
