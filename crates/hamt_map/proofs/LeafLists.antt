-- Lists of keys: whether they rise, and the place that they all have.
use Rattle.std.proofs.Common.{◌≡◌, ◌≢◌, ℕ, zero, suc, ◌+◌, ◌-◌, ◌<◌, ◌≤◌, ◌&&◌, Bool, true, false, cond, eqb, List, [], ◌∷◌, ◌++◌, length, take, get_or, Option, Some, None, refl, sym, ap, subst, ◌∙◌, arith}
use Rattle.std.proofs.lemmas.Bool.{ne_eqb}
use Rattle.std.proofs.lemmas.List.{take_all}
use Rattle.std.specs.Prelude.{T, slice_get}
use Rattle.std.specs.List.{list_all}
use Rattle.std.specs.Ordering.{is_lt}
use Rattle.std.specs.declared.cmp.Ordering.{Ordering}
use Rattle.std.specs.declared.cmp.Ordering.TheVariants.{Less, Equal, Greater}
use Rattle.std.specs.Cmp.Lexicographic.{nat_list_cmp_total}
use Rattle.std.specs.FinMap.Entries.{below_all, is_sorted}
use Rattle.hamt_map.specs.Canonical.{common_place}
use Rattle.hamt_map.specs.Pairs.{key_cmp, place_on}

-- ---- the place of all

list_all_false : {X : Type 0} (test : X → Bool) (xs : List X) (i : ℕ) (y : X) → i < length xs → y ≡ get_or xs i y → test y ≡ false → list_all test xs ≡ false
list_all_false test [] i y within is fails = absurd (omega arith)
list_all_false test (x ∷ xs) zero y within is fails = ap (λ b. b && list_all test xs) (ap test (sym is) ∙ fails)
list_all_false test (x ∷ xs) (suc i) y within is fails = elim (test x) as (λ b. (b && list_all test xs) ≡ false) [ true ↦ list_all_false test xs i y (omega arith) is fails | false ↦ refl ]

pub common_found : {X : Type 0} (level place : ℕ) (xs : List (List ℕ × X)) (x : List ℕ × X) (i : ℕ) → 0 < length xs → x ≡ get_or xs 0 x → place ≡ place_on level x.0 → length xs ≤ i
    → list_all (λ q. eqb (place_on level q.0) place) (take i xs) ≡ true → Some place ≡ common_place level xs
common_found level place [] x i some is at past all = absurd (omega arith)
common_found {X = X} level place (y ∷ xs) x i some is at past all =
    let here : place ≡ place_on level y.0 = at ∙ ap (λ (p : List ℕ × X). place_on level p.0) is in
    let whole : list_all (λ q. eqb (place_on level q.0) (place_on level y.0)) (y ∷ xs) ≡ true =
    ap (λ (k : ℕ). list_all (λ q. eqb (place_on level q.0) k) (y ∷ xs)) (sym here) ∙ ap (λ (qs : List (List ℕ × X)). list_all (λ q. eqb (place_on level q.0) place) qs) (sym (take_all i (y ∷ xs) past)) ∙ all in
    ap Some here ∙ sym (ap (λ b. cond b (Some (place_on level y.0)) None) whole)

pub common_none : {X : Type 0} (level place : ℕ) (xs : List (List ℕ × X)) (x : List ℕ × X) (i : ℕ) (y : List ℕ × X) → x ≡ get_or xs 0 x → place ≡ place_on level x.0 → i < length xs → y ≡ get_or xs i y
    → (place_on level y.0 ≡ place → ⊥) → None ≡ common_place level xs
common_none level place [] x i y is at within is-y apart = refl
common_none {X = X} level place (z ∷ xs) x i y is at within is-y apart =
    let here : place ≡ place_on level z.0 = at ∙ ap (λ (p : List ℕ × X). place_on level p.0) is in
    let fails : list_all (λ q. eqb (place_on level q.0) (place_on level z.0)) (z ∷ xs) ≡ false =
    list_all_false (λ q. eqb (place_on level q.0) (place_on level z.0)) (z ∷ xs) i y within is-y (ne_eqb (place_on level y.0) (place_on level z.0) (λ e. apart (e ∙ sym here))) in
    sym (ap (λ b. cond b (Some (place_on level z.0)) None) fails)

-- ---- keys that rise

less_from : (o : Ordering) → is_lt o ≡ true → o ≡ Less
less_from Less e = refl
less_from Equal e = absurd (subst T (sym e) tt)
less_from Greater e = absurd (subst T (sym e) tt)

pub first_true : (a b : Bool) → (a && b) ≡ true → a ≡ true
first_true true b e = refl
first_true false b e = e

pub second_true : (a b : Bool) → (a && b) ≡ true → b ≡ true
second_true true b e = e
second_true false b e = absurd (subst T (sym e) tt)

both_true : (a b : Bool) → a ≡ true → b ≡ true → (a && b) ≡ true
both_true true b ea eb = eb
both_true false b ea eb = ea

-- a key that is before one is before what comes behind it
below_more : {X : Type 0} (x : List ℕ) (xs : List (List ℕ × X)) (i : ℕ) (y z : List ℕ × X) → suc i < length xs → y ≡ get_or xs i y → z ≡ get_or xs (suc i) z → key_cmp y.0 z.0 ≡ Less
    → below_all key_cmp x (take (suc i) xs) ≡ true → below_all key_cmp x (take (suc (suc i)) xs) ≡ true
below_more x [] i y z within is-y is-z less below = absurd (omega arith)
below_more x (a ∷ []) i y z within is-y is-z less below = absurd (omega arith)
below_more {X = X} x (a ∷ b ∷ xs) zero y z within is-y is-z less below =
    let near = first_true (is_lt (key_cmp x a.0)) true below in
    let far : key_cmp x b.0 ≡ Less = nat_list_cmp_total.trans x a.0 b.0 (less_from (key_cmp x a.0) near) (ap (λ (k : List ℕ). key_cmp k b.0) (sym (ap (λ (p : List ℕ × X). p.0) is-y)) ∙ ap (key_cmp y.0) (sym (ap (λ (p : List ℕ × X). p.0) is-z)) ∙ less) in
    both_true (is_lt (key_cmp x a.0)) (is_lt (key_cmp x b.0) && true) near (ap (λ (o : Ordering). is_lt o && true) far)
below_more x (a ∷ b ∷ xs) (suc i) y z within is-y is-z less below =
    both_true (is_lt (key_cmp x a.0)) _ (first_true (is_lt (key_cmp x a.0)) _ below) (below_more x (b ∷ xs) i y z (omega arith) is-y is-z less (second_true (is_lt (key_cmp x a.0)) _ below))

rising_suc : {X : Type 0} (xs : List (List ℕ × X)) (i : ℕ) (y z : List ℕ × X) → suc i < length xs → y ≡ get_or xs i y → z ≡ get_or xs (suc i) z → key_cmp y.0 z.0 ≡ Less
    → is_sorted key_cmp (take (suc i) xs) ≡ true → is_sorted key_cmp (take (suc (suc i)) xs) ≡ true
rising_suc [] i y z within is-y is-z less sorted = absurd (omega arith)
rising_suc (a ∷ []) i y z within is-y is-z less sorted = absurd (omega arith)
rising_suc {X = X} (a ∷ b ∷ xs) zero y z within is-y is-z less sorted =
    let far : key_cmp a.0 b.0 ≡ Less = ap (λ (k : List ℕ). key_cmp k b.0) (sym (ap (λ (p : List ℕ × X). p.0) is-y)) ∙ ap (key_cmp y.0) (sym (ap (λ (p : List ℕ × X). p.0) is-z)) ∙ less in
    ap (λ (o : Ordering). (is_lt o && true) && true) far
rising_suc (a ∷ b ∷ xs) (suc i) y z within is-y is-z less sorted =
    both_true (below_all key_cmp a.0 (take (suc (suc i)) (b ∷ xs))) _ (below_more a.0 (b ∷ xs) i y z (omega arith) is-y is-z less (first_true (below_all key_cmp a.0 (take (suc i) (b ∷ xs))) _ sorted))
    (rising_suc (b ∷ xs) i y z (omega arith) is-y is-z less (second_true (below_all key_cmp a.0 (take (suc i) (b ∷ xs))) _ sorted))

pub rising_more : {X : Type 0} (xs : List (List ℕ × X)) (i : ℕ) (y z : List ℕ × X) → 1 ≤ i → i < length xs → y ≡ get_or xs (i - 1) y → z ≡ get_or xs i z → true ≡ is_lt (key_cmp y.0 z.0)
    → is_sorted key_cmp (take i xs) ≡ true → is_sorted key_cmp (take (i + 1) xs) ≡ true
rising_more xs zero y z low within is-y is-z less sorted = absurd (omega arith)
rising_more {X = X} xs (suc i) y z low within is-y is-z less sorted =
    let one : suc i - 1 ≡ i = omega arith in
    let two : suc (suc i) ≡ suc i + 1 = omega arith in
    ap (λ (k : ℕ). is_sorted key_cmp (take k xs)) (sym two) ∙ rising_suc xs i y z within (is-y ∙ ap (λ (k : ℕ). get_or xs k y) one) is-z (less_from (key_cmp y.0 z.0) (sym less)) sorted

-- keys that rise, each before the next
next_below : {X : Type 0} (xs : List (List ℕ × X)) (i : ℕ) (y z : List ℕ × X) → suc i < length xs → y ≡ get_or xs i y → z ≡ get_or xs (suc i) z → is_sorted key_cmp xs ≡ true → is_lt (key_cmp y.0 z.0) ≡ true
next_below [] i y z within is-y is-z sorted = absurd (omega arith)
next_below (a ∷ []) i y z within is-y is-z sorted = absurd (omega arith)
next_below {X = X} (a ∷ b ∷ xs) zero y z within is-y is-z sorted =
    ap (λ (k : List ℕ). is_lt (key_cmp k z.0)) (ap (λ (p : List ℕ × X). p.0) is-y) ∙ ap (λ (k : List ℕ). is_lt (key_cmp a.0 k)) (ap (λ (p : List ℕ × X). p.0) is-z)
    ∙ first_true (is_lt (key_cmp a.0 b.0)) _ (first_true (below_all key_cmp a.0 (b ∷ xs)) _ sorted)
next_below (a ∷ b ∷ xs) (suc i) y z within is-y is-z sorted = next_below (b ∷ xs) i y z (omega arith) is-y is-z (second_true (below_all key_cmp a.0 (b ∷ xs)) _ sorted)

not_true : (b : Bool) → (b ≡ true → ⊥) → false ≡ b
not_true true h = absurd (h refl)
not_true false h = refl

pub no_rising : {X : Type 0} (xs : List (List ℕ × X)) (i : ℕ) (y z : List ℕ × X) → 1 ≤ i → i < length xs → y ≡ get_or xs (i - 1) y → z ≡ get_or xs i z → false ≡ is_lt (key_cmp y.0 z.0) → false ≡ is_sorted key_cmp xs
no_rising xs zero y z low within is-y is-z apart = absurd (omega arith)
no_rising xs (suc i) y z low within is-y is-z apart =
    let one : suc i - 1 ≡ i = omega arith in
    not_true (is_sorted key_cmp xs) (λ sorted. subst T (sym (apart ∙ next_below xs i y z within (is-y ∙ ap (λ (k : ℕ). get_or xs k y) one) is-z sorted)) tt)

-- the first of a list
pub first_is : {X : Type 0} (xs : List X) (x : X) → Some x ≡ slice_get xs 0 → (0 < length xs) × (x ≡ get_or xs 0 x)
first_is [] x e = absurd (cc e)
first_is (y ∷ xs) x e = (omega arith, cc e)
