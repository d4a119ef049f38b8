-- A key that gets the spelling back that it had.
use Rattle.std.proofs.Common.{◌≡◌, ℕ, List, [], ◌∷◌, true, cond, Global, Option, Some, None, Vec, refl, sym, ap, subst, ◌∙◌}
use Rattle.std.specs.Prelude.{IfSome, T, is_some}
use Rattle.std.specs.Cmp.{eq_by_cmp_equiv}
use Rattle.std.specs.Cmp.Lexicographic.{nat_list_cmp_total}
use Rattle.std.specs.FinMap as finmap
use Rattle.std.specs.FinMap.{entries}
use Rattle.std.specs.FinMap.Entries.{below_all, by_order, find, find-put, is_sorted, put}
use Rattle.std.specs.Map.{lookup, set_value}
use Rattle.std.specs.Option.{option_map}
use Rattle.std.specs.Ordering.{is_eq, is_lt}
use Rattle.std.specs.declared.cmp.Ordering.{Ordering}
use Rattle.std.specs.declared.cmp.Ordering.TheVariants.{Less, Equal, Greater}
use Rattle.hamt_map.specs.Holds.{Holds, IsSpelling}
use Rattle.hamt_map.specs.Pairs.{Map, key_cmp}
use Rattle.hamt_map.proofs.Held.{found_spelling}
use Rattle.hamt_map.proofs.MapParts.{sorted_spelled}
use Rattle.hamt_map.proofs.Spellings.{Entries, both_first, both_second, find-view, less_from, view}

-- a key before all others is none of them
before_all : {X : Type 0} (k x : List ℕ) (es : List (List ℕ × X)) → key_cmp k x ≡ Less → T (below_all key_cmp x es) → find key_cmp k es ≡ None
before_all k x [] less below = refl
before_all k x (e ∷ es) less below =
    let here : key_cmp k e.0 ≡ Less = nat_list_cmp_total.trans k x e.0 less (less_from (key_cmp x e.0) (both_first _ _ below)) in
    ap (λ o. cond (is_eq o) (Some e.1) (find key_cmp k es)) here ∙ before_all k x es less (both_second (is_lt (key_cmp x e.0)) _ below)

again : (k s t : List ℕ) (es : List (List ℕ × List ℕ)) → T (is_sorted key_cmp es) → find key_cmp k es ≡ Some s → put key_cmp k s (put key_cmp k t es) ≡ es
again k s t [] sorted found = absurd (subst T (ap is_some (sym found)) tt)
again k s t (e ∷ es) sorted found = by (key_cmp k e.0) refl (again k s t es (both_second (below_all key_cmp e.0 es) _ sorted)) where
  by : (o : Ordering) → key_cmp k e.0 ≡ o → (find key_cmp k es ≡ Some s → put key_cmp k s (put key_cmp k t es) ≡ es) → put key_cmp k s (by_order o ((k, t) ∷ e ∷ es) ((e.0, t) ∷ es) (e ∷ put key_cmp k t es)) ≡ e ∷ es
  by Less is rest =
      let none : find key_cmp k (e ∷ es) ≡ None = ap (λ o. cond (is_eq o) (Some e.1) (find key_cmp k es)) is ∙ before_all k e.0 es is (both_first _ _ sorted) in
      absurd (subst T (ap is_some (sym found ∙ none)) tt)
  by Equal is rest =
      let value : Some e.1 ≡ Some s = sym (ap (λ o. cond (is_eq o) (Some e.1) (find key_cmp k es)) is) ∙ found in
      let same : e.1 ≡ s = cc value in
      ap (λ o. by_order o ((k, s) ∷ (e.0, t) ∷ es) ((e.0, s) ∷ es) ((e.0, t) ∷ put key_cmp k s es)) is ∙ ap (λ (x : List ℕ). (e.0, x) ∷ es) (sym same)
  by Greater is rest =
      ap (λ o. by_order o ((k, s) ∷ e ∷ put key_cmp k t es) ((e.0, s) ∷ put key_cmp k t es) (e ∷ put key_cmp k s (put key_cmp k t es))) is
      ∙ ap (λ (xs : List (List ℕ × List ℕ)). e ∷ xs) (rest (sym (ap (λ o. cond (is_eq o) (Some e.1) (find key_cmp k es)) is) ∙ found))

in_order : (pairs : List (List ℕ × List ℕ)) (m : Map) → Holds pairs m → T (is_sorted key_cmp pairs)
in_order pairs m held = subst T (sym (ap (is_sorted key_cmp) held.same ∙ sorted_spelled (entries m))) (finmap.entries_sorted m)

found_after : (k t : List ℕ) (pairs : List (List ℕ × List ℕ)) → is_some (find key_cmp k (put key_cmp k t pairs)) ≡ true
found_after k t pairs = ap is_some (find-put key_cmp nat_list_cmp_total k k t pairs ∙ ap (λ b. cond b (Some t) (find key_cmp k pairs)) ((eq_by_cmp_equiv nat_list_cmp_total).refl k))

pub put_again : (k s t : List ℕ) (pairs after back : List (List ℕ × List ℕ)) (m : Map) → Holds pairs m → find key_cmp k pairs ≡ Some s → after ≡ put key_cmp k t pairs
    → (is_some (find key_cmp k after) ≡ true → back ≡ put key_cmp k s after) → back ≡ pairs
put_again k s t pairs after back m held found is written =
    let there : is_some (find key_cmp k after) ≡ true = ap (λ es. is_some (find key_cmp k es)) is ∙ found_after k t pairs in
    written there ∙ ap (put key_cmp k s) is ∙ again k s t pairs (in_order pairs m held) found

-- what a key had, and what it is given
pub old_is : (q k : List ℕ) (pairs : List (List ℕ × List ℕ)) (answer old : Option (Vec ℕ Global)) → option_map (λ v. v.items) answer ≡ find key_cmp k pairs → k ≡ q → answer ≡ old → find key_cmp q pairs ≡ option_map (λ v. v.items) old
old_is q k pairs answer old found same is = ap (λ (j : List ℕ). find key_cmp j pairs) (sym same) ∙ sym found ∙ ap (option_map (λ (v : Vec ℕ Global). v.items)) is

pub given_is : (q k s t : List ℕ) (pairs after : List (List ℕ × List ℕ)) → after ≡ put key_cmp k t pairs → k ≡ q → t ≡ s → after ≡ put key_cmp q s pairs
given_is q k s t pairs after is key spelling = is ∙ (λ i. put key_cmp (key i) (spelling i) pairs)

-- what a key had spells a value
pub was_spelling : (pairs : List (List ℕ × List ℕ)) (m : Map) (q : List ℕ) (old : Option (Vec ℕ Global)) → Holds pairs m → find key_cmp q pairs ≡ option_map (λ v. v.items) old → IfSome old (λ v. IsSpelling v.items)
was_spelling pairs m q None held is = tt
was_spelling pairs m q (Some v) held is = found_spelling pairs m q v.items held is

-- a value that is set at a key that is there is put there
set_at : (q : List ℕ) (w : Vec ℕ Global) (es : Entries) → T (is_sorted key_cmp (view es)) → T (is_some (find key_cmp q (view es))) → view (set_value (λ a. is_eq (key_cmp q a.items)) es w) ≡ put key_cmp q w.items (view es)
set_at q w [] sorted there = absurd there
set_at q w (e ∷ es) sorted there = by (key_cmp q e.0.items) refl (set_at q w es (both_second (below_all key_cmp e.0.items (view es)) _ sorted)) where
  by : (o : Ordering) → key_cmp q e.0.items ≡ o → (T (is_some (find key_cmp q (view es))) → view (set_value (λ a. is_eq (key_cmp q a.items)) es w) ≡ put key_cmp q w.items (view es))
      → view (cond (is_eq o) ((e.0, w) ∷ es) (e ∷ set_value (λ a. is_eq (key_cmp q a.items)) es w)) ≡ by_order o ((q, w.items) ∷ (e.0.items, e.1.items) ∷ view es) ((e.0.items, w.items) ∷ view es) ((e.0.items, e.1.items) ∷ put key_cmp q w.items (view es))
  by Less is rest =
      let none : find key_cmp q (view (e ∷ es)) ≡ None = ap (λ o. cond (is_eq o) (Some e.1.items) (find key_cmp q (view es))) is ∙ before_all q e.0.items (view es) is (both_first _ _ sorted) in
      absurd (subst T (ap is_some none) there)
  by Equal is rest = refl
  by Greater is rest = ap (λ (xs : List (List ℕ × List ℕ)). (e.0.items, e.1.items) ∷ xs) (rest (subst (λ (o : Option (List ℕ)). T (is_some o)) (ap (λ o. cond (is_eq o) (Some e.1.items) (find key_cmp q (view es))) is) there))

pub put_through : (q : List ℕ) (w place : Vec ℕ Global) (es after : Entries) (m : Map) → Holds (view es) m → Some place ≡ lookup (λ a. is_eq (key_cmp q a.items)) es → after ≡ set_value (λ a. is_eq (key_cmp q a.items)) es w → view after ≡ put key_cmp q w.items (view es)
put_through q w place es after m held at is =
    let there : is_some (find key_cmp q (view es)) ≡ true = ap is_some (find-view q es (view es) (Some place) refl at) in
    ap view is ∙ set_at q w es (in_order (view es) m held) (subst T (sym there) tt)
