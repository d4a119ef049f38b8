-- An index that gets the spelling back that it had.
use Rattle.std.proofs.Common.{◌≡◌, ℕ, List, [], ◌∷◌, true, cond, Global, Option, Some, None, Vec, refl, sym, ap, subst, ◌∙◌}
use Rattle.std.specs.Prelude.{IfSome, T, is_some}
use Rattle.std.specs.Cmp.{eq_by_cmp_equiv, nat_cmp_total}
use Rattle.std.specs.FinMap as finmap
use Rattle.std.specs.FinMap.{entries}
use Rattle.std.specs.FinMap.Entries.{below_all, by_order, find, find-put, is_sorted, put}
use Rattle.std.specs.Map.{lookup, set_value}
use Rattle.std.specs.Option.{option_map}
use Rattle.std.specs.Ordering.{is_eq, is_lt, nat_cmp}
use Rattle.std.specs.declared.cmp.Ordering.{Ordering}
use Rattle.std.specs.declared.cmp.Ordering.TheVariants.{Less, Equal, Greater}
use Rattle.amt_map.specs.Holds.{Holds, IsSpelling}
use Rattle.amt_map.specs.Pairs.{Map}
use Rattle.amt_map.proofs.Held.{found_spelling}
use Rattle.amt_map.proofs.Heights.{sorted_spelled}
use Rattle.amt_map.proofs.Spellings.{Entries, both_first, both_second, find-view, less_from, view}

-- an index before all others is none of them
before_all : {X : Type 0} (k x : ℕ) (es : List (ℕ × X)) → nat_cmp k x ≡ Less → T (below_all nat_cmp x es) → find nat_cmp k es ≡ None
before_all k x [] less below = refl
before_all k x (e ∷ es) less below =
    let here : nat_cmp k e.0 ≡ Less = nat_cmp_total.trans k x e.0 less (less_from (nat_cmp x e.0) (both_first _ _ below)) in
    ap (λ o. cond (is_eq o) (Some e.1) (find nat_cmp k es)) here ∙ before_all k x es less (both_second (is_lt (nat_cmp x e.0)) _ below)

again : (k : ℕ) (s t : List ℕ) (es : List (ℕ × List ℕ)) → T (is_sorted nat_cmp es) → find nat_cmp k es ≡ Some s → put nat_cmp k s (put nat_cmp k t es) ≡ es
again k s t [] sorted found = absurd (subst T (ap is_some (sym found)) tt)
again k s t (e ∷ es) sorted found = by (nat_cmp k e.0) refl (again k s t es (both_second (below_all nat_cmp e.0 es) _ sorted)) where
  by : (o : Ordering) → nat_cmp k e.0 ≡ o → (find nat_cmp k es ≡ Some s → put nat_cmp k s (put nat_cmp k t es) ≡ es) → put nat_cmp k s (by_order o ((k, t) ∷ e ∷ es) ((e.0, t) ∷ es) (e ∷ put nat_cmp k t es)) ≡ e ∷ es
  by Less is rest =
      let none : find nat_cmp k (e ∷ es) ≡ None = ap (λ o. cond (is_eq o) (Some e.1) (find nat_cmp k es)) is ∙ before_all k e.0 es is (both_first _ _ sorted) in
      absurd (subst T (ap is_some (sym found ∙ none)) tt)
  by Equal is rest =
      let value : Some e.1 ≡ Some s = sym (ap (λ o. cond (is_eq o) (Some e.1) (find nat_cmp k es)) is) ∙ found in
      let same : e.1 ≡ s = cc value in
      ap (λ o. by_order o ((k, s) ∷ (e.0, t) ∷ es) ((e.0, s) ∷ es) ((e.0, t) ∷ put nat_cmp k s es)) is ∙ ap (λ (x : List ℕ). (e.0, x) ∷ es) (sym same)
  by Greater is rest =
      ap (λ o. by_order o ((k, s) ∷ e ∷ put nat_cmp k t es) ((e.0, s) ∷ put nat_cmp k t es) (e ∷ put nat_cmp k s (put nat_cmp k t es))) is
      ∙ ap (λ (xs : List (ℕ × List ℕ)). e ∷ xs) (rest (sym (ap (λ o. cond (is_eq o) (Some e.1) (find nat_cmp k es)) is) ∙ found))

in_order : (pairs : List (ℕ × List ℕ)) (m : Map) → Holds pairs m → T (is_sorted nat_cmp pairs)
in_order pairs m held = subst T (sym (ap (is_sorted nat_cmp) held.same ∙ sorted_spelled (entries m))) (finmap.entries_sorted m)

found_after : (k : ℕ) (t : List ℕ) (pairs : List (ℕ × List ℕ)) → is_some (find nat_cmp k (put nat_cmp k t pairs)) ≡ true
found_after k t pairs = ap is_some (find-put nat_cmp nat_cmp_total k k t pairs ∙ ap (λ b. cond b (Some t) (find nat_cmp k pairs)) ((eq_by_cmp_equiv nat_cmp_total).refl k))

pub put_again : (k : ℕ) (s t : List ℕ) (pairs after back : List (ℕ × List ℕ)) (m : Map) → Holds pairs m → find nat_cmp k pairs ≡ Some s → after ≡ put nat_cmp k t pairs
    → (is_some (find nat_cmp k after) ≡ true → back ≡ put nat_cmp k s after) → back ≡ pairs
put_again k s t pairs after back m held found is written =
    let there : is_some (find nat_cmp k after) ≡ true = ap (λ es. is_some (find nat_cmp k es)) is ∙ found_after k t pairs in
    written there ∙ ap (put nat_cmp k s) is ∙ again k s t pairs (in_order pairs m held) found

-- what an index had, and what it is given
pub old_is : (q k : ℕ) (pairs : List (ℕ × List ℕ)) (answer old : Option (Vec ℕ Global)) → option_map (λ v. v.items) answer ≡ find nat_cmp k pairs → k ≡ q → answer ≡ old → find nat_cmp q pairs ≡ option_map (λ v. v.items) old
old_is q k pairs answer old found same is = ap (λ (j : ℕ). find nat_cmp j pairs) (sym same) ∙ sym found ∙ ap (option_map (λ (v : Vec ℕ Global). v.items)) is

pub given_is : (q k : ℕ) (s t : List ℕ) (pairs after : List (ℕ × List ℕ)) → after ≡ put nat_cmp k t pairs → k ≡ q → t ≡ s → after ≡ put nat_cmp q s pairs
given_is q k s t pairs after is key spelling = is ∙ (λ i. put nat_cmp (key i) (spelling i) pairs)

-- what an index had spells a value
pub was_spelling : (pairs : List (ℕ × List ℕ)) (m : Map) (q : ℕ) (old : Option (Vec ℕ Global)) → Holds pairs m → find nat_cmp q pairs ≡ option_map (λ v. v.items) old → IfSome old (λ v. IsSpelling v.items)
was_spelling pairs m q None held is = tt
was_spelling pairs m q (Some v) held is = found_spelling pairs m q v.items held is

-- a value that is set at an index that is there is put there
set_at : (q : ℕ) (w : Vec ℕ Global) (es : Entries) → T (is_sorted nat_cmp (view es)) → T (is_some (find nat_cmp q (view es))) → view (set_value (λ a. is_eq (nat_cmp q a)) es w) ≡ put nat_cmp q w.items (view es)
set_at q w [] sorted there = absurd there
set_at q w (e ∷ es) sorted there = by (nat_cmp q e.0) refl (set_at q w es (both_second (below_all nat_cmp e.0 (view es)) _ sorted)) where
  by : (o : Ordering) → nat_cmp q e.0 ≡ o → (T (is_some (find nat_cmp q (view es))) → view (set_value (λ a. is_eq (nat_cmp q a)) es w) ≡ put nat_cmp q w.items (view es))
      → view (cond (is_eq o) ((e.0, w) ∷ es) (e ∷ set_value (λ a. is_eq (nat_cmp q a)) es w)) ≡ by_order o ((q, w.items) ∷ (e.0, e.1.items) ∷ view es) ((e.0, w.items) ∷ view es) ((e.0, e.1.items) ∷ put nat_cmp q w.items (view es))
  by Less is rest =
      let none : find nat_cmp q (view (e ∷ es)) ≡ None = ap (λ o. cond (is_eq o) (Some e.1.items) (find nat_cmp q (view es))) is ∙ before_all q e.0 (view es) is (both_first _ _ sorted) in
      absurd (subst T (ap is_some none) there)
  by Equal is rest = refl
  by Greater is rest = ap (λ (xs : List (ℕ × List ℕ)). (e.0, e.1.items) ∷ xs) (rest (subst (λ (o : Option (List ℕ)). T (is_some o)) (ap (λ o. cond (is_eq o) (Some e.1.items) (find nat_cmp q (view es))) is) there))

pub put_through : (q : ℕ) (w place : Vec ℕ Global) (es after : Entries) (m : Map) → Holds (view es) m → Some place ≡ lookup (λ a. is_eq (nat_cmp q a)) es → after ≡ set_value (λ a. is_eq (nat_cmp q a)) es w → view after ≡ put nat_cmp q w.items (view es)
put_through q w place es after m held at is =
    let there : is_some (find nat_cmp q (view es)) ≡ true = ap is_some (find-view q es (view es) (Some place) refl at) in
    ap view is ∙ set_at q w es (in_order (view es) m held) (subst T (sym there) tt)
