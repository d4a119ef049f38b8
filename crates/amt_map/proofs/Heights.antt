-- The height of a tree.
use Rattle.std.proofs.Common.{◌≡◌, ℕ, zero, suc, ◌+◌, ◌-◌, ◌*◌, ◌/◌, ◌%◌, ◌^◌, ◌<◌, ◌≤◌, ◌⊎◌, inl, inr, Bool, true, false, cond, ◌&&◌, List, [], ◌∷◌, length, map, get_or, Some, None, refl, sym, ap, subst, ◌∙◌, arith}
use Rattle.std.proofs.lemmas.Bool.{ltb-true, lt-ltb, le-ltb, and_right, and_parts}
use Rattle.std.proofs.lemmas.Nat.{pow_pos, div_below, div-add-mod'}
use Rattle.std.proofs.lemmas.List.Elements.{All-nil, All-cons, All-map, All-weaker}
use Rattle.std.specs.Prelude.{All, T, nat_lt}
use Rattle.std.proofs.lemmas.List.{length-map}
use Rattle.std.specs.List.{list_all, slice_get}
use Rattle.std.specs.Ordering.{is_lt, nat_cmp}
use Rattle.std.specs.FinMap.Entries.{is_sorted, below_all}
use Rattle.std.specs.FinMap.{entries, entries_sorted}
use Rattle.dag_cbor.specs.Spelling.{spelled}
use Rattle.dag_cbor.specs.declared.value.Value.{Value}
use Rattle.amt_map.specs.Holds.{Holds, spellings}
use Rattle.amt_map.specs.Node.{height_of, height_within}
use Rattle.amt_map.specs.Pairs.{Map, Pairs}
use Rattle.amt_map.proofs.Held.{Fits}
use Rattle.amt_map.specs.OneNode.{IsOneNode}
use Rattle.amt_map.proofs.NodePlaces.{after, eight_pos, pow-8}
use Rattle.amt_map.proofs.Spellings.{both_first, both_second}

and_true : (b : Bool) → (b && true) ≡ b
and_true true = refl
and_true false = refl

and_less : (x y b : ℕ) → x < y → (nat_lt x b && nat_lt y b) ≡ nat_lt y b
and_less x y b less = elim (nat_lt y b) as (λ t. nat_lt y b ≡ t → (nat_lt x b && t) ≡ t) [
  | true ↦ λ is. let low = ltb-true y b is in ap (λ t. t && true) (lt-ltb x b (omega arith))
  | false ↦ λ is. and_right (nat_lt x b) false refl
] refl

-- all indexes are below a bound if the last is
last_below : {X : Type 0} (b : ℕ) (e : ℕ × X) (es : List (ℕ × X)) (p : ℕ × X) → T (is_sorted nat_cmp (e ∷ es)) → p ≡ get_or (e ∷ es) (length es) p → list_all (λ q. nat_lt q.0 b) (e ∷ es) ≡ nat_lt p.0 b
last_below {X = X} b e [] p sorted is = and_true (nat_lt e.0 b) ∙ ap (λ (q : ℕ × X). nat_lt q.0 b) (sym is)
last_below {X = X} b e (f ∷ es) p sorted is =
    let rest = last_below b f es p (both_second (below_all nat_cmp e.0 (f ∷ es)) _ sorted) is in
    let less : e.0 < p.0 = subst (λ (q : ℕ × X). e.0 < q.0) (sym is) (after e.0 (f ∷ es) (both_first _ _ sorted) (length es) p (omega arith)) in
    ap (λ t. nat_lt e.0 b && t) rest ∙ and_less e.0 p.0 b less

pub below_last : {X : Type 0} (b : ℕ) (es : List (ℕ × X)) (p : ℕ × X) → T (is_sorted nat_cmp es) → 0 < length es → p ≡ get_or es (length es - 1) p → list_all (λ q. nat_lt q.0 b) es ≡ nat_lt p.0 b
below_last b [] p sorted some is = absurd (omega arith)
below_last {X = X} b (e ∷ es) p sorted some is =
    let size : suc (length es) - 1 ≡ length es = omega arith in
    last_below b e es p sorted (is ∙ ap (λ (k : ℕ). get_or (e ∷ es) k p) size)

-- the height is that of the last index
pub same_height : {X : Type 0} (n : ℕ) (es : List (ℕ × X)) (index : ℕ) → ((b : ℕ) → list_all (λ p. nat_lt p.0 b) es ≡ nat_lt index b) → height_within n es ≡ height_within n ((index, index) ∷ [])
same_height zero es index same = refl
same_height (suc n) es index same = λ i. cond ((same (8 ^ suc n) ∙ sym (and_true (nat_lt index (8 ^ suc n)))) i) (same_height n es index same i) (suc n)

-- one step down
pub height_down : (index height : ℕ) → 0 < height → index / 2 ^ (3 * height) ≡ 0 → height_within height ((index, index) ∷ []) ≡ height_within (height - 1) ((index, index) ∷ [])
height_down index zero some small = absurd (omega arith)
height_down index (suc n) some small =
    let power : 0 < 2 ^ (3 * suc n) = pow_pos (3 * suc n) in
    let whole : index / 2 ^ (3 * suc n) * 2 ^ (3 * suc n) + index % 2 ^ (3 * suc n) ≡ index = div-add-mod' index (2 ^ (3 * suc n)) in
    let low : index < 8 ^ suc n = subst (λ (p : ℕ). index < p) (sym (pow-8 (suc n))) (rest_below index (2 ^ (3 * suc n)) power small) in
    let one : n ≡ suc n - 1 = omega arith in
    ap (λ t. cond (t && true) (height_within n ((index, index) ∷ [])) (suc n)) (lt-ltb index (8 ^ suc n) low) ∙ ap (λ (k : ℕ). height_within k ((index, index) ∷ [])) one where
      rest_below : (a k : ℕ) → 0 < k → a / k ≡ 0 → a < k
      rest_below a k some none = grind (arith)

pub height_here : (index height : ℕ) → 8 ^ height ≤ index → height_within height ((index, index) ∷ []) ≡ height
height_here index zero high = refl
height_here index (suc n) high = ap (λ t. cond (t && true) (height_within n ((index, index) ∷ [])) (suc n)) (le-ltb index (8 ^ suc n) high)

-- all indexes are under one node at the height
all_true : {X : Type 0} (b : ℕ) (es : List (ℕ × X)) → list_all (λ p. nat_lt p.0 b) es ≡ true → All (λ p. p.0 < b) es
all_true b [] is = All-nil (λ p. p.0 < b)
all_true b (e ∷ es) is = let parts = and_parts _ _ is in All-cons (λ p. p.0 < b) e es (ltb-true e.0 b parts.0) (all_true b es parts.1)

height_covers : {X : Type 0} (n : ℕ) (es : List (ℕ × X)) → All (λ p. p.0 < 8 ^ suc n) es → All (λ p. p.0 < 8 ^ suc (height_within n es)) es
height_covers zero es all = all
height_covers {X = X} (suc n) es all = elim (list_all (λ (p : ℕ × X). nat_lt p.0 (8 ^ suc n)) es) as (λ t. list_all (λ (p : ℕ × X). nat_lt p.0 (8 ^ suc n)) es ≡ t → All (λ p. p.0 < 8 ^ suc (cond t (height_within n es) (suc n))) es) [
  | true ↦ λ is. height_covers n es (all_true (8 ^ suc n) es is)
  | false ↦ λ is. all
] refl

zero_place : (n k : ℕ) → 0 < k → n < k → n / k ≡ 0
zero_place n k some less = let low = div_below n k 1 some (omega (arith, less)) in omega (arith, low)

within_place : (n : ℕ) → n / 8 ^ 20 ≡ 0 → n < 8 ^ 20
within_place n is = omega (arith, is)

-- a tree's pairs are under one node at its height
pub node_at_height : {X : Type 0} (es : List (ℕ × X)) → IsOneNode 19 0 es → IsOneNode (height_of es) 0 es
unfolding height_of
node_at_height es one = record {
  within = All-weaker (λ p. p.0 < 8 ^ suc (height_of es)) (λ p. p.0 / 8 ^ suc (height_of es) ≡ 0) (λ p less. zero_place p.0 (8 ^ suc (height_of es)) (eight_pos (suc (height_of es))) less) es
      (height_covers 19 es (All-weaker (λ p. p.0 / 8 ^ 20 ≡ 0) (λ p. p.0 < 8 ^ 20) (λ p is. within_place p.0 is) es one.within));
  rising = one.rising;
}

-- ---- a whole tree

below_spelled : (k : ℕ) (ps : Pairs) → below_all nat_cmp k (spellings ps) ≡ below_all nat_cmp k ps
below_spelled k [] = refl
below_spelled k (p ∷ ps) = ap (λ t. is_lt (nat_cmp k p.0) && t) (below_spelled k ps)

pub sorted_spelled : (ps : Pairs) → is_sorted nat_cmp (spellings ps) ≡ is_sorted nat_cmp ps
sorted_spelled [] = refl
sorted_spelled (p ∷ ps) = λ i. below_spelled p.0 ps i && sorted_spelled ps i

small_place : (n : ℕ) → n < 2 ^ 60 → n / 8 ^ 20 ≡ 0
small_place n less = omega (arith, less)

-- a map's pairs are under one node at height 19
pub whole_node : (ss : List (ℕ × List ℕ)) (m : Map) → Holds ss m → IsOneNode 19 0 ss
whole_node ss m held = subst (IsOneNode 19 0) (sym held.same) (record {
  within = All-map (λ (s : ℕ × List ℕ). s.0 / 8 ^ 20 ≡ 0) (λ (p : ℕ × Value). (p.0, spelled p.1)) (entries m) (All-weaker Fits (λ p. p.0 / 8 ^ 20 ≡ 0) (λ p fit. small_place p.0 fit.0) (entries m) held.fit);
  rising = subst T (sym (sorted_spelled (entries m))) (entries_sorted m);
})

-- ---- as the code finds it

-- the height of a tree with one index
pub index_height : (index height : ℕ) → height_within 19 ((index, index) ∷ []) ≡ height_within height ((index, index) ∷ []) → (height ≡ 0) ⊎ (0 < index / 2 ^ (3 * height)) → height ≡ height_of ((index, index) ∷ [])
unfolding height_of
index_height index zero is why = sym is
index_height index (suc n) is (inl none) = absurd (omega arith)
index_height index (suc n) is (inr some) =
    let whole = div-add-mod' index (2 ^ (3 * suc n)) in
    let power : 0 < 2 ^ (3 * suc n) = pow_pos (3 * suc n) in
    let high : 8 ^ suc n ≤ index = subst (λ (p : ℕ). p ≤ index) (sym (pow-8 (suc n))) (above index (2 ^ (3 * suc n)) some) in
    sym (is ∙ height_here index (suc n) high) where
      above : (a k : ℕ) → 0 < a / k → k ≤ a
      above a k some = grind (arith)

-- an item that is got stands in the list
got : {A B : Type 0} (f : A → B) (xs : List A) (n : ℕ) (x : A) → Some x ≡ slice_get xs n → (n < length xs) × (f x ≡ get_or (map f xs) n (f x))
got f [] n x is = cc
got f (y ∷ ys) zero x is = let same : x ≡ y = cc in (omega arith, ap f same)
got f (y ∷ ys) (suc n) x is = let rest = got f ys n x is in (omega (arith, rest.0), rest.1)

not_got : {A : Type 0} (xs : List A) → None ≡ slice_get xs (length xs - 1) → xs ≡ []
not_got [] is = refl
not_got {A = A} (x ∷ xs) is = absurd (by (x ∷ xs) (suc (length xs) - 1) (omega arith) is) where
  by : (ys : List A) (n : ℕ) → n < length ys → None ≡ slice_get ys n → ⊥
  by [] n lt none = omega arith
  by (y ∷ ys) zero lt none = cc
  by (y ∷ ys) (suc n) lt none = by ys n (omega arith) none

pub tree_height : {P X : Type 0} (f : P → ℕ × X) (pairs : List P) (p : P) → IsOneNode 19 0 (map f pairs) → Some p ≡ slice_get pairs (length pairs - 1) → height_of (map f pairs) ≡ height_of (((f p).0, (f p).0) ∷ [])
unfolding height_of
tree_height {X = X} f pairs p one is =
    let there = got f pairs (length pairs - 1) p is in
    let size : length (map f pairs) ≡ length pairs = length-map pairs f in
    same_height 19 (map f pairs) (f p).0 (λ b. below_last b (map f pairs) (f p) one.rising (omega (arith, size, there.0)) (there.1 ∙ ap (λ (k : ℕ). get_or (map f pairs) (k - 1) (f p)) (sym size)))

pub no_height : {P X : Type 0} (f : P → ℕ × X) (pairs : List P) → None ≡ slice_get pairs (length pairs - 1) → 0 ≡ height_of (map f pairs)
unfolding height_of
no_height f pairs is = sym (ap (λ xs. height_of (map f xs)) (not_got pairs is))
