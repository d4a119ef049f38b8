-- The pairs at the places of a level, as maps.
use Rattle.std.proofs.Common.{◌≡◌, ℕ, zero, suc, ◌+◌, ◌<◌, ◌≤◌, ◌%◌, ◌||◌, Bool, true, false, cond, eqb, List, [], ◌∷◌, ◌++◌, map, Option, Some, None, refl, sym, ap, subst, ◌∙◌, arith}
use Rattle.std.proofs.lemmas.Bool.{eqb-true, eqb-false}
use Rattle.std.specs.Prelude.{T}
use Rattle.std.specs.List.{flat_map, list_any, range_with_len}
use Rattle.std.specs.Cmp.Lexicographic.{nat_list_cmp_total}
use Rattle.std.specs.FinMap as finmap
use Rattle.std.specs.FinMap.{entries, from_entries, from_sorted}
use Rattle.std.specs.FinMap.Entries.{find, is_sorted, is_sorted-where_key, find-where_key, same_entries}
use Rattle.std.specs.declared.cmp.Ordering.TheVariants.{Equal}
use Rattle.dag_cbor.specs.declared.value.Value.{Value}
use Rattle.hamt_map.specs.Pairs.{Map, Pairs, at_place, key_cmp, place_on}
use Rattle.hamt_map.specs.Groups.{by_place}
use Rattle.hamt_map.specs.Node.{places}
use Rattle.hamt_map.proofs.Held.{key_cmp_same}
use Rattle.hamt_map.proofs.Merging.{or_else, find_both}

-- a key has a place
is_at : ℕ → ℕ → List ℕ → Bool
is_at level place key = eqb (place_on level key) place

same_for_tied : (level place : ℕ) (q x : List ℕ) → key_cmp q x ≡ Equal → is_at level place x ≡ is_at level place q
same_for_tied level place q x tied = ap (is_at level place) (sym (key_cmp_same q x tied))

-- what is found among the pairs at a place
pub find_at_place : (level place : ℕ) (pairs : Pairs) (q : List ℕ) → find key_cmp q (at_place level place pairs) ≡ cond (eqb (place_on level q) place) (find key_cmp q pairs) None
unfolding is_at
find_at_place level place pairs q = find-where_key key_cmp (is_at level place) q (same_for_tied level place q) pairs

-- ---- the pairs at a place are those of a map

pub sorted_at : (level place : ℕ) (m : Map) → T (is_sorted key_cmp (at_place level place (entries m)))
unfolding is_at
sorted_at level place m = is_sorted-where_key key_cmp (is_at level place) (entries m) (finmap.entries_sorted m)

pub map_at : ℕ → ℕ → Map → Map
map_at level place m = from_sorted (at_place level place (entries m))

pub entries_at : (level place : ℕ) (m : Map) → entries (map_at level place m) ≡ at_place level place (entries m)
unfolding map_at
entries_at level place m = finmap.entries-from_sorted key_cmp (at_place level place (entries m)) (sorted_at level place m)

-- ---- the pairs at all places are the pairs

or_else_none : (a b : Bool) (x : Option Value) → or_else (cond a x None) (cond b x None) ≡ cond (a || b) x None
unfolding or_else
or_else_none true b None = elim b as (λ b. or_else {A = Value} None (cond b None None) ≡ None) [ true ↦ refl | false ↦ refl ]
or_else_none true b (Some x) = refl
or_else_none false b x = refl

find_placed : (level : ℕ) (pairs : Pairs) (q : List ℕ) (ks : List ℕ)
    → find key_cmp q (flat_map (λ g. g) (map (λ k. at_place level k pairs) ks)) ≡ cond (list_any (eqb (place_on level q)) ks) (find key_cmp q pairs) None
find_placed level pairs q [] = refl
find_placed level pairs q (k ∷ ks) =
    find_both q (at_place level k pairs) (flat_map (λ g. g) (map (λ k. at_place level k pairs) ks))
    ∙ (λ i. or_else (find_at_place level k pairs q i) (find_placed level pairs q ks i))
    ∙ or_else_none (eqb (place_on level q) k) (list_any (eqb (place_on level q)) ks) (find key_cmp q pairs)

in_range : (a n p : ℕ) → a ≤ p → p < a + n → list_any (eqb p) (range_with_len a n) ≡ true
in_range a zero p low high = absurd (omega arith)
in_range a (suc n) p low high = elim (eqb p a) as (λ b. eqb p a ≡ b → (b || list_any (eqb p) (range_with_len (a + 1) n)) ≡ true) [
  | true ↦ λ is. refl
  | false ↦ λ is. let apart = eqb-false p a is in in_range (a + 1) n p (omega (arith, apart)) (omega arith)
] refl

place_below : (n : ℕ) → n % 32 < 32
place_below n = omega arith

-- the pairs of a map by their places are its pairs in another order
pub placed_again : (level : ℕ) (m : Map) → from_entries (flat_map (λ g. g) (by_place level (entries m))) ≡ m
placed_again level m = finmap.same_map nat_list_cmp_total key_cmp_same _ m (λ q.
    finmap.get-from_entries nat_list_cmp_total (flat_map (λ g. g) (by_place level (entries m))) q
    ∙ find_placed level (entries m) q places
    ∙ ap (λ b. cond b (find key_cmp q (entries m)) None) (in_range 0 32 (place_on level q) (omega arith) (place_below _))
    ∙ sym (finmap.get-entries m q))
