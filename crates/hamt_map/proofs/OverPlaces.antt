-- The groups of pairs that lie over others.
use Rattle.std.proofs.Common.{◌≡◌, ℕ, zero, suc, ◌+◌, ◌-◌, ◌<◌, ◌≤◌, ◌||◌, Bool, true, false, cond, eqb, List, [], ◌∷◌, ◌++◌, length, drop, drop-cons, get_or, Option, Some, None, refl, sym, ap, subst, ◌∙◌, arith}
use Rattle.std.proofs.lemmas.List.Elements.{All-filter, filter-append}
use Rattle.std.specs.Prelude.{T, is_some, nat_lt}
use Rattle.std.specs.Cmp.Lexicographic.{nat_list_cmp_total}
use Rattle.std.specs.FinMap as finmap
use Rattle.std.specs.FinMap.{entries}
use Rattle.std.specs.FinMap.Entries.{find, is_sorted, is_sorted-where_key, length-put}
use Rattle.std.specs.List.{flat_map}
use Rattle.std.specs.Option.{option_map}
use Rattle.cid_core.specs.BlockParts.{BlockParts, found}
use Rattle.dag_cbor.specs.Plain.{IsPlain}
use Rattle.dag_cbor.specs.Spelling.{spelled}
use Rattle.dag_cbor.specs.declared.value.Value.{Value}
use Rattle.hamt_map.specs.Ahead.{pointer_text}
use Rattle.hamt_map.specs.Canonical.{map_of}
use Rattle.hamt_map.specs.Groups.{by_place, is_group, nodes_of, nodes_under, pointer_to}
use Rattle.hamt_map.specs.Kept.{AreHeld}
use Rattle.hamt_map.specs.KeptNode.{IsKeptGroup, IsKeptNode}
use Rattle.hamt_map.specs.Pairs.{Pairs, at_place, key_cmp, place_on}
use Rattle.hamt_map.proofs.Grouping.{group_at}
use Rattle.hamt_map.proofs.MapParts.{at_place_map, sorted_again}
use Rattle.hamt_map.proofs.Merging.{all_back, all_front}
use Rattle.hamt_map.proofs.NodeParts.{some_test}

-- ---- the pairs at a place

pub at_over : (level place : ℕ) (ps old : Pairs) → at_place level place (entries (map_of (ps ++ old))) ≡ entries (map_of (at_place level place ps ++ at_place level place old))
at_over level place ps old =
    at_place_map level place (ps ++ old) ∙ ap (λ (qs : Pairs). entries (map_of qs)) (filter-append (λ p. eqb (place_on level p.0) place) ps old)

-- ---- how many there are

-- a pair that is put
more_put : (p : List ℕ × Value) (ps : Pairs) → (length (entries (map_of ps)) ≤ length (entries (map_of (p ∷ ps)))) × (0 < length (entries (map_of (p ∷ ps))))
more_put p ps =
    let rest : Pairs = entries (map_of ps) in
    let now : length (entries (map_of (p ∷ ps))) ≡ cond (is_some (find key_cmp p.0 rest)) (length rest) (length rest + 1) =
    ap length (finmap.entries-insert nat_list_cmp_total (map_of ps) p.0 p.1) ∙ length-put key_cmp nat_list_cmp_total p.0 p.1 rest (finmap.entries_sorted (map_of ps)) in
    elim (is_some (find key_cmp p.0 rest)) as (λ b. is_some (find key_cmp p.0 rest) ≡ b → length (entries (map_of (p ∷ ps))) ≡ cond b (length rest) (length rest + 1) → (length rest ≤ length (entries (map_of (p ∷ ps)))) × (0 < length (entries (map_of (p ∷ ps))))) [
      | true ↦ λ is same. let some = found_some rest is in (omega (arith, same), omega (arith, same, some))
      | false ↦ λ is same. (omega (arith, same), omega (arith, same))
    ] refl now where
      found_some : (es : Pairs) → is_some (find key_cmp p.0 es) ≡ true → 0 < length es
      found_some [] is = absurd (subst T (sym is) tt)
      found_some (e ∷ es) is = omega arith

-- a group does not get smaller
pub length_over : (ps old : Pairs) → T (is_sorted key_cmp old) → length old ≤ length (entries (map_of (ps ++ old)))
length_over [] old sorted = let same : length (entries (map_of old)) ≡ length old = ap length (sorted_again old sorted) in omega (arith, same)
length_over (p ∷ ps) old sorted = let rest = length_over ps old sorted in let more = (more_put p (ps ++ old)).0 in omega (arith, rest, more)

is_group_over : (ps old : Pairs) → T (is_sorted key_cmp old) → is_group (entries (map_of (ps ++ old))) ≡ (is_group old || nat_lt 0 (length ps))
is_group_over [] old sorted = ap is_group (sorted_again old sorted) ∙ sym (or_false (is_group old)) where
  or_false : (b : Bool) → (b || false) ≡ b
  or_false true = refl
  or_false false = refl
is_group_over (p ∷ ps) old sorted =
    some_test (length (entries (map_of ((p ∷ ps) ++ old)))) (more_put p (ps ++ old)).1 ∙ sym (ap (λ b. is_group old || b) (some_test (length (p ∷ ps)) (omega arith)) ∙ or_true (is_group old)) where
      or_true : (b : Bool) → (b || true) ≡ true
      or_true true = refl
      or_true false = refl

-- ---- the text of a pointer

pub no_group : (below : ℕ) (group : Pairs) → None ≡ pointer_text below group → group ≡ []
no_group below [] none = refl
no_group below (p ∷ group) none = absurd (subst T (ap is_some (sym (none ∙ ap (λ b. cond b (Some (spelled (pointer_to below (p ∷ group)))) None) (some_test (length (p ∷ group)) (omega arith))))) tt)

pub some_group : (below : ℕ) (group : Pairs) (text : List ℕ) → Some text ≡ pointer_text below group → (0 < length group) × (text ≡ spelled (pointer_to below group))
some_group below [] text some = absurd (subst T (ap is_some some) tt)
some_group below (p ∷ group) text some =
    let both : Some text ≡ Some (spelled (pointer_to below (p ∷ group))) = some ∙ ap (λ b. cond b (Some (spelled (pointer_to below (p ∷ group)))) None) (some_test (length (p ∷ group)) (omega arith)) in
    (omega arith, cc both)

has_text : (below : ℕ) (group : Pairs) → is_some (pointer_text below group) ≡ is_group group
has_text below group = elim (is_group group) as (λ b. is_some (cond b (Some (spelled (pointer_to below group))) None) ≡ b) [ true ↦ refl | false ↦ refl ]

is_some_shown : {A B : Type 0} (f : A → B) (o : Option A) → is_some (option_map f o) ≡ is_some o
is_some_shown f None = refl
is_some_shown f (Some x) = refl

-- whether there is a pointer, as the code has it
pub full_over : {A : Type 0} (f : A → List ℕ) (below : ℕ) (pointer : Option A) (ps old : Pairs) (n : ℕ) → option_map f pointer ≡ pointer_text below old → n ≡ length ps → T (is_sorted key_cmp old)
    → (is_some pointer || nat_lt 0 n) ≡ is_group (entries (map_of (ps ++ old)))
full_over f below pointer ps old n is size sorted =
    (λ i. (sym (is_some_shown f pointer) ∙ ap is_some is ∙ has_text below old) i || nat_lt 0 (size i)) ∙ sym (is_group_over ps old sorted)

-- ---- the groups of a kept node

pub kept_at : (held : List BlockParts) (below place : ℕ) (bytes : List ℕ) (old : Pairs) → place < 32 → IsKeptNode held below bytes old → IsKeptGroup held below (at_place (51 - below) place old)
unfolding nodes_under
kept_at held below place bytes old small kept = record {
  nodes = subst (λ (g : Pairs). AreHeld held (nodes_of below g)) (group_at (51 - below) place old [] small) (each (by_place (51 - below) old) place small kept.under);
  fit = All-filter _ (λ p. IsPlain 124 p.1) old kept.fit;
  sorted = is_sorted-where_key key_cmp (λ key. eqb (place_on (51 - below) key) place) old kept.sorted;
} where
  each : (groups : List Pairs) (k : ℕ) → k < length groups → AreHeld held (flat_map (nodes_of below) groups) → AreHeld held (nodes_of below (get_or groups k []))
  each [] k within are = absurd (omega arith)
  each (g ∷ groups) zero within are = all_front (λ b. found held b.cid ≡ Some b) (nodes_of below g) (flat_map (nodes_of below) groups) are
  each (g ∷ groups) (suc k) within are = each groups k (omega arith) (all_back (λ b. found held b.cid ≡ Some b) (nodes_of below g) (flat_map (nodes_of below) groups) are)

-- the group of a place is at the front of those that are left
pub next_group : (level place : ℕ) (pairs : Pairs) → place < 32 → drop place (by_place level pairs) ≡ at_place level place pairs ∷ drop (place + 1) (by_place level pairs)
next_group level place pairs small =
    let groups : List Pairs = by_place level pairs in
    let next : suc place ≡ place + 1 = omega arith in
    drop-cons groups place [] small ∙ (λ i. group_at level place pairs [] small i ∷ drop (next i) groups)
