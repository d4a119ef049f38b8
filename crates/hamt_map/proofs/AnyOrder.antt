-- Pairs in any order: the map that they make, and which order is that of their hashes.
use Rattle.std.proofs.Common.{◌≡◌, ◌≢◌, ℕ, suc, ◌+◌, ◌<◌, ◌≤◌, Bool, true, false, cond, List, [], ◌∷◌, length, map, set, get_or, Some, None, All, refl, sym, ap, subst, ◌∙◌, arith}
use Rattle.std.proofs.lemmas.List.{get_or-map, length-map, map-set}
use Rattle.std.proofs.lemmas.List.Elements.{All-cons, All-head, All-nil, All-tail}
use Rattle.std.proofs.lemmas.List.Sorted.{All-permutation, IsPermutation-keeps, IsPermutation-map, IsPermutation-refl, IsPermutation-swap, IsPermutation-trans, sum_by-IsPermutation}
use Rattle.std.proofs.lemmas.List.Sums.{sum_by-cons}
use Rattle.std.proofs.lemmas.Map.Keys.{IsDistinct-IsPermutation}
use Rattle.std.specs.Prelude.{T, is_some}
use Rattle.std.specs.Cmp.{eq_by_cmp_equiv}
use Rattle.std.specs.Cmp.Lexicographic.{nat_list_cmp_total}
use Rattle.std.specs.FinMap as finmap
use Rattle.std.specs.FinMap.{entries}
use Rattle.std.specs.FinMap.Entries.{below_all, find, is_sorted, length-put}
use Rattle.std.specs.List.{AllByRecursion, IsDistinct, sum_by, swap}
use Rattle.std.specs.List.Sorted.{IsPermutation, IsSortedBy}
use Rattle.std.specs.Ordering.{eq_by_cmp, is_eq, is_lt}
use Rattle.std.specs.declared.cmp.Ordering.{Ordering}
use Rattle.std.specs.declared.cmp.Ordering.TheVariants.{Less, Equal, Greater}
use Rattle.dag_cbor.specs.declared.value.Value.{Value}
use Rattle.dag_cbor.specs.Plain.{IsPlain}
use Rattle.dag_cbor.specs.Spelling.{spelled}
use Rattle.hamt_map.specs.Canonical.{map_of}
use Rattle.hamt_map.specs.HashOrder.{AreInOrder, MapLent, low_bits}
use Rattle.hamt_map.specs.Holds.{FitNodes}
use Rattle.hamt_map.specs.Pairs.{Map, Pairs, key_cmp}
use Rattle.hamt_map.proofs.Held.{entries-empty, key_cmp_same}
use Rattle.hamt_map.proofs.MapParts.{find_in_map}
use Rattle.hamt_map.proofs.Spellings.{both_first, both_second, less_from}

-- ---- keys that tie

-- keys that differ do not tie
pub untied : (q k : List ℕ) → (q ≢ k) → eq_by_cmp key_cmp q k ≡ false
untied q k apart = elim (key_cmp q k) as (λ o. key_cmp q k ≡ o → is_eq o ≡ false) [
  | Less ↦ λ is. refl
  | Equal ↦ λ is. absurd (apart (key_cmp_same q k is))
  | Greater ↦ λ is. refl
] refl

-- and keys that do not tie differ
differ_by_test : (q k : List ℕ) → eq_by_cmp key_cmp q k ≡ false → q ≢ k
differ_by_test q k off same =
    let tied : eq_by_cmp key_cmp q k ≡ true = ap (eq_by_cmp key_cmp q) (sym same) ∙ (eq_by_cmp_equiv nat_list_cmp_total).refl q in
    absurd (cc (off, tied))

-- ---- how many pairs a map has

absent : (q : List ℕ) (low : ℕ) (below : ℕ) (ps : Pairs) → AllByRecursion (λ p. (q ≢ p.0) × (low ≤ low_bits below p.0)) ps → find key_cmp q ps ≡ None
absent q low below [] all = refl
absent q low below (p ∷ ps) all = ap (λ b. cond b (Some p.1) (find key_cmp q ps)) (untied q p.0 all.0.0) ∙ absent q low below ps all.1

pub count_again : (below : ℕ) (ps : Pairs) → AreInOrder below ps → length (entries (map_of ps)) ≡ length ps
count_again below [] order = ap length entries-empty
count_again below (p ∷ ps) order =
    let rest : Pairs = entries (map_of ps) in
    let none : is_some (find key_cmp p.0 rest) ≡ false = ap is_some (find_in_map ps p.0 ∙ absent p.0 (low_bits below p.0) below ps order.0) in
    let more : length rest + 1 ≡ suc (length ps) = let same = count_again below ps order.1 in omega (arith, same) in
    ap length (finmap.entries-insert nat_list_cmp_total (map_of ps) p.0 p.1) ∙ length-put key_cmp nat_list_cmp_total p.0 p.1 rest (finmap.entries_sorted (map_of ps))
    ∙ ap (λ b. cond b (length rest) (length rest + 1)) none ∙ more

-- ---- the map of pairs in another order

-- 1 for a pair that has a key
abbrev has_key : List ℕ → List ℕ × Value → ℕ
has_key q p = cond (eq_by_cmp key_cmp q p.0) 1 0

none_with : (q : List ℕ) (ps : Pairs) → sum_by (has_key q) ps ≡ 0 → find key_cmp q ps ≡ None
none_with q [] none = refl
none_with q (p ∷ ps) none =
    let split : sum_by (has_key q) (p ∷ ps) ≡ has_key q p + sum_by (has_key q) ps = sum_by-cons (has_key q) p ps in
    elim (eq_by_cmp key_cmp q p.0) as (λ b. sum_by (has_key q) (p ∷ ps) ≡ cond b 1 0 + sum_by (has_key q) ps → cond b (Some p.1) (find key_cmp q ps) ≡ None) [
      | true ↦ λ is. absurd (omega (arith, is, none))
      | false ↦ λ is. none_with q ps (omega (arith, is, none))
    ] split

find_alike : (q : List ℕ) (es ps : Pairs) → All (λ p. find key_cmp p.0 es ≡ Some p.1) ps → (sum_by (has_key q) ps ≡ 0 → find key_cmp q es ≡ None) → find key_cmp q ps ≡ find key_cmp q es
find_alike q es [] all none = sym (none refl)
find_alike q es (p ∷ ps) all none =
    let here : find key_cmp p.0 es ≡ Some p.1 = All-head (λ p. find key_cmp p.0 es ≡ Some p.1) p ps all in
    let split : sum_by (has_key q) (p ∷ ps) ≡ has_key q p + sum_by (has_key q) ps = sum_by-cons (has_key q) p ps in
    elim (eq_by_cmp key_cmp q p.0) as (λ b. eq_by_cmp key_cmp q p.0 ≡ b → cond b (Some p.1) (find key_cmp q ps) ≡ find key_cmp q es) [
      | true ↦ λ is. sym (ap (λ (k : List ℕ). find key_cmp k es) (key_cmp_same q p.0 (tied (key_cmp q p.0) is)) ∙ here)
      | false ↦ λ is. find_alike q es ps (All-tail (λ p. find key_cmp p.0 es ≡ Some p.1) p ps all) (λ zero.
          let nothing : has_key q p ≡ 0 = ap (λ b. cond b 1 0) is in
          none (omega (arith, split, nothing, zero)))
    ] refl where
      tied : (o : Ordering) → is_eq o ≡ true → o ≡ Equal
      tied Less is = absurd (subst T (sym is) tt)
      tied Equal is = refl
      tied Greater is = absurd (subst T (sym is) tt)

-- keys above another do not tie with it
above : (k : List ℕ) (es : Pairs) → T (below_all key_cmp k es) → All (λ x. eq_by_cmp key_cmp x.0 k ≡ false) es
above k [] sorted = All-nil (λ x. eq_by_cmp key_cmp x.0 k ≡ false)
above k (e ∷ es) sorted =
    All-cons (λ x. eq_by_cmp key_cmp x.0 k ≡ false) e es ((eq_by_cmp_equiv nat_list_cmp_total).symm e.0 k ∙ ap is_eq (less_from (key_cmp k e.0) (both_first _ _ sorted)))
    (above k es (both_second (is_lt (key_cmp k e.0)) _ sorted))

each_found : (es : Pairs) → T (is_sorted key_cmp es) → All (λ x. find key_cmp x.0 es ≡ Some x.1) es
each_found [] sorted = All-nil (λ x. find key_cmp x.0 [] ≡ Some x.1)
each_found (e ∷ es) sorted =
    let rest = each_found es (both_second (below_all key_cmp e.0 es) _ sorted) in
    let apart = above e.0 es (both_first _ _ sorted) in
    All-cons (λ x. find key_cmp x.0 (e ∷ es) ≡ Some x.1) e es (ap (λ b. cond b (Some e.1) (find key_cmp e.0 es)) ((eq_by_cmp_equiv nat_list_cmp_total).refl e.0))
    (λ k d within. ap (λ b. cond b (Some e.1) (find key_cmp (get_or es k d).0 es)) (apart k d within) ∙ rest k d within)

pub permuted_map : (m : Map) (ps : Pairs) → IsPermutation (entries m) ps → map_of ps ≡ m
permuted_map m ps moved = finmap.same_map nat_list_cmp_total key_cmp_same (map_of ps) m (λ q.
    finmap.get-from_entries nat_list_cmp_total ps q
    ∙ find_alike q (entries m) ps (All-permutation (λ p. find key_cmp p.0 (entries m) ≡ Some p.1) (entries m) ps moved (each_found (entries m) (finmap.entries_sorted m)))
    (λ none. none_with q (entries m) (sym (sum_by-IsPermutation (has_key q) (entries m) ps moved) ∙ none))
    ∙ sym (finmap.get-entries m q))

-- ---- keys that differ

behind_differ : (k : List ℕ) (es : Pairs) → T (below_all key_cmp k es) → AllByRecursion (λ y. eq_by_cmp key_cmp k y ≡ false) (map (λ p. p.0) es)
behind_differ k [] sorted = tt
behind_differ k (e ∷ es) sorted = (ap is_eq (less_from (key_cmp k e.0) (both_first _ _ sorted)), behind_differ k es (both_second (is_lt (key_cmp k e.0)) _ sorted))

sorted_differ : (es : Pairs) → T (is_sorted key_cmp es) → IsDistinct (eq_by_cmp key_cmp) (map (λ p. p.0) es)
unfolding IsDistinct
sorted_differ [] sorted = tt
sorted_differ (e ∷ es) sorted = (behind_differ e.0 es (both_first _ _ sorted), sorted_differ es (both_second (below_all key_cmp e.0 es) _ sorted))

-- ---- the order of hashes

-- numbers that rise
abbrev pub Rise : List ℕ → Type 0
Rise [] = Unit {0}
Rise (n ∷ ns) = AllByRecursion (λ m. n ≤ m) ns × Rise ns

in_order : (below : ℕ) (ps : Pairs) → IsDistinct (eq_by_cmp key_cmp) (map (λ p. p.0) ps) → Rise (map (λ p. low_bits below p.0) ps) → AreInOrder below ps
unfolding IsDistinct
in_order below [] apart rise = tt
in_order below (p ∷ ps) apart rise = (both ps apart.0 rise.0, in_order below ps apart.1 rise.1) where
  both : (qs : Pairs) → AllByRecursion (λ y. eq_by_cmp key_cmp p.0 y ≡ false) (map (λ p. p.0) qs) → AllByRecursion (λ m. low_bits below p.0 ≤ m) (map (λ p. low_bits below p.0) qs)
      → AllByRecursion (λ q. (p.0 ≢ q.0) × (low_bits below p.0 ≤ low_bits below q.0)) qs
  both [] apart rise = tt
  both (q ∷ qs) apart rise = ((differ_by_test p.0 q.0 apart.0, rise.0), both qs apart.1 rise.1)

at_least : (n m : ℕ) (ns : List ℕ) → n ≤ m → AllByRecursion (λ k. m ≤ k) ns → AllByRecursion (λ k. n ≤ k) ns
at_least n m [] le all = tt
at_least n m (k ∷ ns) le all = (let here = all.0 in omega (arith, le, here), at_least n m ns le all.1)

-- neighbours in order are in order
pub sorted_rise : {E : Type 0} (lt : E → E → Bool) (number : E → ℕ) (Good : E → Type 0) → ((x y : E) → Good x → Good y → lt y x ≡ false → number x ≤ number y) → (es : List E) → All Good es → IsSortedBy lt es → Rise (map number es)
sorted_rise lt number Good up [] good sorted = tt
sorted_rise lt number Good up (x ∷ []) good sorted = (tt, tt)
sorted_rise lt number Good up (x ∷ y ∷ es) good sorted =
    let here : number x ≤ number y = up x y (All-head Good x (y ∷ es) good) (All-head Good y es (All-tail Good x (y ∷ es) good)) (sorted 0 x (omega arith) (omega arith)) in
    let rest : Rise (map number (y ∷ es)) = sorted_rise lt number Good up (y ∷ es) (All-tail Good x (y ∷ es) good) (λ k d low high.
    subst (λ (n : ℕ). lt (get_or (x ∷ y ∷ es) (n + 1) d) (get_or (x ∷ y ∷ es) n d) ≡ false → lt (get_or (y ∷ es) (k + 1) d) (get_or (y ∷ es) k d) ≡ false) (add_one k) (λ is. subst (λ (n : ℕ). lt (get_or (x ∷ y ∷ es) n d) (get_or (y ∷ es) k d) ≡ false → lt (get_or (y ∷ es) (k + 1) d) (get_or (y ∷ es) k d) ≡ false) (two_more k) (λ e. e) is)
    (sorted (k + 1) d (omega arith) (omega (arith, high)))) in
    ((here, at_least (number x) (number y) (map number es) here rest.0), rest) where
      add_one : (k : ℕ) → suc k ≡ k + 1
      add_one k = omega arith

      two_more : (k : ℕ) → suc (k + 1) ≡ suc k + 1
      two_more k = omega arith

-- ---- the pairs of a sorted list

map_swap : {A B : Type 0} (f : A → B) (xs : List A) (i j : ℕ) → i < length xs → j < length xs → map f (swap xs i j) ≡ swap (map f xs) i j
map_swap f [] i j low high = refl
map_swap f (x ∷ xs) i j low high =
    map-set f (set (x ∷ xs) i (get_or (x ∷ xs) j x)) j (get_or (x ∷ xs) i x) ∙ ap (λ ys. set ys j (f (get_or (x ∷ xs) i x))) (map-set f (x ∷ xs) i (get_or (x ∷ xs) j x))
    ∙ (λ t. set (set (map f (x ∷ xs)) i (sym (get_or-map f (x ∷ xs) j x (f x) high) t)) j (sym (get_or-map f (x ∷ xs) i x (f x) low) t))

-- what is shown of a list in another order is that of what is behind it, in that order
pub record Moved {A B : Type 0} (f : A → B) (xs : List A) (ys : List B) : Type 0 where
  pub items : List A
  pub moved : IsPermutation xs items
  pub same : map f items ≡ ys

pub unmapped : {A B : Type 0} (f : A → B) (xs : List A) (ys : List B) → IsPermutation (map f xs) ys → Moved f xs ys
unmapped {A} {B} f xs ys moves = IsPermutation-keeps (map f xs) (Moved f xs) (record { items = xs; moved = IsPermutation-refl xs; same = refl })
    (λ l i j low high so_far.
    let long : length l ≡ length so_far.items = ap length (sym so_far.same) ∙ length-map so_far.items f in
    let first : i < length so_far.items = omega (arith, long, low) in
    let second : j < length so_far.items = omega (arith, long, high) in
    record {
      items = swap so_far.items i j;
      moved = IsPermutation-trans xs so_far.items (swap so_far.items i j) so_far.moved (IsPermutation-swap so_far.items (swap so_far.items i j) i j first second refl);
      same = map_swap f so_far.items i j first second ∙ ap (λ (zs : List B). swap zs i j) so_far.same;
    }) ys moves

shown_first : {A B : Type 0} (f : A → ℕ × B) (xs : List A) → map (λ v. v.0) (map f xs) ≡ map (λ x. (f x).0) xs
shown_first f [] = refl
shown_first f (x ∷ xs) = ap (λ (ns : List ℕ). (f x).0 ∷ ns) (shown_first f xs)

-- the pairs of a map in the order of their hashes
pub sorted_lent : {E : Type 0} (view : E → ℕ × (List ℕ × List ℕ)) (below : ℕ) (m : Map) (before after : List E) → below ≤ 50 → FitNodes (entries m) → map view before ≡ map (λ p. (low_bits below p.0, (p.0, spelled p.1))) (entries m)
    → IsPermutation before after → Rise (map (λ e. (view e).0) after) → MapLent below m (map view after)
sorted_lent view below m before after small fit same moves rise =
    let back : Moved (λ p. (low_bits below p.0, (p.0, spelled p.1))) (entries m) (map view after) = unmapped (λ p. (low_bits below p.0, (p.0, spelled p.1))) (entries m) (map view after)
    (subst (λ vs. IsPermutation vs (map view after)) same (IsPermutation-map view before after moves)) in
    let numbers : map (λ e. (view e).0) after ≡ map (λ p. low_bits below p.0) back.items =
    sym (shown_first view after) ∙ ap (λ vs. map (λ (v : ℕ × (List ℕ × List ℕ)). v.0) vs) (sym back.same) ∙ shown_first (λ (p : List ℕ × Value). (low_bits below p.0, (p.0, spelled p.1))) back.items in
    let apart : IsDistinct (eq_by_cmp key_cmp) (map (λ p. p.0) back.items) =
    IsDistinct-IsPermutation (eq_by_cmp key_cmp) (λ x y. (eq_by_cmp_equiv nat_list_cmp_total).symm x y) (map (λ p. p.0) (entries m)) (map (λ p. p.0) back.items) (IsPermutation-map (λ p. p.0) (entries m) back.items back.moved) (sorted_differ (entries m) (finmap.entries_sorted m)) in
    record {
      pairs = back.items;
      are = record {
        start = below;
        from = omega arith;
        bound = small;
        same = sym back.same;
        fit = All-permutation (λ p. IsPlain 124 p.1) (entries m) back.items back.moved fit;
        order = in_order below back.items apart (subst Rise numbers rise);
      };
      same = ap entries (permuted_map m back.items back.moved);
    }
