-- Exports whose names differ, and the set of the names so far.
use Rattle.std.proofs.Common.{◌≡◌, ◌+◌, ◌<◌, ◌≤◌, ℕ, suc, List, [], ◌∷◌, Bool, true, false, not, ◌&&◌, ◌||◌, Bor, length, get_or, drop, drop-cons, add-one, refl, sym, ap, ◌∙◌}
use Rattle.std.proofs.lemmas.List.{drop_all}
use Rattle.std.specs.BTreeSet.{insert_key}
use Rattle.std.specs.List.{list_all, list_any}
use Rattle.std.specs.Cmp.{alike_right, unsigned_ties}
use Rattle.std.specs.Cmp.Lexicographic.{lists_ties, nat_list_cmp_total, nat_list_eq_equiv, slice_cmp}
use Rattle.std.specs.Ordering.{is_eq, match_ordering, nat_cmp}
use Rattle.std.specs.declared.cmp.Ordering.TheVariants.{Less, Equal, Greater}
use Rattle.wasm_types.specs.declared.raw_module.Export.{Export}
use Rattle.wasm_check.specs.Modules.{are_distinct, is_same_name}

-- whether a name is among the keys of a set
abbrev pub is_taken : List (Bor (List ℕ)) → List ℕ → Bool
is_taken keys name = list_any (λ key. is_eq (slice_cmp nat_cmp name key.now)) keys

-- whether no name of some exports is among the keys
abbrev pub are_new : List (Bor (List ℕ)) → List Export → Bool
are_new keys es = list_all (λ e. not (is_taken keys e.name)) es

-- whether the names of some exports differ, also from the keys
unfoldable pub are_apart : List (Bor (List ℕ)) → List Export → Bool
are_apart keys es = are_new keys es && are_distinct es

-- whether exports have another name than this one
abbrev pub have_other : List ℕ → List Export → Bool
have_other name es = not (list_any (λ other. is_same_name name other.name) es)

-- to ask twice is to ask once
or_twice : (a b : Bool) → (a || b) ≡ (a || (a || b))
or_twice true b = refl
or_twice false b = refl

-- the order of questions has no part in the answer
or_swap : (a b c : Bool) → (a || (b || c)) ≡ (b || (a || c))
or_swap true true c = refl
or_swap true false c = refl
or_swap false b c = refl

-- the two ways to ask whether names are one
same_asked : (k name : List ℕ) → is_eq (slice_cmp nat_cmp name k) ≡ is_same_name k name
same_asked k name = sym (lists_ties nat_cmp unsigned_ties name k) ∙ nat_list_eq_equiv.symm name k

-- whether a name is among the keys, with one more
taken_insert : (name : List ℕ) (keys : List (Bor (List ℕ))) (k : Bor (List ℕ))
    → is_taken (insert_key (λ a b. slice_cmp nat_cmp a.now b.now) keys k) name ≡ (is_eq (slice_cmp nat_cmp name k.now) || is_taken keys name)
taken_insert name [] k = refl
taken_insert name (x ∷ keys) k =
    let rest = taken_insert name keys k in
    elim (slice_cmp nat_cmp k.now x.now) as (λ o. slice_cmp nat_cmp k.now x.now ≡ o
    → is_taken (match_ordering o (k ∷ x ∷ keys) (x ∷ keys) (x ∷ insert_key (λ a b. slice_cmp nat_cmp a.now b.now) keys k)) name
    ≡ (is_eq (slice_cmp nat_cmp name k.now) || (is_eq (slice_cmp nat_cmp name x.now) || is_taken keys name))) [
      | Less ↦ λ is. refl
      | Equal ↦ λ is. or_twice (is_eq (slice_cmp nat_cmp name x.now)) _
          ∙ ap (λ o. is_eq o || (is_eq (slice_cmp nat_cmp name x.now) || is_taken keys name)) (sym (alike_right nat_list_cmp_total k.now x.now name is))
      | Greater ↦ λ is. ap (λ t. is_eq (slice_cmp nat_cmp name x.now) || t) rest ∙ or_swap (is_eq (slice_cmp nat_cmp name x.now)) (is_eq (slice_cmp nat_cmp name k.now)) _
    ] refl

-- a step of the test below
new_step : (same taken new other : Bool) → (not (same || taken) && (new && not other)) ≡ ((not taken && new) && not (same || other))
new_step true true new other = refl
new_step true false true other = refl
new_step true false false other = refl
new_step false true new other = refl
new_step false false new other = refl

-- names are new beside one key more if they were new before and are not that key
new_insert : (keys : List (Bor (List ℕ))) (k : Bor (List ℕ)) (es : List Export)
    → are_new (insert_key (λ a b. slice_cmp nat_cmp a.now b.now) keys k) es ≡ (are_new keys es && have_other k.now es)
new_insert keys k [] = refl
new_insert keys k (e ∷ es) =
    ap (λ t. not t && are_new (insert_key (λ a b. slice_cmp nat_cmp a.now b.now) keys k) es) (taken_insert e.name keys k ∙ ap (λ t. t || is_taken keys e.name) (same_asked k.now e.name))
    ∙ ap (λ t. not (is_same_name k.now e.name || is_taken keys e.name) && t) (new_insert keys k es)
    ∙ new_step (is_same_name k.now e.name) (is_taken keys e.name) (are_new keys es) (list_any (λ other. is_same_name k.now other.name) es)

-- beside no keys every name is new
new_first : (es : List Export) → are_new [] es ≡ true
new_first [] = refl
new_first (e ∷ es) = new_first es

-- how questions are grouped has no part in the answer
and_assoc : (a b c : Bool) → (a && (b && c)) ≡ ((a && b) && c)
and_assoc true b c = refl
and_assoc false b c = refl

-- beside no keys, to be apart is to differ
pub apart_first : (keys : List (Bor (List ℕ))) (es : List Export) → keys ≡ [] → are_distinct es ≡ are_apart keys (drop 0 es)
unfolding are_apart
apart_first keys es none = sym (ap (λ ks. are_new ks es && are_distinct es) none ∙ ap (λ t. t && are_distinct es) (new_first es))

-- no exports are apart from any keys
pub apart_last : (keys : List (Bor (List ℕ))) → are_apart keys [] ≡ true
unfolding are_apart
apart_last keys = refl

-- an export of a new name, whose name becomes a key
apart_head : (keys : List (Bor (List ℕ))) (k : Bor (List ℕ)) (e : Export) (es : List Export) → k.now ≡ e.name → is_taken keys k.now ≡ false
    → are_apart keys (e ∷ es) ≡ are_apart (insert_key (λ a b. slice_cmp nat_cmp a.now b.now) keys k) es
unfolding are_apart
apart_head keys k e es name new =
    ap (λ t. (not t && are_new keys es) && (have_other e.name es && are_distinct es)) (ap (is_taken keys) (sym name) ∙ new)
    ∙ ap (λ n. are_new keys es && (have_other n es && are_distinct es)) (sym name)
    ∙ and_assoc (are_new keys es) (have_other k.now es) (are_distinct es)
    ∙ ap (λ t. t && are_distinct es) (sym (new_insert keys k es))

-- an export of a name that is a key
apart_taken : (keys : List (Bor (List ℕ))) (k : List ℕ) (e : Export) (es : List Export) → k ≡ e.name → is_taken keys k ≡ true → are_apart keys (e ∷ es) ≡ false
unfolding are_apart
apart_taken keys k e es name taken =
    ap (λ t. (not t && are_new keys es) && (have_other e.name es && are_distinct es)) (ap (is_taken keys) (sym name) ∙ taken)

-- a name that the set took was new
not_taken : (a : Bool) → true ≡ not a → a ≡ false
not_taken true is = is
not_taken false is = refl

-- and one that it did not take was there
was_taken : (a : Bool) → false ≡ not a → a ≡ true
was_taken true is = refl
was_taken false is = is

-- the first one of those that are left
next_one : (es : List Export) (i : ℕ) (d : Export) → i < length es → d ≡ get_or es i d → drop i es ≡ d ∷ drop (i + 1) es
next_one es i d within item = drop-cons es i d within ∙ ap (λ (e : Export). e ∷ drop (suc i) es) (sym item) ∙ ap (λ (n : ℕ). d ∷ drop n es) (sym (add-one i))

-- one export more, of a new name
pub apart_more : (keys after : List (Bor (List ℕ))) (k : Bor (List ℕ)) (es : List Export) (i : ℕ) (d : Export) (all new : Bool) → i < length es → d ≡ get_or es i d → k.now ≡ d.name
    → all ≡ are_apart keys (drop i es) → new ≡ not (is_taken keys k.now) → new ≡ true → after ≡ insert_key (λ a b. slice_cmp nat_cmp a.now b.now) keys k → all ≡ are_apart after (drop (i + 1) es)
apart_more keys after k es i d all new within item name is added was inserted =
    is ∙ ap (are_apart keys) (next_one es i d within item) ∙ apart_head keys k d (drop (i + 1) es) name (not_taken (is_taken keys k.now) (sym was ∙ added)) ∙ ap (λ ks. are_apart ks (drop (i + 1) es)) (sym inserted)

-- an export of a name that came before
pub apart_again : (keys : List (Bor (List ℕ))) (k : List ℕ) (es : List Export) (i : ℕ) (d : Export) (all new : Bool) → i < length es → d ≡ get_or es i d → k ≡ d.name
    → all ≡ are_apart keys (drop i es) → new ≡ not (is_taken keys k) → new ≡ false → false ≡ all
apart_again keys k es i d all new within item name is added was =
    sym (is ∙ ap (are_apart keys) (next_one es i d within item) ∙ apart_taken keys k d (drop (i + 1) es) name (was_taken (is_taken keys k) (sym was ∙ added)))

-- all exports came
pub apart_whole : (keys : List (Bor (List ℕ))) (es : List Export) (i : ℕ) (all : Bool) → all ≡ are_apart keys (drop i es) → length es ≤ i → true ≡ all
apart_whole keys es i all is end = sym (is ∙ ap (are_apart keys) (drop_all i es end) ∙ apart_last keys)
