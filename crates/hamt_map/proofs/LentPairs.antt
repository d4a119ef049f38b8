-- The pairs that the code lends, in the order of their hashes.
use Rattle.std.proofs.Common.{◌≡◌, ◌≢◌, ℕ, ◌+◌, ◌-◌, ◌≤◌, List, [], ◌∷◌, ◌++◌, false, length, map, take, drop, get_or, All, refl, sym, ap, subst, ◌∙◌, append_assoc}
use Rattle.std.proofs.lemmas.List.{drop-drop, length-map, map-append}
use Rattle.std.proofs.lemmas.List.Elements.{All-cons, All-head, All-nil, All-tail}
use Rattle.std.proofs.lemmas.List.Sorted.{All-permutation}
use Rattle.std.specs.Cmp.Lexicographic.{slice_cmp}
use Rattle.std.specs.FinMap.{entries}
use Rattle.std.specs.Int.Digits.{number_from_digits}
use Rattle.std.specs.List.{drop-map, take-map}
use Rattle.std.specs.Prelude.{nat_lt}
use Rattle.std.specs.List.Sorted.{IsPermutation, IsSorted}
use Rattle.std.specs.Ordering.{is_lt, nat_cmp, ordering_then}
use Rattle.std.specs.declared.cmp.Ordering.{Ordering}
use Rattle.dag_cbor.specs.declared.value.Value.{Value}
use Rattle.dag_cbor.specs.Spelling.{spelled}
use Rattle.hamt_map.specs.Canonical.{map_of}
use Rattle.hamt_map.specs.Groups.{is_group}
use Rattle.hamt_map.specs.HashOrder.{AreLent, MapLent, low_bits, place_of}
use Rattle.hamt_map.specs.Holds.{Holds, spellings}
use Rattle.hamt_map.specs.Lent.{IsHashed, lent_of}
use Rattle.hamt_map.specs.Pairs.{Map, Pairs, hash_number, place_on}
use Rattle.hamt_map.specs.declared.hashed.Hashed.{Hashed}
use Rattle.hamt_map.proofs.AnyOrder.{count_again, sorted_lent, sorted_rise}
use Rattle.hamt_map.proofs.HashNumbers.{first_in_order, numbers_in_order}
use Rattle.hamt_map.proofs.InOrder.{Run, Swept, next_run, place_kept}
use Rattle.hamt_map.proofs.PointerSteps.{lent_group}

-- ---- all pairs of a map

-- one more pair is lent
pub lent_more : (whole left rest : List (List ℕ × List ℕ)) (done after : List Hashed) (e : Hashed) (s : List ℕ × List ℕ) → whole ≡ map (λ p. (p.key.now, p.spelling.now)) done ++ left → left ≡ s ∷ rest → after ≡ done ++ e ∷ []
    → e.key.now ≡ s.0 → e.spelling.now ≡ s.1 → whole ≡ map (λ p. (p.key.now, p.spelling.now)) after ++ rest
lent_more whole left rest done after e s so_far step is key spelling =
    let shown : map (λ p. (p.key.now, p.spelling.now)) after ≡ map (λ p. (p.key.now, p.spelling.now)) done ++ (e.key.now, e.spelling.now) ∷ [] =
    ap (map (λ (p : Hashed). (p.key.now, p.spelling.now))) is ∙ map-append (λ (p : Hashed). (p.key.now, p.spelling.now)) done (e ∷ []) in
    so_far ∙ ap (λ ss. map (λ (p : Hashed). (p.key.now, p.spelling.now)) done ++ ss) (step ∙ (λ i. (sym key i, sym spelling i) ∷ rest))
    ∙ sym (ap (λ ss. ss ++ rest) shown ∙ append_assoc (map (λ (p : Hashed). (p.key.now, p.spelling.now)) done) ((e.key.now, e.spelling.now) ∷ []) rest)

lent_all : (below : ℕ) (es : List Hashed) (ps : Pairs) → map (λ p. (p.key.now, p.spelling.now)) es ≡ spellings ps → All (IsHashed below) es → map lent_of es ≡ map (λ p. (low_bits below p.0, (p.0, spelled p.1))) ps
lent_all below [] [] same hashes = refl
lent_all below [] (p ∷ ps) same hashes = absurd (cc same)
lent_all below (e ∷ es) [] same hashes = absurd (cc same)
lent_all below (e ∷ es) (p ∷ ps) same hashes =
    let first : ◌≡◌ {A = List ℕ × List ℕ} (e.key.now, e.spelling.now) (p.0, spelled p.1) = cc same in
    let behind : map (λ p. (p.key.now, p.spelling.now)) es ≡ spellings ps = cc same in
    let key : e.key.now ≡ p.0 = ap (λ (s : List ℕ × List ℕ). s.0) first in
    let text : e.spelling.now ≡ spelled p.1 = ap (λ (s : List ℕ × List ℕ). s.1) first in
    let number : number_from_digits 256 e.hash ≡ low_bits below p.0 = (All-head (IsHashed below) e es hashes).number ∙ ap (low_bits below) key in
    let rest = lent_all below es ps behind (All-tail (IsHashed below) e es hashes) in
    λ i. (number i, (key i, text i)) ∷ rest i

pub hash_rises : (below : ℕ) (x y : Hashed) (rest : Ordering) → IsHashed below x → IsHashed below y → is_lt (ordering_then (slice_cmp nat_cmp y.hash x.hash) rest) ≡ false → number_from_digits 256 x.hash ≤ number_from_digits 256 y.hash
hash_rises below x y rest good-x good-y order = numbers_in_order x.hash y.hash (good-x.long ∙ sym good-y.long) good-x.bytes (first_in_order (slice_cmp nat_cmp y.hash x.hash) rest order)

-- ---- one pair

-- ---- runs

same_part : (start done n : ℕ) (es : List Hashed) (ps : Pairs) → map lent_of es ≡ map (λ p. (low_bits start p.0, (p.0, spelled p.1))) ps
    → map lent_of (take n (drop done es)) ≡ map (λ p. (low_bits start p.0, (p.0, spelled p.1))) (take n (drop done ps))
same_part start done n es ps same =
    sym (ap (take n) (drop-map lent_of done es) ∙ take-map lent_of n (drop done es)) ∙ ap (λ vs. take n (drop done vs)) same
    ∙ ap (take n) (drop-map (λ (p : List ℕ × Value). (low_bits start p.0, (p.0, spelled p.1))) done ps) ∙ take-map (λ (p : List ℕ × Value). (low_bits start p.0, (p.0, spelled p.1))) n (drop done ps)

-- what holds of the hashes that are lent holds of the pairs' bits
all_shown : (P : ℕ → Type 0) (start : ℕ) (es : List Hashed) (ps : Pairs) → map lent_of es ≡ map (λ p. (low_bits start p.0, (p.0, spelled p.1))) ps → All (λ e. P (number_from_digits 256 e.hash)) es → All (λ p. P (low_bits start p.0)) ps
all_shown P start [] [] same all = All-nil (λ p. P (low_bits start p.0))
all_shown P start [] (p ∷ ps) same all = absurd (cc same)
all_shown P start (e ∷ es) [] same all = absurd (cc same)
all_shown P start (e ∷ es) (p ∷ ps) same all =
    let first : ◌≡◌ {A = ℕ × (List ℕ × List ℕ)} (lent_of e) (low_bits start p.0, (p.0, spelled p.1)) = cc same in
    let behind : map lent_of es ≡ map (λ p. (low_bits start p.0, (p.0, spelled p.1))) ps = cc same in
    All-cons (λ p. P (low_bits start p.0)) p ps (subst P (ap (λ (v : ℕ × (List ℕ × List ℕ)). v.0) first) (All-head (λ e. P (number_from_digits 256 e.hash)) e es all))
    (all_shown P start es ps behind (All-tail (λ e. P (number_from_digits 256 e.hash)) e es all))

-- the places that are read of the hashes are those of the keys
all_placed : (Q : ℕ → Type 0) (below start : ℕ) (es : List Hashed) (ps : Pairs) → below ≤ start → start ≤ 50 → map lent_of es ≡ map (λ p. (low_bits start p.0, (p.0, spelled p.1))) ps
    → All (λ e. Q (place_of (51 - below) (number_from_digits 256 e.hash))) es → All (λ p. Q (place_on (51 - below) p.0)) ps
all_placed Q below start es ps from small same all =
    let shown = all_shown (λ n. Q (place_of (51 - below) n)) start es ps same all in
    λ k d within. subst Q (place_kept below start (hash_number (get_or ps k d).0) from small) (shown k d within)

-- a run of the pairs that are left is the group of its place
pub record RunOf (below k done : ℕ) (run : List Hashed) (ps : Pairs) : Type 0 where
  pub at : Run below k done (length run) ps
  pub lent : AreLent (below - 1) (map lent_of run) (take (length run) (drop done ps))
  pub full : nat_lt 0 (length run) ≡ is_group (entries (map_of (take (length run) (drop done ps))))

pub run_of : (below k done : ℕ) (es rest run : List Hashed) (ps : Pairs) → below ≤ 50 → rest ≡ drop done es → run ≡ take (length run) rest
    → All (λ e. place_of (51 - below) (number_from_digits 256 e.hash) ≡ k) run → All (λ e. place_of (51 - below) (number_from_digits 256 e.hash) ≢ k) (take 1 (drop (length run) rest))
    → AreLent below (map lent_of es) ps → Swept below k done ps → RunOf below k done run ps
run_of below k done es rest run ps small back front at apart are swept =
    let n : ℕ = length run in
    let is : run ≡ take n (drop done es) = front ∙ ap (take n) back in
    let here : map lent_of run ≡ map (λ p. (low_bits are.start p.0, (p.0, spelled p.1))) (take n (drop done ps)) = ap (map lent_of) is ∙ same_part are.start done n es ps are.same in
    let behind : take 1 (drop n rest) ≡ take 1 (drop (done + n) es) = ap (λ (xs : List Hashed). take 1 (drop n xs)) back ∙ ap (take 1) (drop-drop n done es) in
    let other : All (λ p. place_on (51 - below) p.0 ≢ k) (take 1 (drop (done + n) ps)) =
    all_placed (λ (place : ℕ). place ≢ k) below are.start (take 1 (drop (done + n) es)) (take 1 (drop (done + n) ps)) are.from are.bound (same_part are.start (done + n) 1 es ps are.same)
    (subst (All (λ e. place_of (51 - below) (number_from_digits 256 e.hash) ≢ k)) behind apart) in
    let placed : All (λ p. place_on (51 - below) p.0 ≡ k) (take n (drop done ps)) = all_placed (λ (place : ℕ). place ≡ k) below are.start run (take n (drop done ps)) are.from are.bound here at in
    let lent : AreLent (below - 1) (take n (drop done (map lent_of es))) (take n (drop done ps)) = lent_group below k done n (map lent_of es) ps small are placed in
    let shown : take n (drop done (map lent_of es)) ≡ map lent_of run = sym (ap (map lent_of) is ∙ sym (ap (take n) (drop-map lent_of done es) ∙ take-map lent_of n (drop done es))) in
    let mine : AreLent (below - 1) (map lent_of run) (take n (drop done ps)) = subst (λ vs. AreLent (below - 1) vs (take n (drop done ps))) shown lent in
    let size : length run ≡ length (take n (drop done ps)) = sym (length-map run lent_of) ∙ ap length here ∙ length-map (take n (drop done ps)) (λ p. (low_bits are.start p.0, (p.0, spelled p.1))) in
    record {
      at = next_run below k done n ps small are.order swept placed (subst (All (λ p. place_on (51 - below) p.0 ≢ k)) (ap (take 1) (sym (drop-drop n done ps))) other);
      lent = mine;
      full = ap (nat_lt 0) (size ∙ sym (count_again (below - 1) (take n (drop done ps)) mine.order));
    }

-- ---- the pairs of a map

-- pairs that were sorted by their hashes first
pub map_lent : (below : ℕ) (m : Map) (pairs : List (List ℕ × List ℕ)) (before after : List Hashed) (rest : Hashed → Hashed → Ordering) → below ≤ 50 → Holds pairs m
    → map (λ p. (p.key.now, p.spelling.now)) before ≡ pairs → All (IsHashed below) before → IsPermutation before after → IsSorted (λ x y. ordering_then (slice_cmp nat_cmp x.hash y.hash) (rest x y)) after → MapLent below m (map lent_of after)
map_lent below m pairs before after rest small held shown hashes moved sorted =
    sorted_lent lent_of below m before after small held.fit (lent_all below before (entries m) (shown ∙ held.same) hashes) moved
    (sorted_rise (λ x y. is_lt (ordering_then (slice_cmp nat_cmp x.hash y.hash) (rest x y))) (λ e. number_from_digits 256 e.hash) (IsHashed below)
    (λ x y good-x good-y order. hash_rises below x y (rest y x) good-x good-y order) after (All-permutation (IsHashed below) before after moved hashes) sorted)
