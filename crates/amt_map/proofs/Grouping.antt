-- The groups of a node are runs of neighbours.
use Rattle.std.proofs.Common.{◌≡◌, ◌≢◌, ℕ, zero, suc, ◌+◌, ◌*◌, ◌/◌, ◌%◌, ◌^◌, ◌<◌, ◌≤◌, ◌⊎◌, inl, inr, true, false, cond, eqb, List, [], ◌∷◌, ◌++◌, length, map, take, refl, sym, ap, ◌∙◌, arith, append-nil}
use Rattle.std.proofs.lemmas.Bool.{cases_lt, lt-ltb, ne_eqb, eq-eqb}
use Rattle.std.proofs.lemmas.List.Elements.{All-nil, All-cons, All-head, All-tail, All-map, filter-append}
use Rattle.std.proofs.lemmas.List.Sums.{sum_by-cons}
use Rattle.std.proofs.lemmas.Nat.{pow-add}
use Rattle.std.specs.Prelude.{All, nat_lt}
use Rattle.std.specs.List.{filter, range_with_len}
use Rattle.amt_map.specs.Node.{bitmap, groups}
use Rattle.amt_map.specs.OneNode.{IsOneNode}
use Rattle.amt_map.specs.Pairs.{digit_at, with_digit}
use Rattle.amt_map.proofs.NodePlaces.{after, all_behind, all_both, digits_rise, under_node}
use Rattle.amt_map.proofs.Spellings.{both_first}

-- ---- numbered groups

-- the groups that some digits have, without the empty ones
abbrev pub numbered : {X : Type 0} → (ℕ → List (ℕ × X)) → List ℕ → List (ℕ × List (ℕ × X))
numbered F ks = filter (λ g. nat_lt 0 (length g.1)) (map (λ k. (k, F k)) ks)

same_numbered : {X : Type 0} (F G : ℕ → List (ℕ × X)) (a n : ℕ) → ((k : ℕ) → a ≤ k → F k ≡ G k) → numbered F (range_with_len a n) ≡ numbered G (range_with_len a n)
same_numbered F G a zero same = refl
same_numbered F G a (suc n) same =
    let here = same a (omega arith) in
    let rest = same_numbered F G (a + 1) n (λ k le. same k (omega arith)) in
    λ i. cond (nat_lt 0 (length (here i))) ((a, here i) ∷ rest i) (rest i)

none_here : {X : Type 0} (F : ℕ → List (ℕ × X)) (a n : ℕ) → F a ≡ [] → numbered F (range_with_len a (suc n)) ≡ numbered F (range_with_len (a + 1) n)
none_here {X = X} F a n none = ap (λ (xs : List (ℕ × X)). cond (nat_lt 0 (length xs)) ((a, xs) ∷ numbered F (range_with_len (a + 1) n)) (numbered F (range_with_len (a + 1) n))) none

some_here : {X : Type 0} (F : ℕ → List (ℕ × X)) (a n : ℕ) (run : List (ℕ × X)) → F a ≡ run → 0 < length run → numbered F (range_with_len a (suc n)) ≡ (a, run) ∷ numbered F (range_with_len (a + 1) n)
some_here {X = X} F a n run is some =
    ap (λ (xs : List (ℕ × X)). cond (nat_lt 0 (length xs)) ((a, xs) ∷ numbered F (range_with_len (a + 1) n)) (numbered F (range_with_len (a + 1) n))) is
    ∙ ap (λ b. cond b ((a, run) ∷ numbered F (range_with_len (a + 1) n)) (numbered F (range_with_len (a + 1) n))) (lt-ltb 0 (length run) some)

first_numbered : {X : Type 0} (F G : ℕ → List (ℕ × X)) (d : ℕ) (run : List (ℕ × X)) (a n : ℕ) → 0 < length run → a ≤ d → d < a + n → ((k : ℕ) → k < d → F k ≡ []) → F d ≡ run
    → ((k : ℕ) → k ≤ d → G k ≡ []) → ((k : ℕ) → d < k → F k ≡ G k) → numbered F (range_with_len a n) ≡ (d, run) ∷ numbered G (range_with_len a n)
first_numbered F G d run a zero some low high before here gone same = absurd (omega arith)
first_numbered {X = X} F G d run a (suc n) some low high before here gone same =
    by (λ less. first_numbered F G d run (a + 1) n some (omega arith) (omega arith) before here gone same) (cases_lt a d) where
      by : (a < d → numbered F (range_with_len (a + 1) n) ≡ (d, run) ∷ numbered G (range_with_len (a + 1) n)) → (a < d) ⊎ (d ≤ a) → numbered F (range_with_len a (suc n)) ≡ (d, run) ∷ numbered G (range_with_len a (suc n))
      by next (inl less) =
          none_here F a n (before a less) ∙ next less
          ∙ ap (λ gs. (d, run) ∷ gs) (sym (none_here G a n (gone a (omega arith))))
      by next (inr not_less) =
          let at : a ≡ d = omega arith in
          some_here F a n run (ap F at ∙ here) some
          ∙ (λ i. (at i, run) ∷ same_numbered F G (a + 1) n (λ k le. same k (omega arith)) i)
          ∙ ap (λ gs. (d, run) ∷ gs) (sym (none_here G a n (gone a (omega arith))))

-- there are no more groups than digits
pub few_numbered : {X : Type 0} (F : ℕ → List (ℕ × X)) (ks : List ℕ) → length (numbered F ks) ≤ length ks
few_numbered F [] = omega arith
few_numbered F (k ∷ ks) =
    let rest = few_numbered F ks in
    elim (nat_lt 0 (length (F k))) as (λ b. length (cond b ((k, F k) ∷ numbered F ks) (numbered F ks)) ≤ suc (length ks)) [ true ↦ omega arith | false ↦ omega arith ]

pub small_bitmap : {X : Type 0} (F : ℕ → List (ℕ × X)) (a n : ℕ) → bitmap (numbered F (range_with_len a n)) + 2 ^ a ≤ 2 ^ (a + n)
small_bitmap F a zero = let same : 2 ^ (a + 0) ≡ 2 ^ a = ap (λ (k : ℕ). 2 ^ k) (omega arith) in omega (arith, same)
small_bitmap {X = X} F a (suc n) =
    let rest = small_bitmap F (a + 1) n in
    let twice : 2 ^ (a + 1) ≡ 2 ^ a * 2 = pow-add 2 a 1 in
    let same : 2 ^ ((a + 1) + n) ≡ 2 ^ (a + suc n) = ap (λ (k : ℕ). 2 ^ k) (omega arith) in
    let left : List (ℕ × List (ℕ × X)) = numbered F (range_with_len (a + 1) n) in
    elim (nat_lt 0 (length (F a))) as (λ b. bitmap (cond b ((a, F a) ∷ left) left) + 2 ^ a ≤ 2 ^ (a + suc n)) [
      | true ↦ let more = sum_by-cons (λ (k : ℕ). k) (2 ^ a) (map (λ g. 2 ^ g.0) left) in omega (arith, more, rest, twice, same)
      | false ↦ omega (arith, rest, twice, same)
    ]

-- ---- a digit's pairs

none_with : {X : Type 0} (height k : ℕ) (es : List (ℕ × X)) → All (λ p. digit_at height p.0 ≢ k) es → with_digit height k es ≡ []
none_with height k [] apart = refl
none_with height k (e ∷ es) apart =
    ap (λ b. cond b (e ∷ with_digit height k es) (with_digit height k es)) (ne_eqb _ _ (All-head (λ p. digit_at height p.0 ≢ k) e es apart))
    ∙ none_with height k es (All-tail (λ p. digit_at height p.0 ≢ k) e es apart)

all_with : {X : Type 0} (height k : ℕ) (es : List (ℕ × X)) → All (λ p. digit_at height p.0 ≡ k) es → with_digit height k es ≡ es
all_with height k [] has = refl
all_with height k (e ∷ es) has =
    ap (λ b. cond b (e ∷ with_digit height k es) (with_digit height k es)) (eq-eqb _ _ (All-head (λ p. digit_at height p.0 ≡ k) e es has))
    ∙ ap (λ t. e ∷ t) (all_with height k es (All-tail (λ p. digit_at height p.0 ≡ k) e es has))

-- ---- the first run

-- the digits behind the first run are greater
later : {X : Type 0} (height place d : ℕ) (behind : List (ℕ × X)) → IsOneNode height place behind → All (λ p. d ≤ digit_at height p.0) behind → All (λ p. digit_at height p.0 ≢ d) (take 1 behind) → All (λ p. d < digit_at height p.0) behind
later height place d [] one least apart = All-nil (λ p. d < digit_at height p.0)
later height place d (b ∷ behind) one least apart =
    let first : d < digit_at height b.0 = let not_same = All-head (λ p. digit_at height p.0 ≢ d) b [] apart in let low = All-head (λ p. d ≤ digit_at height p.0) b behind least in omega arith in
    let in-b : b.0 / 8 ^ suc height ≡ place = All-head (λ p. p.0 / 8 ^ suc height ≡ place) b behind one.within in
    All-cons (λ p. d < digit_at height p.0) b behind first
    (all_both (λ p. b.0 < p.0) (λ p. p.0 / 8 ^ suc height ≡ place) (λ p. d < digit_at height p.0) (λ p less in-p. let rise = digits_rise height place b.0 p.0 in-b in-p less in omega arith) behind
    (after b.0 behind (both_first _ _ one.rising)) (All-tail (λ p. p.0 / 8 ^ suc height ≡ place) b behind one.within))

pub first_group : {X : Type 0} (height place d : ℕ) (run behind : List (ℕ × X)) → IsOneNode height place (run ++ behind) → 0 < length run → d < 8
    → All (λ p. digit_at height p.0 ≡ d) run → All (λ p. digit_at height p.0 ≢ d) (take 1 behind) → groups height (run ++ behind) ≡ (d, run) ∷ groups height behind
unfolding groups
first_group height place d [] behind one some small has apart = absurd (omega arith)
first_group {X = X} height place d (e ∷ run) behind one some small has apart =
    let in-e : e.0 / 8 ^ suc height ≡ place = All-head (λ p. p.0 / 8 ^ suc height ≡ place) e (run ++ behind) one.within in
    let is-e : digit_at height e.0 ≡ d = All-head (λ p. digit_at height p.0 ≡ d) e run has in
    let one-behind : IsOneNode height place behind = under_node height place (e ∷ run) behind one in
    let least : All (λ p. d ≤ digit_at height p.0) behind =
    all_both (λ p. e.0 < p.0) (λ p. p.0 / 8 ^ suc height ≡ place) (λ p. d ≤ digit_at height p.0) (λ p less in-p. let rise = digits_rise height place e.0 p.0 in-e in-p less in omega arith) behind
    (all_behind (λ p. e.0 < p.0) run behind (after e.0 (run ++ behind) (both_first _ _ one.rising))) one-behind.within in
    let greater : All (λ p. d < digit_at height p.0) behind = later height place d behind one-behind least apart in
    let split : (k : ℕ) → with_digit height k ((e ∷ run) ++ behind) ≡ with_digit height k (e ∷ run) ++ with_digit height k behind = λ k. filter-append (λ p. eqb (digit_at height p.0) k) (e ∷ run) behind in
    let gone : (k : ℕ) → k ≤ d → with_digit height k behind ≡ [] = λ k le. none_with height k behind (λ i x within. let high = greater i x within in λ is. omega (arith, is, high)) in
    let other : (k : ℕ) → k ≢ d → with_digit height k (e ∷ run) ≡ [] = λ k apart_k. none_with height k (e ∷ run) (λ i x within. let is = has i x within in λ same. apart_k (sym same ∙ is)) in
    first_numbered (λ k. with_digit height k ((e ∷ run) ++ behind)) (λ k. with_digit height k behind) d (e ∷ run) 0 8 some (omega arith) small
    (λ k less. split k ∙ (λ i. other k (λ same. omega (arith, same, less)) i ++ gone k (omega arith) i))
    (split d ∙ (λ i. all_with height d (e ∷ run) has i ++ gone d (omega arith) i) ∙ append-nil (e ∷ run))
    gone
    (λ k less. split k ∙ ap (λ xs. xs ++ with_digit height k behind) (other k (λ same. omega (arith, same, less))))

pub no_groups : {X : Type 0} (height : ℕ) → groups {X = X} height [] ≡ []
unfolding groups
no_groups height = refl

pub few_groups : {X : Type 0} (height : ℕ) (ps : List (ℕ × X)) → length (groups height ps) ≤ 8
unfolding groups
few_groups height ps = few_numbered (λ k. with_digit height k ps) (range_with_len 0 8)

pub small_bits : {X : Type 0} (height : ℕ) (ps : List (ℕ × X)) → bitmap (groups height ps) < 2 ^ 8
unfolding groups
small_bits height ps = let small = small_bitmap (λ k. with_digit height k ps) 0 8 in omega (arith, small)

different_digits : (i j : ℕ) → i < j → i / 8 ≡ j / 8 → i / 1 % 8 ≡ j / 1 % 8 → ⊥
different_digits i j less places same = omega (arith, less, places, same)

-- at height 0 each pair is a group
pub first_pair : {X : Type 0} (place : ℕ) (p : ℕ × X) (ps : List (ℕ × X)) → IsOneNode 0 place (p ∷ ps) → groups 0 (p ∷ ps) ≡ (digit_at 0 p.0, p ∷ []) ∷ groups 0 ps
first_pair {X = X} place p ps one = first_group 0 place (digit_at 0 p.0) (p ∷ []) ps one (omega arith) (omega arith) (All-cons (λ q. digit_at 0 q.0 ≡ digit_at 0 p.0) p [] refl (All-nil (λ q. digit_at 0 q.0 ≡ digit_at 0 p.0)))
    (apart ps (after p.0 ps (both_first _ _ one.rising)) (All-tail (λ q. q.0 / 8 ^ suc 0 ≡ place) p ps one.within)) where
      in-p : p.0 / 8 ^ suc 0 ≡ place
      in-p = All-head (λ q. q.0 / 8 ^ suc 0 ≡ place) p ps one.within

      apart : (qs : List (ℕ × X)) → All (λ q. p.0 < q.0) qs → All (λ q. q.0 / 8 ^ suc 0 ≡ place) qs → All (λ q. digit_at 0 q.0 ≢ digit_at 0 p.0) (take 1 qs)
      apart [] less within = All-nil (λ q. digit_at 0 q.0 ≢ digit_at 0 p.0)
      apart (q ∷ qs) less within =
          let more : p.0 < q.0 = All-head (λ r. p.0 < r.0) q qs less in
          let in-q : q.0 / 8 ^ suc 0 ≡ place = All-head (λ r. r.0 / 8 ^ suc 0 ≡ place) q qs within in
          All-cons (λ r. digit_at 0 r.0 ≢ digit_at 0 p.0) q [] (λ same. different_digits p.0 q.0 more (in-p ∙ sym in-q) (sym same)) (All-nil (λ r. digit_at 0 r.0 ≢ digit_at 0 p.0))

-- what the code asks of the pairs behind
pub stop_shown : {P X : Type 0} (f : P → ℕ × X) (Q : ℕ × X → Type 0) (ps : List P) → All (λ p. Q (f p)) (take 1 ps) → All Q (take 1 (map f ps))
stop_shown f Q [] all = All-nil Q
stop_shown f Q (p ∷ ps) all = All-map Q f (p ∷ []) all
