-- The order of the IDs of an account list, and the total of its balances.
use Rattle.std.proofs.Common.{◌≡◌, ℕ, zero, suc, ◌+◌, ◌-◌, ◌<◌, ◌≤◌, Bool, true, false, cond, ltb, List, [], ◌∷◌, length, get_or, map, sum, take, drop, length-drop, Option, Some, None, inl, inr, refl, sym, ap, subst, ◌∙◌, arith}
use Rattle.std.specs.List.Sorted.{IsStrictlyIncreasing}
use Rattle.std.proofs.lemmas.Bool.{cases_Bool, cases_lt, lt-ltb, le-ltb, ltb-true}
use Rattle.std.proofs.lemmas.List.Sums.{sum-map, sum_by_more_le}
use Rattle.fil_base.specs.declared.token.TheConstants.{GREATEST_AMOUNT}
use Rattle.std.proofs.lemmas.List.{drop_all, drop_more, get_or-map, length-map}
use Rattle.fil_message.specs.Form0Reading.{not_above}
use Rattle.fil_message.specs.declared.form0.Form0Actor.{Form0Actor}

-- the IDs in their order
abbrev pub ids : List Form0Actor → List ℕ
ids xs = map (λ a. a.id) xs

-- the ID of the actor at a place
id_at : (xs : List Form0Actor) (i : ℕ) (a : Form0Actor) → i < length xs → a ≡ get_or xs i a → get_or (ids xs) i 0 ≡ a.id
id_at xs i a within at = get_or-map (λ x. x.id) xs i a 0 within ∙ ap (λ x. x.id) (sym at)

-- nothing is wrong before a place
abbrev pub RisesTo : List ℕ → ℕ → Type 0
RisesTo xs i = not_above 0 xs ≡ not_above i (drop i xs)

two_left : (xs : List ℕ) (i : ℕ) → i + 1 < length xs → drop i xs ≡ get_or xs i 0 ∷ (get_or xs (i + 1) 0 ∷ drop (i + 1 + 1) xs)
two_left xs i within = drop_more xs i 0 (omega arith) ∙ ap (λ (ys : List ℕ). get_or xs i 0 ∷ ys) (drop_more xs (i + 1) 0 within)

rises_on : (xs : List ℕ) (i : ℕ) → i + 1 < length xs → get_or xs i 0 < get_or xs (i + 1) 0 → RisesTo xs i → RisesTo xs (i + 1)
rises_on xs i within less so_far =
    let next : get_or xs (i + 1) 0 ∷ drop (i + 1 + 1) xs ≡ drop (i + 1) xs = sym (drop_more xs (i + 1) 0 within) in
    so_far ∙ ap (not_above i) (two_left xs i within)
    ∙ (rw (lt-ltb (get_or xs i 0) (get_or xs (i + 1) 0) less) (ap (not_above (i + 1)) next))

falls_here : (xs : List ℕ) (i : ℕ) → i + 1 < length xs → get_or xs (i + 1) 0 ≤ get_or xs i 0 → RisesTo xs i → not_above 0 xs ≡ Some (i + 1)
falls_here xs i within less so_far =
    so_far ∙ ap (not_above i) (two_left xs i within) ∙ (rw (le-ltb (get_or xs i 0) (get_or xs (i + 1) 0) less) refl)

short : (i : ℕ) (xs : List ℕ) → length xs ≤ 1 → not_above i xs ≡ None
short i [] small = refl
short i (x ∷ []) small = refl
short i (x ∷ y ∷ xs) small = absurd (omega arith)

rises_to_end : (xs : List ℕ) (i : ℕ) → length xs ≤ i + 1 → RisesTo xs i → not_above 0 xs ≡ None
rises_to_end xs i over so_far = so_far ∙ short i (drop i xs) (omega (arith, length-drop i xs))

-- one neighbour more that rises
pub rising_more : (xs : List Form0Actor) (i : ℕ) (a b : Form0Actor) → 0 < i → i < length xs → a ≡ get_or xs (i - 1) a → b ≡ get_or xs i b → a.id < b.id
    → RisesTo (ids xs) (i - 1) → RisesTo (ids xs) (i + 1 - 1)
rising_more xs i a b above within at_a at_b rises so_far =
    let next : i - 1 + 1 ≡ i = omega arith in
    let last : i + 1 - 1 ≡ i - 1 + 1 = omega arith in
    let low = id_at xs (i - 1) a (omega arith) at_a in
    let high : get_or (ids xs) (i - 1 + 1) 0 ≡ b.id = ap (λ n. get_or (ids xs) n 0) next ∙ id_at xs i b within at_b in
    rw last (rises_on (ids xs) (i - 1) (omega (arith, length-map xs (λ (x : Form0Actor). x.id))) (omega arith) so_far)

-- two neighbours that do not rise
pub not_rising : (xs : List Form0Actor) (i : ℕ) (a b : Form0Actor) → 0 < i → i < length xs → a ≡ get_or xs (i - 1) a → b ≡ get_or xs i b → (a.id < b.id → ⊥)
    → RisesTo (ids xs) (i - 1) → not_above 0 (ids xs) ≡ Some i
not_rising xs i a b above within at_a at_b falls so_far =
    let next : i - 1 + 1 ≡ i = omega arith in
    let low = id_at xs (i - 1) a (omega arith) at_a in
    let high : get_or (ids xs) (i - 1 + 1) 0 ≡ b.id = ap (λ n. get_or (ids xs) n 0) next ∙ id_at xs i b within at_b in
    let less : b.id ≤ a.id = elim (cases_lt a.id b.id) [ inl rises ↦ absurd (falls rises) | inr so ↦ so ] in
    falls_here (ids xs) (i - 1) (omega (arith, length-map xs (λ (x : Form0Actor). x.id))) (omega arith) so_far ∙ ap Some next

pub rising_all : (xs : List Form0Actor) (i : ℕ) → 0 < i → length xs ≤ i → RisesTo (ids xs) (i - 1) → not_above 0 (ids xs) ≡ None
rising_all xs i above over so_far = rises_to_end (ids xs) (i - 1) (omega (arith, length-map xs (λ (x : Form0Actor). x.id))) so_far

-- a front that adds up to too much
pub too_much : (xs : List Form0Actor) (i before : ℕ) (a : Form0Actor) → i < length xs → a ≡ get_or xs i a
    → before ≡ sum (map (λ x. x.balance) (take i xs)) → GREATEST_AMOUNT < before + a.balance → GREATEST_AMOUNT < sum (map (λ x. x.balance) xs)
too_much xs i before a within at before_is above =
    let front = sum-map (λ (x : Form0Actor). x.balance) (take i xs) in
    let whole = sum-map (λ (x : Form0Actor). x.balance) xs in
    let more = sum_by_more_le (λ (x : Form0Actor). x.balance) xs i a within in
    let here : a.balance ≡ (get_or xs i a).balance = ap (λ x. x.balance) at in
    omega arith

-- IDs that rise, and those of which none is not above the one before it
rises_upto : (xs : List ℕ) → IsStrictlyIncreasing xs → (i : ℕ) → i < length xs → RisesTo xs i
rises_upto xs rises zero within = refl
rises_upto xs rises (suc i) within =
    let next : i + 1 ≡ suc i = omega arith in
    subst (RisesTo xs) next (rises_on xs i (omega arith) (rises i (omega arith)) (rises_upto xs rises i (omega arith)))

pub rises_always : (xs : List ℕ) → IsStrictlyIncreasing xs → not_above 0 xs ≡ None
rises_always [] rises = refl
rises_always (x ∷ xs) rises = rises_to_end (x ∷ xs) (length xs) (omega arith) (rises_upto (x ∷ xs) rises (length xs) (omega arith))

none_above : (at x y : ℕ) (xs : List ℕ) → not_above at (x ∷ y ∷ xs) ≡ None → (x < y) × (not_above (at + 1) (y ∷ xs) ≡ None)
none_above at x y xs none =
    elim (cases_Bool (ltb x y)) [
      | inl less ↦ (ltb-true x y less, rw less at none)
      | inr falls ↦ absurd (let wrong : Some (at + 1) ≡ None = (rw falls at none) in cc)
    ]

rises_from : (at : ℕ) (xs : List ℕ) → not_above at xs ≡ None → IsStrictlyIncreasing xs
rises_from at [] none k within = absurd (omega arith)
rises_from at (x ∷ []) none k within = absurd (omega arith)
rises_from at (x ∷ y ∷ xs) none zero within = (none_above at x y xs none).0
rises_from at (x ∷ y ∷ xs) none (suc k) within =
    let next : suc k + 1 ≡ suc (k + 1) = omega arith in
    rw next (rises_from (at + 1) (y ∷ xs) (none_above at x y xs none).1 k (omega arith))

pub rises_if_none : (xs : List ℕ) → not_above 0 xs ≡ None → IsStrictlyIncreasing xs
rises_if_none xs none = rises_from 0 xs none
