-- Awards that a state has room for.
use Rattle.std.proofs.Common.{◌≡◌, ◌⊎◌, ℕ, suc, ◌+◌, ◌-◌, ◌<◌, ◌≤◌, Bool, true, false, ◌&&◌, leb, List, [], ◌∷◌, ◌++◌, length, get_or, take, drop, Some, inl, inr, refl, sym, ap, subst, ◌∙◌, max, arith}
use Rattle.std.specs.Prelude.{All}
use Rattle.std.specs.List.{Any}
use Rattle.std.proofs.lemmas.Bool.{cases_lt}
use Rattle.std.proofs.lemmas.Bool.Decides.{nat_tests}
use Rattle.std.proofs.lemmas.List.{drop-take, take-append-drop, take-take, take_all}
use Rattle.std.proofs.lemmas.List.Elements.{All-more, All-same}
use Rattle.std.proofs.lemmas.List.Folds.{list_all-append, list_all_at}
use Rattle.std.proofs.lemmas.List.Sums.{list_all-from_AllPass}
use Rattle.fil_base.specs.declared.token.TheConstants.{GREATEST_AMOUNT}
use Rattle.cid_core.specs.BlockParts.{BlockParts}
use Rattle.fil_message.specs.Tipsets.{awards}
use Rattle.fil_message.specs.declared.tipset.Tipset.{Tipset}
use Rattle.state_tree.specs.Actors.{balances}
use Rattle.state_tree.specs.Stands.{Stands}
use Rattle.state_tree.specs.declared.state_tree.StateTree.{StateTree}
use Rattle.state_model.specs.State.{State, has_room_for}
use Rattle.scenario_form.specs.Room.{IsFirstOver, all_fit}

-- ---- the greatest awards

-- a sum is 0, or that of one of the tipsets
abbrev pub IsReached : ℕ → List Tipset → Type 0
IsReached greatest tipsets = (greatest ≡ 0) ⊎ Any (λ t. greatest ≤ awards t) tipsets

pub reached_more : (tipsets : List Tipset) (i greatest own more : ℕ) (t : Tipset) → i < length tipsets → t ≡ get_or tipsets i t → own ≡ awards t → more ≡ max greatest own → IsReached greatest tipsets → IsReached more tipsets
reached_more tipsets i greatest own more t within at is most reached =
    elim (cases_lt greatest own) [
      | inl below ↦ inr (i, t, within, sym at, omega arith)
      | inr above ↦ (let same : greatest ≡ more = omega arith in subst (λ (n : ℕ). IsReached n tipsets) same reached)
    ]

pub above_more : (tipsets : List Tipset) (i greatest own more : ℕ) (t : Tipset) → i < length tipsets → t ≡ get_or tipsets i t → own ≡ awards t → more ≡ max greatest own → All (λ u. awards u ≤ greatest) (take i tipsets)
    → All (λ u. awards u ≤ more) (take (i + 1) tipsets)
above_more tipsets i greatest own more t within at is most above =
    let below : All (λ u. awards u ≤ more) (take i tipsets) = λ k d inside. omega (arith, above k d inside, most) in
    let here : awards (get_or tipsets i t) ≤ more = omega (arith, ap awards at, is, most) in
    All-more (λ u. awards u ≤ more) tipsets i t within below here

pub above_all : (tipsets : List Tipset) (i greatest : ℕ) → length tipsets ≤ i → All (λ u. awards u ≤ greatest) (take i tipsets) → All (λ u. awards u ≤ greatest) tipsets
above_all tipsets i greatest over above = All-same (λ u. awards u ≤ greatest) tipsets (take i tipsets) (sym (take_all i tipsets over)) above

pub any_reached : (tipsets : List Tipset) (greatest : ℕ) → 0 < length tipsets → IsReached greatest tipsets → Any (λ t. greatest ≤ awards t) tipsets
any_reached [] greatest some reached = absurd (omega arith)
any_reached (t ∷ tipsets) greatest some (inl none) = (0, t, omega arith, refl, omega arith)
any_reached (t ∷ tipsets) greatest some (inr any) = any

-- where there is room for the greatest awards there is room for each
fits_each : (s : State) (tipsets : List Tipset) (greatest : ℕ) → All (λ t. awards t ≤ greatest) tipsets → Any (λ t. greatest ≤ awards t) tipsets → (fits : Bool) → leb (balances s.actors + greatest) GREATEST_AMOUNT ≡ fits → fits ≡ all_fit s tipsets
fits_each s tipsets greatest above reached true test =
    let room : balances s.actors + greatest ≤ GREATEST_AMOUNT = grind (arith, nat_tests, test) in
    sym (list_all-from_AllPass (λ t. has_room_for (awards t) s) tipsets (λ k d within. has_room s _ (omega (arith, above k d within)))) where
      has_room : (s : State) (n : ℕ) → balances s.actors + n ≤ GREATEST_AMOUNT → has_room_for n s ≡ true
      has_room s n small = grind (arith, nat_tests)
fits_each s tipsets greatest above (k, t, within, at, most) false test =
    let full : GREATEST_AMOUNT < balances s.actors + greatest = grind (arith, nat_tests, test) in
    let own : has_room_for (awards t) s ≡ false = no_room s (awards t) (omega arith) in
    sym (list_all_at (λ u. has_room_for (awards u) s) tipsets k t within (ap (λ (u : Tipset). has_room_for (awards u) s) at ∙ own)) where
      no_room : (s : State) (n : ℕ) → GREATEST_AMOUNT < balances s.actors + n → has_room_for n s ≡ false
      no_room s n great = grind (arith, nat_tests)

pub fits_is : (s : State) (tipsets : List Tipset) (greatest : ℕ) → All (λ t. awards t ≤ greatest) tipsets → Any (λ t. greatest ≤ awards t) tipsets → (fits : Bool) → fits ≡ leb (balances s.actors + greatest) GREATEST_AMOUNT → fits ≡ all_fit s tipsets
fits_is s tipsets greatest above reached fits is = fits_each s tipsets greatest above reached fits (sym is)

-- ---- the first that is too much

-- there is room for those before the first place, and not for all before the second
pub record IsBetween (tree : StateTree) (blocks : List BlockParts) (tipsets : List Tipset) (low high : ℕ) : Type 0 where
  pub order : low < high
  pub within : high ≤ length tipsets
  pub fits : (s : State) → Stands tree blocks s.actors s.info → all_fit s (take low tipsets) ≡ true
  pub full : (s : State) → Stands tree blocks s.actors s.info → all_fit s (take high tipsets) ≡ false

take_two : (n m : ℕ) (tipsets : List Tipset) → take (n + m) tipsets ≡ take n tipsets ++ take m (drop n tipsets)
take_two n m tipsets =
    sym (take-append-drop n (take (n + m) tipsets)) ∙ (λ k. take-take n (n + m) tipsets (omega arith) k ++ drop-take n m tipsets k)

-- all before the middle one are those before the first and those from there on
fits_parts : (s : State) (tipsets slice : List Tipset) (low middle : ℕ) → low < middle → slice ≡ take (middle - low) (drop low tipsets) → all_fit s (take middle tipsets) ≡ (all_fit s (take low tipsets) && all_fit s slice)
fits_parts s tipsets slice low middle order is =
    let place : middle ≡ low + (middle - low) = omega arith in
    ap (λ (n : ℕ). all_fit s (take n tipsets)) place ∙ ap (all_fit s) (take_two low (middle - low) tipsets)
    ∙ list_all-append (λ t. has_room_for (awards t) s) (take low tipsets) (take (middle - low) (drop low tipsets)) ∙ ap (λ (ts : List Tipset). all_fit s (take low tipsets) && all_fit s ts) (sym is)

pub fits_more : (tree : StateTree) (blocks : List BlockParts) (tipsets slice : List Tipset) (low middle high : ℕ) → IsBetween tree blocks tipsets low high → low < middle → middle < high → slice ≡ take (middle - low) (drop low tipsets)
    → ((s : State) → Stands tree blocks s.actors s.info → true ≡ all_fit s slice) → IsBetween tree blocks tipsets middle high
fits_more tree blocks tipsets slice low middle high so_far above below is fits = record {
  order = below;
  within = so_far.within;
  fits = λ s stands. fits_parts s tipsets slice low middle above is ∙ both s (so_far.fits s stands) (fits s stands);
  full = so_far.full;
} where
  both : (s : State) → all_fit s (take low tipsets) ≡ true → true ≡ all_fit s slice → (all_fit s (take low tipsets) && all_fit s slice) ≡ true
  both s one other = rw (one, sym other) refl

pub full_less : (tree : StateTree) (blocks : List BlockParts) (tipsets slice : List Tipset) (low middle high : ℕ) → IsBetween tree blocks tipsets low high → low < middle → middle < high → slice ≡ take (middle - low) (drop low tipsets)
    → ((s : State) → Stands tree blocks s.actors s.info → false ≡ all_fit s slice) → IsBetween tree blocks tipsets low middle
full_less tree blocks tipsets slice low middle high so_far above below is full = record {
  order = above;
  within = omega (arith, so_far.within);
  fits = so_far.fits;
  full = λ s stands. fits_parts s tipsets slice low middle above is ∙ both s (so_far.fits s stands) (full s stands);
} where
  both : (s : State) → all_fit s (take low tipsets) ≡ true → false ≡ all_fit s slice → (all_fit s (take low tipsets) && all_fit s slice) ≡ false
  both s one other = rw (one, sym other) refl

-- in the beginning
pub all_between : (tree : StateTree) (blocks : List BlockParts) (tipsets : List Tipset) → 0 < length tipsets → ((s : State) → Stands tree blocks s.actors s.info → false ≡ all_fit s tipsets) → IsBetween tree blocks tipsets 0 (length tipsets)
all_between tree blocks tipsets some full = record {
  order = some;
  within = omega arith;
  fits = λ s stands. refl;
  full = λ s stands. ap (all_fit s) (take_all (length tipsets) tipsets (omega arith)) ∙ sym (full s stands);
}

-- in the end
pub between_last : (tree : StateTree) (blocks : List BlockParts) (tipsets : List Tipset) (low high : ℕ) (s : State) → IsBetween tree blocks tipsets low high → high - low ≤ 1 → Stands tree blocks s.actors s.info → IsFirstOver s tipsets (Some low)
between_last tree blocks tipsets low high s so_far near stands =
    let next : high ≡ suc low = omega (arith, so_far.order) in
    (omega (arith, so_far.order, so_far.within), so_far.fits s stands, ap (λ (n : ℕ). all_fit s (take n tipsets)) (sym next) ∙ so_far.full s stands)
