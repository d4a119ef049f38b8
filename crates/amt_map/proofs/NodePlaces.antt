-- What pairs under one node are, and their parts.
use Rattle.std.proofs.Common.{◌≡◌, ℕ, zero, suc, ◌+◌, ◌*◌, ◌/◌, ◌%◌, ◌^◌, ◌<◌, ◌≤◌, Bool, true, false, ◌&&◌, List, [], ◌∷◌, ◌++◌, drop, refl, sym, ap, subst, ◌∙◌, arith}
use Rattle.std.proofs.Math.Nat.{div-div-eq-div-mul, pow-suc}
use Rattle.std.proofs.lemmas.Nat.{pow_pos, le-div, div-add-mod', pow-add}
use Rattle.std.proofs.lemmas.List.Elements.{All-nil, All-cons, All-head, All-tail, All-drop}
use Rattle.std.specs.Prelude.{All, T}
use Rattle.std.specs.Cmp.{ranked}
use Rattle.std.specs.Ordering.{is_lt, nat_cmp}
use Rattle.std.specs.FinMap.Entries.{is_sorted, below_all}
use Rattle.std.specs.declared.cmp.Ordering.TheVariants.{Less}
use Rattle.amt_map.specs.OneNode.{IsOneNode}
use Rattle.amt_map.specs.Pairs.{digit_at}
use Rattle.amt_map.proofs.Spellings.{both_first, both_second, less_from}

-- ---- rising indexes

pub after : {X : Type 0} (x : ℕ) (es : List (ℕ × X)) → T (below_all nat_cmp x es) → All (λ p. x < p.0) es
after x [] h = All-nil (λ p. x < p.0)
after x (e ∷ es) h = All-cons (λ p. x < p.0) e es (ranked x e.0 Less (sym (less_from _ (both_first _ _ h)))) (after x es (both_second (is_lt (nat_cmp x e.0)) _ h))

pub sorted_behind : {X : Type 0} (xs ys : List (ℕ × X)) → T (is_sorted nat_cmp (xs ++ ys)) → T (is_sorted nat_cmp ys)
sorted_behind [] ys h = h
sorted_behind (x ∷ xs) ys h = sorted_behind xs ys (both_second (below_all nat_cmp x.0 (xs ++ ys)) _ h)

below_front : {X : Type 0} (k : ℕ) (xs ys : List (ℕ × X)) → T (below_all nat_cmp k (xs ++ ys)) → T (below_all nat_cmp k xs)
below_front k [] ys h = tt
below_front k (x ∷ xs) ys h = both (is_lt (nat_cmp k x.0)) (below_all nat_cmp k xs) (both_first _ _ h) (below_front k xs ys (both_second (is_lt (nat_cmp k x.0)) _ h)) where
  both : (a b : Bool) → T a → T b → T (a && b)
  both true b p q = q
  both false b p q = p

pub sorted_front : {X : Type 0} (xs ys : List (ℕ × X)) → T (is_sorted nat_cmp (xs ++ ys)) → T (is_sorted nat_cmp xs)
sorted_front [] ys h = tt
sorted_front (x ∷ xs) ys h =
    both (below_all nat_cmp x.0 xs) (is_sorted nat_cmp xs) (below_front x.0 xs ys (both_first _ _ h)) (sorted_front xs ys (both_second (below_all nat_cmp x.0 (xs ++ ys)) _ h)) where
      both : (a b : Bool) → T a → T b → T (a && b)
      both true b p q = q
      both false b p q = p

pub sorted_drop : {X : Type 0} (n : ℕ) (xs : List (ℕ × X)) → T (is_sorted nat_cmp xs) → T (is_sorted nat_cmp (drop n xs))
sorted_drop zero xs h = h
sorted_drop (suc n) [] h = h
sorted_drop (suc n) (x ∷ xs) h = sorted_drop n xs (both_second (below_all nat_cmp x.0 xs) _ h)

pub all_front : {A : Type 0} (P : A → Type 0) (xs ys : List A) → All P (xs ++ ys) → All P xs
all_front P [] ys all = All-nil P
all_front P (x ∷ xs) ys all = All-cons P x xs (All-head P x (xs ++ ys) all) (all_front P xs ys (All-tail P x (xs ++ ys) all))

pub all_behind : {A : Type 0} (P : A → Type 0) (xs ys : List A) → All P (xs ++ ys) → All P ys
all_behind P [] ys all = all
all_behind P (x ∷ xs) ys all = all_behind P xs ys (All-tail P x (xs ++ ys) all)

-- two facts of each
pub all_both : {A : Type 0} (P Q R : A → Type 0) → ((x : A) → P x → Q x → R x) → (xs : List A) → All P xs → All Q xs → All R xs
all_both P Q R step xs p q = λ k d within. step _ (p k d within) (q k d within)

-- ---- places and digits

pub pow-8 : (n : ℕ) → 8 ^ n ≡ 2 ^ (3 * n)
pow-8 zero = refl
pow-8 (suc n) =
    let more : 3 * suc n ≡ 3 * n + 3 = omega arith in
    pow-suc 8 n ∙ ap (λ (p : ℕ). p * 8) (pow-8 n) ∙ sym (pow-add 2 (3 * n) 3) ∙ ap (λ (k : ℕ). 2 ^ k) (sym more)

pub eight_pos : (n : ℕ) → 0 < 8 ^ n
eight_pos n = subst (λ (p : ℕ). 0 < p) (sym (pow-8 n)) (pow_pos (3 * n))

-- an index's place at a height is that at the height above and its digit
pub place_is : (height index : ℕ) → index / 8 ^ height ≡ index / 8 ^ suc height * 8 + digit_at height index
place_is height index =
    let above : index / 8 ^ suc height ≡ index / 8 ^ height / 8 = ap (λ (p : ℕ). index / p) (pow-suc 8 height) ∙ sym (div-div-eq-div-mul index (8 ^ height) 8) in
    omega (arith, above)

-- greater indexes under one node have no lower digits
pub digits_rise : (height place i j : ℕ) → i / 8 ^ suc height ≡ place → j / 8 ^ suc height ≡ place → i < j → digit_at height i ≤ digit_at height j
digits_rise height place i j at-i at-j less =
    let power : 0 < 8 ^ height = eight_pos height in
    let whole : i / 8 ^ height * 8 ^ height + i % 8 ^ height ≡ i = div-add-mod' i (8 ^ height) in
    let places : i / 8 ^ height ≤ j / 8 ^ height = le-div (i / 8 ^ height) j (8 ^ height) power (omega (arith, whole)) in
    omega (arith, place_is height i, place_is height j, places, at-i, at-j)

-- a pair and those behind it
pub under_node : {X : Type 0} (height place : ℕ) (xs ys : List (ℕ × X)) → IsOneNode height place (xs ++ ys) → IsOneNode height place ys
under_node height place xs ys one = record { within = all_behind (λ p. p.0 / 8 ^ suc height ≡ place) xs ys one.within; rising = sorted_behind xs ys one.rising }

-- pairs with one digit are under one node below
pub below_node : {X : Type 0} (height place digit : ℕ) (xs ys : List (ℕ × X)) → IsOneNode (suc height) place (xs ++ ys) → All (λ p. digit_at (suc height) p.0 ≡ digit) xs → IsOneNode height (place * 8 + digit) xs
below_node height place digit xs ys one has = record {
  within = all_both (λ p. p.0 / 8 ^ suc (suc height) ≡ place) (λ p. digit_at (suc height) p.0 ≡ digit) (λ p. p.0 / 8 ^ suc height ≡ place * 8 + digit)
      (λ p at is. omega (arith, place_is (suc height) p.0, at, is)) xs (all_front (λ p. p.0 / 8 ^ suc (suc height) ≡ place) xs ys one.within) has;
  rising = sorted_front xs ys one.rising;
}

pub drop_node : {X : Type 0} (height place n : ℕ) (xs : List (ℕ × X)) → IsOneNode height place xs → IsOneNode height place (drop n xs)
drop_node height place n xs one = record { within = All-drop (λ p. p.0 / 8 ^ suc height ≡ place) n xs one.within; rising = sorted_drop n xs one.rising }
