-- Bits in groups of another width.
use Rattle.std.proofs.Common.{suc, take, ◌≡◌, ℕ, ◌+◌, ◌-◌, ◌*◌, ◌/◌, ◌%◌, ◌^◌, ◌<◌, ◌≤◌, List, [], ◌∷◌, ◌++◌, length, get_or, refl, sym, ap, subst, ◌∙◌, lit<, arith}
use Rattle.std.specs.Int.Digits.{number_from_digits}
use Rattle.std.proofs.lemmas.Int.Digits.{number_more}
use Rattle.std.proofs.lemmas.List.{length_push}
use Rattle.std.proofs.lemmas.Nat.{field_of, mod_below, mod_low, mod-pow-add, one_shl, pow_pos, shl_whole, shr_below, shr_high, shr-shr, mul-add-lt, pow-add}
use Rattle.std.proofs.Math.Nat.{pow-le-pow_right}
use Rattle.fil_base.specs.Base32.{digits_in}
use Rattle.fil_base.specs.Regroup.{Regroups}

pub digits_in-more : (base places n : ℕ) → digits_in base (places + 1) n ≡ digits_in base places (n / base) ++ (n % base ∷ [])
unfolding digits_in
digits_in-more base places n = let next : places + 1 ≡ suc places = omega arith in ap (λ p. digits_in base p n) next

pub regroup_none : (width : ℕ) (groups : List ℕ) → groups ≡ [] → Regroups 0 0 width groups 0 0
unfolding digits_in
regroup_none width groups none = record {
  all = omega (arith, ap (λ g. width * length g) none);
  left = refl;
  cut = none ∙ ap (λ g. digits_in (2 ^ width) (length g) 0) (sym none);
}

-- an item comes behind
pub regroup_item : (n total width : ℕ) (groups : List ℕ) (bits count from item : ℕ) → Regroups n total width groups bits count → item < 2 ^ from → Regroups (n * 2 ^ from + item) (total + from) width groups (bits * 2 ^ from + item) (count + from)
regroup_item n total width groups bits count from item so_far fits =
    let high : (n * 2 ^ from + item) / 2 ^ from ≡ n = shr_high n from item fits in
    let low : (n * 2 ^ from + item) % 2 ^ from ≡ item = mod_low n from item fits in
    let order : from + count ≡ count + from = omega arith in
    record {
      all = omega (arith, so_far.all);
      left = (λ i. so_far.left i * 2 ^ from + item) ∙ ((λ i. (sym high i % 2 ^ count) * 2 ^ from + sym low i) ∙ sym (mod-pow-add (n * 2 ^ from + item) count from));
      cut = so_far.cut ∙ ap (λ m. digits_in (2 ^ width) (length groups) m) (ap (λ m. m / 2 ^ count) (sym high) ∙ (shr-shr (n * 2 ^ from + item) from count ∙ ap (λ k. (n * 2 ^ from + item) / 2 ^ k) order));
    }

-- a group is filled
give_at : (n total width : ℕ) (groups : List ℕ) (bits count rest : ℕ) → count ≡ width + rest → Regroups n total width groups bits count → Regroups n total width (groups ++ (bits / 2 ^ rest ∷ [])) (bits % 2 ^ rest) rest
give_at n total width groups bits count rest sum so_far =
    let bits_are : bits ≡ n % 2 ^ (width + rest) = so_far.left ∙ ap (λ k. n % 2 ^ k) sum in
    let size : length (groups ++ (bits / 2 ^ rest ∷ [])) ≡ length groups + 1 = length_push groups (bits / 2 ^ rest) in
    let group : bits / 2 ^ rest ≡ n / 2 ^ rest % 2 ^ width = ap (λ b. b / 2 ^ rest) bits_are ∙ field_of n width rest in
    let low : n % 2 ^ rest < 2 ^ rest = mod_below n (2 ^ rest) (pow_pos rest) in
    let order : rest + width ≡ count = omega arith in
    let more : width * length (groups ++ (bits / 2 ^ rest ∷ [])) ≡ width * (length groups + 1) = ap (λ k. width * k) size in
    record {
      all = omega (arith, so_far.all, more);
      left = ap (λ b. b % 2 ^ rest) (bits_are ∙ mod-pow-add n width rest) ∙ mod_low (n / 2 ^ rest % 2 ^ width) rest (n % 2 ^ rest) low;
      cut = (λ i. so_far.cut i ++ (group i ∷ [])) ∙ (ap (λ m. digits_in (2 ^ width) (length groups) m ++ (n / 2 ^ rest % 2 ^ width ∷ [])) (sym (shr-shr n rest width ∙ ap (λ k. n / 2 ^ k) order)) ∙ (sym (digits_in-more (2 ^ width) (length groups) (n / 2 ^ rest)) ∙ ap (λ p. digits_in (2 ^ width) p (n / 2 ^ rest)) (sym size)));
    }

pub regroup_give : (n total width : ℕ) (groups : List ℕ) (bits count : ℕ) → width ≤ count → Regroups n total width groups bits count → Regroups n total width (groups ++ (bits / 2 ^ (count - width) ∷ [])) (bits % 2 ^ (count - width)) (count - width)
regroup_give n total width groups bits count enough so_far = give_at n total width groups bits count (count - width) (omega arith) so_far

-- the bits and those of an item fit
pub item_fits : (bits count from item : ℕ) → bits < 2 ^ count → item < 2 ^ from → bits * 2 ^ from + item < 2 ^ (count + from)
item_fits bits count from item fits small =
    omega (arith, mul-add-lt bits (2 ^ from) item (2 ^ count) fits small, pow-add 2 count from)

pub item_shifted : (bits count from : ℕ) → bits < 2 ^ count → count ≤ 8 → from ≤ 8 → bits * 2 ^ from % 4294967296 ≡ bits * 2 ^ from
item_shifted bits count from fits few small = shl_whole bits count from 32 fits (omega arith)

pub group_fits : (bits count width : ℕ) → bits < 2 ^ count → width ≤ count → width ≤ 8 → bits / 2 ^ (count - width) < 256
group_fits bits count width fits enough small =
    let sum : count ≡ width + (count - width) = omega arith in
    let power : 2 ^ width ≤ 2 ^ 8 = pow-le-pow_right (lit< tt) small in
    omega (arith, shr_below bits width (count - width) (subst (λ k. bits < 2 ^ k) sum fits), power)

pub more_fits : (bits count from item : ℕ) → bits < 2 ^ count → count ≤ 8 → from ≤ 8 → item < 2 ^ from → bits * 2 ^ from % 4294967296 + item < 2 ^ (count + from)
more_fits bits count from item fits few small below =
    omega (arith, item_shifted bits count from fits few small, item_fits bits count from item fits below)

-- the item at i comes behind those before it
pub regroup_next : (items : List ℕ) (i from width : ℕ) (groups : List ℕ) (bits count item : ℕ) → Regroups (number_from_digits (2 ^ from) (take i items)) (from * i) width groups bits count → i < length items → item ≡ get_or items i 0 → item < 2 ^ from → bits < 2 ^ count → count ≤ 8 → from ≤ 8 → Regroups (number_from_digits (2 ^ from) (take (i + 1) items)) (from * (i + 1)) width groups (bits * 2 ^ from % 4294967296 + item) (count + from)
regroup_next items i from width groups bits count item so_far within is below fits few small =
    let n = number_from_digits (2 ^ from) (take i items) in
    let number : n * 2 ^ from + item ≡ number_from_digits (2 ^ from) (take (i + 1) items) = ap (λ x. n * 2 ^ from + x) is ∙ sym (number_more (2 ^ from) items i within) in
    let total : from * i + from ≡ from * (i + 1) = omega arith in
    let moved : bits * 2 ^ from + item ≡ bits * 2 ^ from % 4294967296 + item = ap (λ x. x + item) (sym (item_shifted bits count from fits few small)) in
    subst (λ m. Regroups m (from * (i + 1)) width groups (bits * 2 ^ from % 4294967296 + item) (count + from)) number
    (subst (λ t. Regroups (n * 2 ^ from + item) t width groups (bits * 2 ^ from % 4294967296 + item) (count + from)) total
    (subst (λ b. Regroups (n * 2 ^ from + item) (from * i + from) width groups b (count + from)) moved
    (regroup_item n (from * i) width groups bits count from item so_far below)))

pub low_bits : (rest : ℕ) → rest ≤ 16 → 1 * 2 ^ rest % 4294967296 ≡ 2 ^ rest
low_bits rest few = one_shl rest 32 (omega arith)

pub rest_fits : (bits rest : ℕ) → rest ≤ 16 → bits % (1 * 2 ^ rest % 4294967296) < 2 ^ rest
rest_fits bits rest few = subst (λ d. bits % d < 2 ^ rest) (sym (low_bits rest few)) (mod_below bits (2 ^ rest) (pow_pos rest))

pub given : (n total width : ℕ) (groups more : List ℕ) (bits count : ℕ) → count ≤ 16 → width ≤ count → more ≡ groups ++ (bits / 2 ^ (count - width) ∷ []) → Regroups n total width groups bits count → Regroups n total width more (bits % (1 * 2 ^ (count - width) % 4294967296)) (count - width)
given n total width groups more bits count few enough is so_far =
    subst (λ g. Regroups n total width g (bits % (1 * 2 ^ (count - width) % 4294967296)) (count - width)) (sym is)
    (subst (λ d. Regroups n total width (groups ++ (bits / 2 ^ (count - width) ∷ [])) (bits % d) (count - width)) (sym (low_bits (count - width) (omega arith)))
    (regroup_give n total width groups bits count enough so_far))
