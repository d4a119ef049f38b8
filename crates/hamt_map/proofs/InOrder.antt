-- Pairs in the order of their hashes: those at a place are a run of neighbours.
use Rattle.std.proofs.Common.{◌≡◌, ◌≢◌, ℕ, zero, suc, ◌+◌, ◌-◌, ◌*◌, ◌/◌, ◌%◌, ◌^◌, ◌<◌, ◌≤◌, cond, eqb, List, [], ◌∷◌, ◌++◌, take, drop, All, refl, sym, ap, subst, ◌∙◌, arith}
use Rattle.std.proofs.lemmas.Bool.{ne_eqb, eq-eqb}
use Rattle.std.proofs.lemmas.List.{append-nil, drop-drop, take-append-drop}
use Rattle.std.proofs.lemmas.List.Elements.{All-append, All-cons, All-head, All-nil, All-tail, filter-append}
use Rattle.std.proofs.lemmas.Nat.{field_of, mod-pow-add, pow_pos}
use Rattle.std.proofs.Math.Nat.{div-mul-le_self, le-div_iff_mul-le, mod-mod, mul-add-mod_self_right}
use Rattle.std.specs.List.{AllByRecursion}
use Rattle.dag_cbor.specs.declared.value.Value.{Value}
use Rattle.hamt_map.specs.HashOrder.{AreInOrder, low_bits, place_of}
use Rattle.hamt_map.specs.Pairs.{Pairs, at_place, hash_number, place_on}
use Rattle.hamt_map.proofs.Merging.{all_back}

-- ---- bits

div_rises : (k a b : ℕ) → a ≤ b → a / 2 ^ k ≤ b / 2 ^ k
div_rises k a b le =
    let whole : a / 2 ^ k * 2 ^ k ≤ a = div-mul-le_self a (2 ^ k) in
    (le-div_iff_mul-le {k = 2 ^ k} {x = a / 2 ^ k} {y = b} (pow_pos k)).1 (omega (arith, whole, le))

-- five bits rise with a number
climb : (k n m : ℕ) → n % 2 ^ (5 + k) ≤ m % 2 ^ (5 + k) → n / 2 ^ k % 32 ≤ m / 2 ^ k % 32
climb k n m le =
    let rise : n % 2 ^ (5 + k) / 2 ^ k ≤ m % 2 ^ (5 + k) / 2 ^ k = div_rises k (n % 2 ^ (5 + k)) (m % 2 ^ (5 + k)) le in
    let first : n % 2 ^ (5 + k) / 2 ^ k ≡ n / 2 ^ k % 32 = field_of n 5 k in
    let second : m % 2 ^ (5 + k) / 2 ^ k ≡ m / 2 ^ k % 32 = field_of m 5 k in
    subst (λ (a : ℕ). a ≤ m / 2 ^ k % 32) first (subst (λ (b : ℕ). n % 2 ^ (5 + k) / 2 ^ k ≤ b) second rise)

-- and where they are the same, the bits behind them do
behind_same : (k n m : ℕ) → n / 2 ^ k % 32 ≡ m / 2 ^ k % 32 → n % 2 ^ (5 + k) ≤ m % 2 ^ (5 + k) → n % 2 ^ k ≤ m % 2 ^ k
behind_same k n m same le =
    let first : n % 2 ^ (5 + k) ≡ (n / 2 ^ k % 32) * 2 ^ k + n % 2 ^ k = mod-pow-add n 5 k in
    let second : m % 2 ^ (5 + k) ≡ (m / 2 ^ k % 32) * 2 ^ k + m % 2 ^ k = mod-pow-add m 5 k in
    let front : (n / 2 ^ k % 32) * 2 ^ k ≡ (m / 2 ^ k % 32) * 2 ^ k = ap (λ (d : ℕ). d * 2 ^ k) same in
    omega (arith, first, second, front, le)

shift_at : (below : ℕ) → below ≤ 50 → 256 - 5 * (51 - below) ≡ 5 * below + 1
shift_at below le = omega arith

place_at : (below n : ℕ) → below ≤ 50 → place_of (51 - below) n ≡ n / 2 ^ (5 * below + 1) % 32
place_at below n le = ap (λ (k : ℕ). n / 2 ^ k % 32) (shift_at below le)

wide : (below : ℕ) → 5 * below + 6 ≡ 5 + (5 * below + 1)
wide below = omega arith

places_climb : (below n m : ℕ) → below ≤ 50 → n % 2 ^ (5 * below + 6) ≤ m % 2 ^ (5 * below + 6) → place_of (51 - below) n ≤ place_of (51 - below) m
places_climb below n m small le =
    let up = climb (5 * below + 1) n m (subst (λ (w : ℕ). n % 2 ^ w ≤ m % 2 ^ w) (wide below) le) in
    subst (λ (a : ℕ). a ≤ place_of (51 - below) m) (sym (place_at below n small)) (subst (λ (b : ℕ). n / 2 ^ (5 * below + 1) % 32 ≤ b) (sym (place_at below m small)) up)

rest_rises : (below n m : ℕ) → suc below ≤ 50 → place_of (51 - suc below) n ≡ place_of (51 - suc below) m → n % 2 ^ (5 * suc below + 6) ≤ m % 2 ^ (5 * suc below + 6) → n % 2 ^ (5 * below + 6) ≤ m % 2 ^ (5 * below + 6)
rest_rises below n m small same le =
    let next : 5 * suc below + 1 ≡ 5 * below + 6 = omega arith in
    let at : n / 2 ^ (5 * suc below + 1) % 32 ≡ m / 2 ^ (5 * suc below + 1) % 32 = sym (place_at (suc below) n small) ∙ same ∙ place_at (suc below) m small in
    subst (λ (w : ℕ). n % 2 ^ w ≤ m % 2 ^ w) next (behind_same (5 * suc below + 1) n m at (subst (λ (w : ℕ). n % 2 ^ w ≤ m % 2 ^ w) (wide (suc below)) le))

-- ---- pairs in order

abbrev place_at_level : ℕ → List ℕ × Value → ℕ
place_at_level below p = place_on (51 - below) p.0

-- the first pair is not behind the others
first_least : (below : ℕ) (p : List ℕ × Value) (ps : Pairs) → below ≤ 50 → AreInOrder below (p ∷ ps) → All (λ q. place_at_level below p ≤ place_at_level below q) ps
first_least below p ps small order = go ps order.0 where
  go : (qs : Pairs) → AllByRecursion (λ q. (p.0 ≢ q.0) × (low_bits below p.0 ≤ low_bits below q.0)) qs → All (λ q. place_at_level below p ≤ place_at_level below q) qs
  go [] all = All-nil (λ q. place_at_level below p ≤ place_at_level below q)
  go (q ∷ qs) all = All-cons (λ q. place_at_level below p ≤ place_at_level below q) q qs (places_climb below (hash_number p.0) (hash_number q.0) small all.0.1) (go qs all.1)

pub order_back : (below : ℕ) (front back : Pairs) → AreInOrder below (front ++ back) → AreInOrder below back
order_back below [] back order = order
order_back below (p ∷ front) back order = order_back below front back order.1

pub order_front : (below : ℕ) (front back : Pairs) → AreInOrder below (front ++ back) → AreInOrder below front
order_front below [] back order = tt
order_front below (p ∷ front) back order = (before front order.0, order_front below front back order.1) where
  before : (qs : Pairs) → AllByRecursion (λ q. (p.0 ≢ q.0) × (low_bits below p.0 ≤ low_bits below q.0)) (qs ++ back) → AllByRecursion (λ q. (p.0 ≢ q.0) × (low_bits below p.0 ≤ low_bits below q.0)) qs
  before [] all = tt
  before (q ∷ qs) all = (all.0, before qs all.1)

-- pairs at one place are in order on the level below
pub order_below : (below k : ℕ) (ps : Pairs) → suc below ≤ 50 → AreInOrder (suc below) ps → All (λ p. place_on (51 - suc below) p.0 ≡ k) ps → AreInOrder below ps
order_below below k [] small order at = tt
order_below below k (p ∷ ps) small order at = (go ps order.0 (All-tail (λ q. place_on (51 - suc below) q.0 ≡ k) p ps at), order_below below k ps small order.1 (All-tail (λ q. place_on (51 - suc below) q.0 ≡ k) p ps at)) where
  go : (qs : Pairs) → AllByRecursion (λ q. (p.0 ≢ q.0) × (low_bits (suc below) p.0 ≤ low_bits (suc below) q.0)) qs → All (λ q. place_on (51 - suc below) q.0 ≡ k) qs → AllByRecursion (λ q. (p.0 ≢ q.0) × (low_bits below p.0 ≤ low_bits below q.0)) qs
  go [] all at = tt
  go (q ∷ qs) all ats = (
    (all.0.0, rest_rises below (hash_number p.0) (hash_number q.0) small (All-head (λ q. place_on (51 - suc below) q.0 ≡ k) p ps at ∙ sym (All-head (λ q. place_on (51 - suc below) q.0 ≡ k) q qs ats)) all.0.1),
    go qs all.1 (All-tail (λ q. place_on (51 - suc below) q.0 ≡ k) q qs ats),
  )

-- ---- the pairs at a place

none_at : (level k : ℕ) (ps : Pairs) → All (λ p. place_on level p.0 ≢ k) ps → at_place level k ps ≡ []
none_at level k [] all = refl
none_at level k (p ∷ ps) all =
    ap (λ b. cond b (p ∷ at_place level k ps) (at_place level k ps)) (ne_eqb (place_on level p.0) k (All-head (λ p. place_on level p.0 ≢ k) p ps all)) ∙ none_at level k ps (All-tail (λ p. place_on level p.0 ≢ k) p ps all)

all_at : (level k : ℕ) (ps : Pairs) → All (λ p. place_on level p.0 ≡ k) ps → at_place level k ps ≡ ps
all_at level k [] all = refl
all_at level k (p ∷ ps) all =
    ap (λ b. cond b (p ∷ at_place level k ps) (at_place level k ps)) (eq-eqb (place_on level p.0) k (All-head (λ p. place_on level p.0 ≡ k) p ps all)) ∙ ap (λ (qs : Pairs). p ∷ qs) (all_at level k ps (All-tail (λ p. place_on level p.0 ≡ k) p ps all))

weaken : {X : Type 0} (P Q : X → Type 0) → ((x : X) → P x → Q x) → (xs : List X) → All P xs → All Q xs
weaken P Q f xs all = λ k d within. f _ (all k d within)

take_more : {X : Type 0} (a b : ℕ) (xs : List X) → take (a + b) xs ≡ take a xs ++ take b (drop a xs)
take_more a b xs = take_both a b xs where
  take_nil : {X : Type 0} (c : ℕ) → take {A = X} c [] ≡ []
  take_nil zero = refl
  take_nil (suc c) = refl

  take_both : {X : Type 0} (a b : ℕ) (xs : List X) → take (a + b) xs ≡ take a xs ++ take b (drop a xs)
  take_both {X} zero b xs = let same : 0 + b ≡ b = omega arith in ap (λ (c : ℕ). take c xs) same
  take_both {X} (suc a) b [] = take_nil (suc a + b) ∙ sym (take_nil b)
  take_both {X} (suc a) b (x ∷ xs) = let next : suc a + b ≡ suc (a + b) = omega arith in ap (λ (c : ℕ). take c (x ∷ xs)) next ∙ ap (λ (ys : List X). x ∷ ys) (take_both a b xs)

-- the places below one were taken from the front of a node's pairs
pub record Swept (below k done : ℕ) (ps : Pairs) : Type 0 where
  pub before : All (λ p. place_on (51 - below) p.0 < k) (take done ps)
  pub left : All (λ p. k ≤ place_on (51 - below) p.0) (drop done ps)

pub swept_begin : (below : ℕ) (ps : Pairs) → Swept below 0 0 ps
swept_begin below ps = record { before = All-nil (λ p. place_on (51 - below) p.0 < 0); left = λ k d within. omega arith }

-- what is behind a run is behind its place
past : (below k : ℕ) (ps : Pairs) → below ≤ 50 → AreInOrder below ps → All (λ p. k ≤ place_on (51 - below) p.0) ps → All (λ p. place_on (51 - below) p.0 ≢ k) (take 1 ps) → All (λ p. k < place_on (51 - below) p.0) ps
past below k [] small order low apart = All-nil (λ p. k < place_on (51 - below) p.0)
past below k (p ∷ ps) small order low apart =
    let least : k ≤ place_on (51 - below) p.0 = All-head (λ p. k ≤ place_on (51 - below) p.0) p ps low in
    let other : place_on (51 - below) p.0 ≢ k = All-head (λ p. place_on (51 - below) p.0 ≢ k) p [] apart in
    let here : k < place_on (51 - below) p.0 = omega (arith, least, other) in
    All-cons (λ p. k < place_on (51 - below) p.0) p ps here
    (weaken (λ q. place_on (51 - below) p.0 ≤ place_on (51 - below) q.0) (λ q. k < place_on (51 - below) q.0) (λ q le. omega (arith, le, here)) ps (first_least below p ps small order))

-- the pairs at the next place
pub record Run (below k done n : ℕ) (ps : Pairs) : Type 0 where
  pub is : at_place (51 - below) k ps ≡ take n (drop done ps)
  pub swept : Swept below (k + 1) (done + n) ps

pub next_run : (below k done n : ℕ) (ps : Pairs) → below ≤ 50 → AreInOrder below ps → Swept below k done ps → All (λ p. place_on (51 - below) p.0 ≡ k) (take n (drop done ps))
    → All (λ p. place_on (51 - below) p.0 ≢ k) (take 1 (drop n (drop done ps))) → Run below k done n ps
next_run below k done n ps small order swept at apart = record { is = is; swept = record { before = before; left = left } } where
  order_rest : AreInOrder below (drop done ps)
  order_rest = order_back below (take done ps) (drop done ps) (subst (AreInOrder below) (sym (take-append-drop done ps)) order)

  later : All (λ p. k < place_on (51 - below) p.0) (drop n (drop done ps))
  later = past below k (drop n (drop done ps)) small (order_back below (take n (drop done ps)) (drop n (drop done ps)) (subst (AreInOrder below) (sym (take-append-drop n (drop done ps))) order_rest))
      (all_back (λ p. k ≤ place_on (51 - below) p.0) (take n (drop done ps)) (drop n (drop done ps)) (subst (All (λ p. k ≤ place_on (51 - below) p.0)) (sym (take-append-drop n (drop done ps))) swept.left)) apart

  is : at_place (51 - below) k ps ≡ take n (drop done ps)
  is =
      ap (at_place (51 - below) k) (sym (take-append-drop done ps)) ∙ filter-append (λ p. eqb (place_on (51 - below) p.0) k) (take done ps) (drop done ps)
      ∙ ap (λ (xs : Pairs). xs ++ at_place (51 - below) k (drop done ps)) (none_at (51 - below) k (take done ps) (weaken (λ p. place_on (51 - below) p.0 < k) (λ p. place_on (51 - below) p.0 ≢ k) (λ p lt e. omega (arith, lt, e)) (take done ps) swept.before))
      ∙ ap (at_place (51 - below) k) (sym (take-append-drop n (drop done ps))) ∙ filter-append (λ p. eqb (place_on (51 - below) p.0) k) (take n (drop done ps)) (drop n (drop done ps))
      ∙ (λ i. all_at (51 - below) k (take n (drop done ps)) at i ++ none_at (51 - below) k (drop n (drop done ps)) (weaken (λ p. k < place_on (51 - below) p.0) (λ p. place_on (51 - below) p.0 ≢ k) (λ p lt e. omega (arith, lt, e)) (drop n (drop done ps)) later) i)
      ∙ append-nil (take n (drop done ps))

  before : All (λ p. place_on (51 - below) p.0 < k + 1) (take (done + n) ps)
  before = subst (All (λ p. place_on (51 - below) p.0 < k + 1)) (sym (take_more done n ps))
      (All-append (λ p. place_on (51 - below) p.0 < k + 1) (take done ps) (take n (drop done ps))
      (weaken (λ p. place_on (51 - below) p.0 < k) (λ p. place_on (51 - below) p.0 < k + 1) (λ p lt. omega (arith, lt)) (take done ps) swept.before)
      (weaken (λ p. place_on (51 - below) p.0 ≡ k) (λ p. place_on (51 - below) p.0 < k + 1) (λ p e. omega (arith, e)) (take n (drop done ps)) at))

  left : All (λ p. k + 1 ≤ place_on (51 - below) p.0) (drop (done + n) ps)
  left = subst (All (λ p. k + 1 ≤ place_on (51 - below) p.0)) (drop-drop n done ps) (weaken (λ p. k < place_on (51 - below) p.0) (λ p. k + 1 ≤ place_on (51 - below) p.0) (λ p lt. omega (arith, lt)) (drop n (drop done ps)) later)

-- ---- bits that were kept

mod_kept : (i n : ℕ) → n % 2 ^ (i + 5) % 32 ≡ n % 32
mod_kept i n = ap (λ (k : ℕ). k % 32) (mod-pow-add n i 5) ∙ mul-add-mod_self_right (n / 2 ^ 5 % 2 ^ i) 32 (n % 32) ∙ mod-mod n 32

-- the bits that count from a level on have the places of the levels below
pub place_kept : (below start n : ℕ) → below ≤ start → start ≤ 50 → place_of (51 - below) (n % 2 ^ (5 * start + 6)) ≡ place_of (51 - below) n
place_kept below start n from small =
    let width : 5 * start + 6 ≡ (5 * (start - below) + 5) + (5 * below + 1) = omega arith in
    let field : n % 2 ^ (5 * start + 6) / 2 ^ (5 * below + 1) ≡ n / 2 ^ (5 * below + 1) % 2 ^ (5 * (start - below) + 5) =
    ap (λ (k : ℕ). n % 2 ^ k / 2 ^ (5 * below + 1)) width ∙ field_of n (5 * (start - below) + 5) (5 * below + 1) in
    place_at below (n % 2 ^ (5 * start + 6)) (omega arith) ∙ ap (λ (k : ℕ). k % 32) field ∙ mod_kept (5 * (start - below)) (n / 2 ^ (5 * below + 1)) ∙ sym (place_at below n (omega arith))
