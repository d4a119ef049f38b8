-- The pairs under the pointers of a canonical node, one pointer after another.
use Rattle.std.proofs.Common.{◌≡◌, ◌≢◌, ℕ, zero, suc, ◌+◌, ◌-◌, ◌%◌, ◌^◌, ◌<◌, ◌≤◌, ◌⊎◌, inl, inr, Bool, true, false, cond, eqb, List, [], ◌∷◌, ◌++◌, length, map, get_or, set, Option, Some, None, refl, sym, ap, subst, ◌∙◌, append_assoc, append-nil, arith}
use Rattle.std.proofs.lemmas.Bool.{eqb-true, eqb-false, ne_eqb}
use Rattle.std.proofs.lemmas.Bool.Decides.{eqb_tells, nat_tests}
use Rattle.std.proofs.lemmas.List.{get_or-set_other, length-set, same_lists}
use Rattle.std.proofs.lemmas.List.Elements.{All-append, All-nil, filter-append}
use Rattle.std.proofs.lemmas.Grind.{get_or-set_at}
use Rattle.std.proofs.Math.Nat.{pow-le-pow_right}
use Rattle.std.specs.Prelude.{IfSome, nat_lt}
use Rattle.std.specs.List.{AllByRecursion, flat_map, range_with_len}
use Rattle.std.specs.FinMap.{entries}
use Rattle.cid_core.specs.BlockParts.{BlockParts, found}
use Rattle.dag_cbor.specs.declared.value.Value.{Value}
use Rattle.hamt_map.specs.Canonical.{map_of, with_place}
use Rattle.hamt_map.specs.Groups.{bits_from, by_place, is_group, nodes_of, nodes_under, pointer_to, pointers_of}
use Rattle.hamt_map.specs.Kept.{AreHeld}
use Rattle.hamt_map.specs.Pairs.{Pairs, at_place, place_on}
use Rattle.hamt_map.specs.WalkedPairs.{PointsTo, StandIn}
use Rattle.hamt_map.proofs.Grouping.{group_at}
use Rattle.hamt_map.proofs.Held.{entries-empty}
use Rattle.hamt_map.proofs.MapParts.{at_place_map}
use Rattle.hamt_map.proofs.NodeParts.{no_nodes, one_pointer, some_test}
use Rattle.hamt_map.proofs.ReadAgain.{same_test}

-- ---- groups of which one is filled

-- the groups from a place on are empty
abbrev pub EmptyFrom : ℕ → List Pairs → Type 0
EmptyFrom place groups = (k : ℕ) → place ≤ k → k < length groups → get_or groups k [] ≡ []

later : (x : Pairs) (xs : List Pairs) (place : ℕ) → EmptyFrom place (x ∷ xs) → (k : ℕ) → place ≤ suc k → k < length xs → get_or xs k [] ≡ []
later x xs place empty k from within = empty (suc k) from (omega arith)

all_empty : {A : Type 0} (f : Pairs → List A) → f [] ≡ [] → (groups : List Pairs) → EmptyFrom 0 groups → flat_map f groups ≡ []
all_empty f none [] empty = refl
all_empty f none (x ∷ xs) empty =
    let first : f x ≡ [] = ap f (empty 0 (omega arith) (omega arith)) ∙ none in
    ap (λ ys. ys ++ flat_map f xs) first ∙ all_empty f none xs (λ k from within. later x xs 0 empty k (omega arith) within)

pub flat_set : {A : Type 0} (f : Pairs → List A) → f [] ≡ [] → (groups : List Pairs) (place : ℕ) (g : Pairs) → place < length groups → EmptyFrom place groups → flat_map f (set groups place g) ≡ flat_map f groups ++ f g
flat_set f none [] place g within empty = absurd (omega arith)
flat_set f none (x ∷ xs) zero g within empty =
    let first : f x ≡ [] = ap f (empty 0 (omega arith) (omega arith)) ∙ none in
    let rest = all_empty f none xs (λ k from within. later x xs 0 empty k (omega arith) within) in
    ap (λ ys. f g ++ ys) rest ∙ append-nil (f g) ∙ sym (λ i. (first i ++ rest i) ++ f g)
flat_set f none (x ∷ xs) (suc place) g within empty =
    ap (λ ys. f x ++ ys) (flat_set f none xs place g (omega arith) (λ k from within. later x xs (suc place) empty k (omega arith) within)) ∙ sym (append_assoc (f x) (flat_map f xs) (f g))

bits_set : (a : ℕ) (groups : List Pairs) (place : ℕ) (g : Pairs) → place < length groups → is_group g ≡ true → EmptyFrom place groups → bits_from a (set groups place g) ≡ bits_from a groups + 2 ^ (a + place)
bits_set a [] place g within some empty = absurd (omega arith)
bits_set a (x ∷ xs) zero g within some empty =
    let first : cond (is_group x) (2 ^ a) 0 ≡ 0 = ap (λ (y : Pairs). cond (is_group y) (2 ^ a) 0) (empty 0 (omega arith) (omega arith)) in
    let here : cond (is_group g) (2 ^ a) 0 ≡ 2 ^ a = ap (λ b. cond b (2 ^ a) 0) some in
    let same : 2 ^ (a + 0) ≡ 2 ^ a = ap (λ (k : ℕ). 2 ^ k) (let e : a + 0 ≡ a = omega arith in e) in
    omega (arith, first, here, same)
bits_set a (x ∷ xs) (suc place) g within some empty =
    let rest = bits_set (a + 1) xs place g (omega arith) some (λ k from within. later x xs (suc place) empty k (omega arith) within) in
    let same : 2 ^ ((a + 1) + place) ≡ 2 ^ (a + suc place) = ap (λ (k : ℕ). 2 ^ k) (let e : (a + 1) + place ≡ a + suc place = omega arith in e) in
    omega (arith, rest, same)

-- ---- pairs at one place

abbrev pub AreAt : ℕ → ℕ → Pairs → Type 0
AreAt level place pairs = AllByRecursion (λ p. place_on level p.0 ≡ place) pairs

at_own : (level place : ℕ) (pairs : Pairs) → AreAt level place pairs → at_place level place pairs ≡ pairs
at_own level place [] there = refl
at_own level place (p ∷ pairs) there =
    let rest = at_own level place pairs there.1 in
    ap (λ b. cond b (p ∷ at_place level place pairs) (at_place level place pairs)) (ap (λ (n : ℕ). eqb n place) there.0 ∙ same_test place) ∙ ap (λ ps. p ∷ ps) rest

at_other : (level place k : ℕ) (pairs : Pairs) → (k ≡ place → ⊥) → AreAt level place pairs → at_place level k pairs ≡ []
at_other level place k [] apart there = refl
at_other level place k (p ∷ pairs) apart there =
    let rest = at_other level place k pairs apart there.1 in
    ap (λ b. cond b (p ∷ at_place level k pairs) (at_place level k pairs)) (ne_eqb (place_on level p.0) k (λ e. apart (sym e ∙ there.0))) ∙ rest

at_both : (level k : ℕ) (ps gs : Pairs) → at_place level k (ps ++ gs) ≡ at_place level k ps ++ at_place level k gs
at_both level k ps gs = filter-append (λ p. eqb (place_on level p.0) k) ps gs

-- the pairs of a group, behind pairs of which none is at their place
by_place_more : (level place : ℕ) (ps gs : Pairs) → place < 32 → at_place level place ps ≡ [] → AreAt level place gs
    → by_place level (entries (map_of (ps ++ gs))) ≡ set (by_place level (entries (map_of ps))) place (entries (map_of gs))
by_place_more level place ps gs small none there =
    same_lists (by_place level (entries (map_of (ps ++ gs)))) (set old place own) (sym (length-set old place own)) (λ k d within.
    group_at level k (entries (map_of (ps ++ gs))) d within ∙ at_place_map level k (ps ++ gs) ∙ ap (λ (es : Pairs). entries (map_of es)) (at_both level k ps gs) ∙ by k d within (eqb_tells k place)) where
      old : List Pairs
      old = by_place level (entries (map_of ps))

      own : Pairs
      own = entries (map_of gs)

      by : (k : ℕ) (d : Pairs) → k < 32 → ((eqb k place ≡ true) × (k ≡ place)) ⊎ ((eqb k place ≡ false) × (k ≢ place)) → entries (map_of (at_place level k ps ++ at_place level k gs)) ≡ get_or (set old place own) k d
      by k d within (inl here) =
          let front : at_place level k ps ≡ [] = ap (λ (j : ℕ). at_place level j ps) here.1 ∙ none in
          let back : at_place level k gs ≡ gs = ap (λ (j : ℕ). at_place level j gs) here.1 ∙ at_own level place gs there in
          (λ i. entries (map_of (front i ++ back i))) ∙ sym (get_or-set_at old place k own d here.1 small)
      by k d within (inr other) =
          let back : at_place level k gs ≡ [] = at_other level place k gs other.1 there in
          ap (λ (es : Pairs). entries (map_of es)) (ap (λ (es : Pairs). at_place level k ps ++ es) back ∙ append-nil (at_place level k ps)) ∙ sym (at_place_map level k ps)
          ∙ sym (group_at level k (entries (map_of ps)) d within) ∙ sym (get_or-set_other old place k own d other.1)

-- ---- how many pairs stand at all places

hits : ℕ → List ℕ → ℕ
hits p [] = 0
hits p (k ∷ ks) = cond (eqb p k) 1 0 + hits p ks

length_both : {A : Type 0} (xs ys : List A) → length (xs ++ ys) ≡ length xs + length ys
length_both [] ys = omega arith
length_both (x ∷ xs) ys = let rest = length_both xs ys in omega (arith, rest)

no_hits : (a n p : ℕ) → p < a → hits p (range_with_len a n) ≡ 0
unfolding hits
no_hits a zero p less = refl
no_hits a (suc n) p less =
    let rest = no_hits (a + 1) n p (omega arith) in
    let first : ◌≡◌ {A = ℕ} (cond (eqb p a) 1 0) 0 = ap (λ b. cond {A = ℕ} b 1 0) (ne_eqb p a (λ e. omega (arith, e))) in
    omega (arith, rest, first)

one_hit : (a n p : ℕ) → a ≤ p → p < a + n → hits p (range_with_len a n) ≡ 1
unfolding hits
one_hit a zero p low high = absurd (omega arith)
one_hit a (suc n) p low high = elim (eqb_tells p a) [
  | inl here ↦
      let first : ◌≡◌ {A = ℕ} (cond (eqb p a) 1 0) 1 = ap (λ b. cond {A = ℕ} b 1 0) here.0 in
      let rest = no_hits (a + 1) n p (let same = here.1 in omega (arith, same)) in
      omega (arith, first, rest)
  | inr other ↦
      let first : ◌≡◌ {A = ℕ} (cond (eqb p a) 1 0) 0 = ap (λ b. cond {A = ℕ} b 1 0) other.0 in
      let apart = other.1 in
      let rest = one_hit (a + 1) n p (omega (arith, apart)) (omega arith) in
      omega (arith, first, rest)
]

placed_one : (level : ℕ) (x : List ℕ × Value) (pairs : Pairs) (ks : List ℕ)
    → length (flat_map (λ g. g) (map (λ k. at_place level k (x ∷ pairs)) ks)) ≡ hits (place_on level x.0) ks + length (flat_map (λ g. g) (map (λ k. at_place level k pairs) ks))
unfolding hits
placed_one level x pairs [] = refl
placed_one level x pairs (k ∷ ks) =
    let rest = placed_one level x pairs ks in
    let more = length_both (at_place level k (x ∷ pairs)) (flat_map (λ g. g) (map (λ k. at_place level k (x ∷ pairs)) ks)) in
    let less = length_both (at_place level k pairs) (flat_map (λ g. g) (map (λ k. at_place level k pairs) ks)) in
    let here : length (at_place level k (x ∷ pairs)) ≡ cond (eqb (place_on level x.0) k) 1 0 + length (at_place level k pairs) =
    elim (eqb (place_on level x.0) k) as (λ b. length (cond b (x ∷ at_place level k pairs) (at_place level k pairs)) ≡ cond b 1 0 + length (at_place level k pairs)) [ true ↦ omega arith | false ↦ omega arith ] in
    omega (arith, rest, more, less, here)

pub place_below : (n : ℕ) → n % 32 < 32
place_below n = omega arith

placed_length : (level : ℕ) (pairs : Pairs) → length (flat_map (λ g. g) (by_place level pairs)) ≡ length pairs
placed_length level [] = refl
placed_length level (x ∷ pairs) =
    let one = one_hit 0 32 (place_on level x.0) (omega arith) (place_below _) in
    let rest = placed_length level pairs in
    let step = placed_one level x pairs (range_with_len 0 32) in
    omega (arith, one, rest, step)

-- ---- pointer after pointer

nothing_at : (below : ℕ) → pointers_of below [] ≡ []
unfolding pointers_of
nothing_at below = refl

none_stands : (below : ℕ) (es : Pairs) → es ≡ [] → (flat_map (pointers_of below) (by_place (51 - below) es) ≡ []) × (bits_from 0 (by_place (51 - below) es) ≡ 0)
unfolding pointers_of
none_stands below es none = subst (λ (es : Pairs). (flat_map (pointers_of below) (by_place (51 - below) es) ≡ []) × (bits_from 0 (by_place (51 - below) es) ≡ 0)) (sym none) (refl, refl)

nothing_under : (below : ℕ) → nodes_under below [] ≡ []
unfolding nodes_of nodes_under
nothing_under zero = refl
nothing_under (suc below) = refl

-- the nodes under one group more are those of the group
under_more : (below place : ℕ) (ps gs : Pairs) → place < 32 → at_place (51 - below) place ps ≡ [] → AreAt (51 - below) place gs → EmptyFrom place (by_place (51 - below) (entries (map_of ps)))
    → nodes_under below (entries (map_of (ps ++ gs))) ≡ nodes_under below (entries (map_of ps)) ++ nodes_of below (entries (map_of gs))
unfolding nodes_under
under_more below place ps gs small none there empty =
    ap (flat_map (nodes_of below)) (by_place_more (51 - below) place ps gs small none there)
    ∙ flat_set (nodes_of below) (no_nodes below [] refl) (by_place (51 - below) (entries (map_of ps))) place (entries (map_of gs)) small empty

pub stand_begin : (held : List BlockParts) (below : ℕ) → StandIn held below [] [] 0
stand_begin held below =
    let none = none_stands below (entries (map_of [])) entries-empty in
    record {
      same = none.0;
      field = none.1;
      behind = λ k small. refl;
      once = sym (ap length entries-empty);
      nodes = subst (AreHeld held) (sym (ap (nodes_under below) entries-empty ∙ nothing_under below)) (All-nil (λ b. found held b.cid ≡ Some b));
    }

stand_more : (held : List BlockParts) (below : ℕ) (ps gs : Pairs) (vs : List Value) (v : Value) (bits place : ℕ) → StandIn held below ps vs bits → PointsTo held below gs v place → bits < 2 ^ place
    → StandIn held below (ps ++ gs) (vs ++ v ∷ []) (bits + 2 ^ place)
stand_more held below ps gs vs v bits place stand points above =
    record {
      same = ap (flat_map (pointers_of below)) grown ∙ flat_set (pointers_of below) (nothing_at below) old place own points.small empty ∙ (λ i. stand.same i ++ pointer i);
      field = ap (bits_from 0) grown ∙ bits_set 0 old place own points.small (some_test (length own) some) empty ∙ (let e : 2 ^ (0 + place) ≡ 2 ^ place = ap (λ (k : ℕ). 2 ^ k) (let z : 0 + place ≡ place = omega arith in z) in let f = stand.field in omega (arith, e, f));
      behind = behind;
      once = once;
      nodes = subst (AreHeld held) (sym (under_more below place ps gs points.small (stand.behind place above) points.there empty))
          (All-append (λ b. found held b.cid ≡ Some b) (nodes_under below (entries (map_of ps))) (nodes_of below own) stand.nodes points.nodes);
    } where
      old : List Pairs
      old = by_place (51 - below) (entries (map_of ps))

      own : Pairs
      own = entries (map_of gs)

      higher : (k : ℕ) → place ≤ k → bits < 2 ^ k
      higher k from = let up : 2 ^ place ≤ 2 ^ k = pow-le-pow_right (omega arith) from in omega (arith, up, above)

      empty : EmptyFrom place old
      empty k from within =
          group_at (51 - below) k (entries (map_of ps)) [] within ∙ at_place_map (51 - below) k ps ∙ ap (λ (es : Pairs). entries (map_of es)) (stand.behind k (higher k from)) ∙ entries-empty

      grown : by_place (51 - below) (entries (map_of (ps ++ gs))) ≡ set old place own
      grown = by_place_more (51 - below) place ps gs points.small (stand.behind place above) points.there

      some : 0 < length own
      some = let s = points.some in let o = points.once in omega (arith, s, o)

      pointer : pointers_of below own ≡ v ∷ []
      pointer = one_pointer below own some ∙ ap (λ (w : Value). w ∷ []) points.same

      behind : (k : ℕ) → bits + 2 ^ place < 2 ^ k → at_place (51 - below) k (ps ++ gs) ≡ []
      behind k small =
          at_both (51 - below) k ps gs
          ∙ (λ i. stand.behind k (omega (arith, small)) i ++ at_other (51 - below) place k gs (λ e. let p : 2 ^ k ≡ 2 ^ place = ap (λ (j : ℕ). 2 ^ j) e in omega (arith, p, small)) points.there i)

      once : length (ps ++ gs) ≡ length (entries (map_of (ps ++ gs)))
      once =
          let all = placed_length (51 - below) (entries (map_of (ps ++ gs))) in
          let before = placed_length (51 - below) (entries (map_of ps)) in
          let now : length (flat_map (λ g. g) (by_place (51 - below) (entries (map_of (ps ++ gs))))) ≡ length (flat_map (λ g. g) old ++ own) = ap (λ (gs : List Pairs). length (flat_map (λ g. g) gs)) grown ∙ ap length (flat_set (λ g. g) refl old place own points.small empty) in
          let both = length_both (flat_map (λ g. g) old) own in
          let given = length_both ps gs in
          let one = stand.once in
          let two = points.once in
          omega (arith, all, before, now, both, given, one, two)

pub nat_lt_true : (a b : ℕ) → nat_lt a b ≡ true → a < b
nat_lt_true a b e = grind (arith, nat_tests)

-- one more pointer
pub stand_with : (held : List BlockParts) (below : ℕ) (ps gs : Pairs) (vs : List Value) (v : Value) (places place : Option ℕ) → IfSome places (StandIn held below ps vs) → IfSome place (PointsTo held below gs v)
    → IfSome (with_place places place) (StandIn held below (ps ++ gs) (vs ++ v ∷ []))
stand_with held below ps gs vs v None place stand points = tt
stand_with held below ps gs vs v (Some bits) None stand points = tt
stand_with held below ps gs vs v (Some bits) (Some place) stand points =
    elim (nat_lt bits (2 ^ place)) as (λ b. nat_lt bits (2 ^ place) ≡ b → IfSome (cond b (Some (bits + 2 ^ place)) None) (StandIn held below (ps ++ gs) (vs ++ v ∷ []))) [
      | true ↦ λ less. stand_more held below ps gs vs v bits place stand points (nat_lt_true bits (2 ^ place) less)
      | false ↦ λ more. tt
    ] refl
