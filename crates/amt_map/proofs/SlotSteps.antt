-- What the slots of a node are while its groups are gone through, from the first to the last.
use Rattle.std.proofs.Common.{◌≡◌, ℕ, zero, suc, ◌+◌, ◌-◌, ◌*◌, ◌^◌, ◌<◌, ◌≤◌, List, [], ◌∷◌, ◌++◌, length, map, refl, sym, ap, ◌∙◌, append_assoc, append-nil, arith}
use Rattle.std.proofs.lemmas.Bool.{cond_below}
use Rattle.std.proofs.lemmas.List.Sums.{sum_by-cons}
use Rattle.std.specs.List.{flat_map}
use Rattle.dag_cbor.specs.Spelling.{head, joined}
use Rattle.amt_map.specs.Node.{bitmap, groups}
use Rattle.amt_map.specs.NodeText.{AreSlots, Spellings, blocks_under, links_of, node_text, text_at, values_of}
use Rattle.amt_map.specs.OneNode.{IsOneNode}
use Rattle.amt_map.proofs.NodePlaces.{under_node}
use Rattle.amt_map.proofs.Grouping.{few_groups, first_pair, no_groups, small_bits}

-- what stands for the groups so far, where some are left
pub record SlotsSoFar (S : ℕ × Spellings → List (List ℕ)) (whole left : List (ℕ × Spellings)) (bits count : ℕ) (items : List ℕ) : Type 0 where
  pub bits_so_far : bits + bitmap left ≡ bitmap whole
  pub count_so_far : count + length (flat_map S left) ≡ length (flat_map S whole)
  pub items_so_far : items ++ joined (flat_map S left) ≡ joined (flat_map S whole)

pub slots_begin : (S : ℕ × Spellings → List (List ℕ)) (whole left : List (ℕ × Spellings)) (bits count : ℕ) (items : List ℕ) → left ≡ whole → bits ≡ 0 → count ≡ 0 → items ≡ [] → SlotsSoFar S whole left bits count items
slots_begin S whole left bits count items same no_bits none nothing = record {
  bits_so_far = let is = ap (λ gs. bitmap gs) same in omega (arith, is, no_bits);
  count_so_far = let is = ap (λ gs. length (flat_map S gs)) same in omega (arith, is, none);
  items_so_far = λ i. nothing i ++ joined (flat_map S (same i));
}

-- the first of those that are left, which has one spelling
pub slots_more : (S : ℕ × Spellings → List (List ℕ)) (whole left rest : List (ℕ × Spellings)) (bits count : ℕ) (items : List ℕ) (bits' count' : ℕ) (items' : List ℕ) (g : ℕ × Spellings) (t : List ℕ)
    → SlotsSoFar S whole left bits count items → left ≡ g ∷ rest → S g ≡ t ∷ [] → bits' ≡ bits + 2 ^ g.0 → count' ≡ count + 1 → items' ≡ items ++ t → SlotsSoFar S whole rest bits' count' items'
slots_more S whole left rest bits count items bits' count' items' g t so_far is one bit more put = record {
  bits_so_far =
      let before = so_far.bits_so_far in
      let now : bitmap left ≡ 2 ^ g.0 + bitmap rest = ap (λ gs. bitmap gs) is ∙ sum_by-cons (λ (k : ℕ). k) (2 ^ g.0) (map (λ h. 2 ^ h.0) rest) in
      omega (arith, before, now, bit);
  count_so_far =
      let before = so_far.count_so_far in
      let now : length (flat_map S left) ≡ suc (length (flat_map S rest)) = ap (λ gs. length (flat_map S gs)) is ∙ ap (λ (ts : List (List ℕ)). length (ts ++ flat_map S rest)) one in
      omega (arith, before, now, more);
  items_so_far =
      ap (λ (xs : List ℕ). xs ++ joined (flat_map S rest)) put ∙ append_assoc items t (joined (flat_map S rest))
      ∙ ap (λ (xs : List ℕ). items ++ xs) (sym (ap (λ gs. joined (flat_map S gs)) is ∙ ap (λ (ts : List (List ℕ)). joined (ts ++ flat_map S rest)) one))
      ∙ so_far.items_so_far;
}

pub slots_end : (S : ℕ × Spellings → List (List ℕ)) (whole left : List (ℕ × Spellings)) (bits count : ℕ) (items : List ℕ) → SlotsSoFar S whole left bits count items → left ≡ [] → AreSlots S whole bits count items
slots_end S whole left bits count items so_far none = record {
  bits_are = let before = so_far.bits_so_far in let now : bitmap left ≡ 0 = ap (λ gs. bitmap gs) none in omega (arith, before, now);
  count_is = let before = so_far.count_so_far in let now : length (flat_map S left) ≡ 0 = ap (λ gs. length (flat_map S gs)) none in omega (arith, before, now);
  items_are = sym (append-nil items) ∙ ap (λ gs. items ++ joined (flat_map S gs)) (sym none) ∙ so_far.items_so_far;
}

-- there is room for one more bit and one more slot
pub bit_fits : (S : ℕ × Spellings → List (List ℕ)) (height : ℕ) (ss : Spellings) (left rest : List (ℕ × Spellings)) (bits count : ℕ) (items : List ℕ) (g : ℕ × Spellings)
    → SlotsSoFar S (groups height ss) left bits count items → left ≡ g ∷ rest → bits + 2 ^ g.0 < 2 ^ 8
bit_fits S height ss left rest bits count items g so_far is =
    let before = so_far.bits_so_far in
    let now : bitmap left ≡ 2 ^ g.0 + bitmap rest = ap (λ gs. bitmap gs) is ∙ sum_by-cons (λ (k : ℕ). k) (2 ^ g.0) (map (λ h. 2 ^ h.0) rest) in
    omega (arith, before, now, small_bits height ss)

pub slot_fits : (S : ℕ × Spellings → List (List ℕ)) (whole left rest : List (ℕ × Spellings)) (bits count : ℕ) (items : List ℕ) (g : ℕ × Spellings) (t : List ℕ)
    → SlotsSoFar S whole left bits count items → left ≡ g ∷ rest → S g ≡ t ∷ [] → length (flat_map S whole) ≤ 8 → count < 8
slot_fits S whole left rest bits count items g t so_far is one few =
    let before = so_far.count_so_far in
    let now : length (flat_map S left) ≡ suc (length (flat_map S rest)) = ap (λ gs. length (flat_map S gs)) is ∙ ap (λ (ts : List (List ℕ)). length (ts ++ flat_map S rest)) one in
    omega (arith, before, now, few)

-- there are no more links or values than digits
link_each : (height : ℕ) (gs : List (ℕ × Spellings)) → length (flat_map (links_of height) gs) ≡ length gs
link_each height [] = refl
link_each height (g ∷ gs) = ap suc (link_each height gs)

pub few_links : (below height : ℕ) (ss : Spellings) → length (flat_map (links_of below) (groups height ss)) ≤ 8
few_links below height ss = omega (arith, link_each below (groups height ss), few_groups height ss)

value_each : (place : ℕ) (ss : Spellings) → IsOneNode 0 place ss → length (flat_map values_of (groups 0 ss)) ≡ length (groups 0 ss)
value_each place [] one = ap (λ gs. length (flat_map values_of gs)) (no_groups 0) ∙ sym (ap (λ gs. length gs) (no_groups {X = List ℕ} 0))
value_each place (s ∷ ss) one =
    let is = first_pair place s ss one in
    ap (λ gs. length (flat_map values_of gs)) is ∙ ap suc (value_each place ss (under_node 0 place (s ∷ []) ss one)) ∙ sym (ap (λ gs. length gs) is)

pub few_values : (place : ℕ) (ss : Spellings) → IsOneNode 0 place ss → length (flat_map values_of (groups 0 ss)) ≤ 8
few_values place ss one = omega (arith, value_each place ss one, few_groups 0 ss)

-- ---- the bytes

small_head : (n : ℕ) → n ≤ 8 → head 4 n ≡ (0x80 + n) ∷ []
unfolding head
small_head n small = sym (cond_below n 24 ((32 * 4 + n) ∷ []) _ (omega (arith, small)))

pub leaf_bytes : (bits count : ℕ) (items : List ℕ) (values : List (List ℕ)) → count ≤ 8 → count ≡ length values → items ≡ joined values
    → (0x83 ∷ 0x41 ∷ bits ∷ 0x80 ∷ (0x80 + count) ∷ []) ++ items ≡ node_text bits [] values
unfolding head
leaf_bytes bits count items values small is all =
    let first : head 4 (length values) ≡ (0x80 + count) ∷ [] = ap (λ (n : ℕ). head 4 n) (sym is) ∙ small_head count small in
    λ i. 0x83 ∷ 0x41 ∷ bits ∷ 0x80 ∷ (sym first i ++ all i)

pub inner_bytes : (bits count : ℕ) (items : List ℕ) (links : List (List ℕ)) → count ≤ 8 → count ≡ length links → items ≡ joined links
    → ((0x83 ∷ 0x41 ∷ bits ∷ (0x80 + count) ∷ []) ++ items) ++ 0x80 ∷ [] ≡ node_text bits links []
unfolding head
inner_bytes bits count items links small is all =
    let first : head 4 (length links) ≡ (0x80 + count) ∷ [] = ap (λ (n : ℕ). head 4 n) (sym is) ∙ small_head count small in
    λ i. 0x83 ∷ 0x41 ∷ bits ∷ ((sym first i ++ all i) ++ 0x80 ∷ [])

-- ---- the texts

pub leaf_is : (ss : Spellings) (bits count : ℕ) (items : List ℕ) → AreSlots values_of (groups 0 ss) bits count items → node_text bits [] (flat_map values_of (groups 0 ss)) ≡ text_at 0 ss
unfolding text_at
leaf_is ss bits count items are = ap (λ (b : ℕ). node_text b [] (flat_map values_of (groups 0 ss))) are.bits_are

pub inner_is : (height : ℕ) (ss : Spellings) (bits count : ℕ) (items : List ℕ) → 0 < height → AreSlots (links_of (height - 1)) (groups (suc (height - 1)) ss) bits count items
    → node_text bits (flat_map (links_of (height - 1)) (groups (suc (height - 1)) ss)) [] ≡ text_at height ss
unfolding text_at
inner_is zero ss bits count items some are = absurd (omega arith)
inner_is (suc below) ss bits count items some are =
    let one : suc below - 1 ≡ below = omega arith in
    ap (λ (b : ℕ). node_text b (flat_map (links_of (suc below - 1)) (groups (suc (suc below - 1)) ss)) []) are.bits_are
    ∙ ap (λ (h : ℕ). node_text (bitmap (groups (suc h) ss)) (flat_map (links_of h) (groups (suc h) ss)) []) one

pub nothing_under : (height : ℕ) (ss : Spellings) → height ≡ 0 → blocks_under height ss ≡ []
unfolding blocks_under
nothing_under zero ss none = refl
nothing_under (suc height) ss none = absurd (omega arith)
