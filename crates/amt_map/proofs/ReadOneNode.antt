-- The pairs that are read under a node stand by rising index, in the node's place.
use Rattle.std.proofs.Common.{◌≡◌, ℕ, zero, suc, ◌+◌, ◌*◌, ◌/◌, ◌%◌, ◌^◌, ◌<◌, ◌≤◌, Bool, true, false, cond, ◌&&◌, List, [], ◌∷◌, ◌++◌, filter, length, map, zip, Option, Some, None, Result, Ok, Err, Ordering, eqb, T, All, refl, sym, ap, subst, ◌∙◌, arith}
use Rattle.std.proofs.Math.Nat.{div-div-eq-div-mul, mul-le-mul_right, mod-lt, pow-suc}
use Rattle.std.proofs.lemmas.Nat.{div-add-mod', div-mul-add}
use Rattle.std.proofs.lemmas.List.Elements.{All-nil, All-cons, All-head, All-tail, All-append, All-map, All-weaker}
use Rattle.std.specs.List.{list_all}
use Rattle.std.specs.Cmp.{ranked, nat_cmp_is}
use Rattle.std.specs.Ordering.{is_lt, nat_cmp}
use Rattle.std.specs.declared.cmp.Ordering.TheVariants.{Less}
use Rattle.std.specs.FinMap.Entries.{is_sorted, below_all}
use Rattle.fil_base.specs.CidParts.{CidParts}
use Rattle.cid_core.specs.BlockParts.{BlockParts}
use Rattle.dag_cbor.specs.declared.value.Value.{Value, out-Value}
use Rattle.tree_blocks.specs.Forms.{for_each, if_some}
use Rattle.dag_cbor.specs.Spelling.{spelled}
use Rattle.tree_blocks.specs.Judging.{if_ok, same_block}
use Rattle.tree_blocks.specs.declared.fault.TreeFault.{TreeFault}
use Rattle.tree_blocks.specs.declared.fault.TreeFault.TheVariants.{Form, NotCanonical}
use Rattle.tree_blocks.proofs.ForEach.{if_some_gives}
use Rattle.amt_map.specs.Depth.{is_within}
use Rattle.amt_map.specs.Node.{digits}
use Rattle.amt_map.specs.OneNode.{IsOneNode}
use Rattle.amt_map.specs.Node.{node_block}
use Rattle.amt_map.specs.Holds.{spellings}
use Rattle.amt_map.specs.Loading.{block_value, child_pairs}
use Rattle.amt_map.specs.Pairs.{Pairs}
use Rattle.amt_map.specs.Walk.{NodeParts, by_digit, gathered, inner_of, inner_pairs, judged, leaf_of, leaf_pairs, link_in, node_pairs, parts_in, set_digits}
use Rattle.amt_map.proofs.FirstIndex.{child_place}
use Rattle.amt_map.proofs.NodePlaces.{after, eight_pos}
use Rattle.amt_map.proofs.WalkSteps.{block_step}
use Rattle.amt_map.proofs.NodeForm.{all_zip, digits_small, is_set}
use Rattle.amt_map.proofs.Spellings.{both_first, both_second, less_from}

both : (a b : Bool) → T a → T b → T (a && b)
both true b p q = q
both false b p q = p

less : (x y : ℕ) → x < y → T (is_lt (nat_cmp x y))
less x y lt = subst (λ (o : Ordering). T (is_lt o)) (nat_cmp_is x y Less lt) tt

-- ---- what stands at some of rising numbers rises

module _ {X : Type 0} (test : ℕ → Bool) where
  below_kept : (k : ℕ) (ds : List ℕ) (xs : List X) → T (below_all nat_cmp k (map (λ d. (d, d)) ds)) → T (below_all nat_cmp k (zip (filter test ds) xs))
  below_kept k [] xs h = tt
  below_kept k (d ∷ ds) xs h = by (test d) xs (λ ys. below_kept k ds ys (both_second (is_lt (nat_cmp k d)) _ h)) where
    by : (t : Bool) (xs : List X) → ((ys : List X) → T (below_all nat_cmp k (zip (filter test ds) ys))) → T (below_all nat_cmp k (zip (cond t (d ∷ filter test ds) (filter test ds)) xs))
    by true [] rest = tt
    by true (x ∷ xs) rest = both (is_lt (nat_cmp k d)) (below_all nat_cmp k (zip (filter test ds) xs)) (both_first (is_lt (nat_cmp k d)) _ h) (rest xs)
    by false xs rest = rest xs

  sorted_kept : (ds : List ℕ) (xs : List X) → T (is_sorted nat_cmp (map (λ d. (d, d)) ds)) → T (is_sorted nat_cmp (zip (filter test ds) xs))
  sorted_kept [] xs h = tt
  sorted_kept (d ∷ ds) xs h = by (test d) xs (λ ys. sorted_kept ds ys (both_second (below_all nat_cmp d (map (λ e. (e, e)) ds)) _ h)) where
    by : (t : Bool) (xs : List X) → ((ys : List X) → T (is_sorted nat_cmp (zip (filter test ds) ys))) → T (is_sorted nat_cmp (zip (cond t (d ∷ filter test ds) (filter test ds)) xs))
    by true [] rest = tt
    by true (x ∷ xs) rest =
        both (below_all nat_cmp d (zip (filter test ds) xs)) (is_sorted nat_cmp (zip (filter test ds) xs)) (below_kept d ds xs (both_first (below_all nat_cmp d (map (λ e. (e, e)) ds)) _ h)) (rest xs)
    by false xs rest = rest xs

-- what stands at the digits of a bitmap
pub record AreSlots {X : Type 0} (slots : List (ℕ × X)) : Type 0 where
  pub rising : T (is_sorted nat_cmp slots)
  pub small : All (λ s. s.0 < 8) slots

all_true : {X : Type 0} (xs : List X) → All (λ x. Unit {0}) xs
all_true xs = λ k d within. tt

slots_of : {X : Type 0} (bits : ℕ) (xs : List X) (slots : List (ℕ × X)) → by_digit bits xs ≡ Some slots → AreSlots slots
slots_of {X} bits xs slots e = by (eqb (length xs) (length (set_digits bits))) e where
  there : AreSlots (zip (set_digits bits) xs)
  there = record {
    rising = sorted_kept (is_set bits) digits xs tt;
    small = All-weaker (λ s. (s.0 < 8) × Unit {0}) (λ s. s.0 < 8) (λ s h. h.0) (zip (set_digits bits) xs) (all_zip (λ d. d < 8) (λ x. Unit {0}) (set_digits bits) xs (digits_small bits) (all_true xs));
  }

  by : (b : Bool) → cond b (Some (zip (set_digits bits) xs)) None ≡ Some slots → AreSlots slots
  by true same = let is : zip (set_digits bits) xs ≡ slots = cc in subst (λ (s : List (ℕ × X)). AreSlots s) is there
  by false same = cc

-- ---- a leaf

pub leaf_slots : (node : NodeParts) (leaf : List (ℕ × Value)) → leaf_of node ≡ Some leaf → AreSlots leaf
leaf_slots node leaf e = by (eqb (length node.links) 0 && list_all (is_within 125) node.values) e where
  by : (b : Bool) → cond b (by_digit node.bits node.values) None ≡ Some leaf → AreSlots leaf
  by true same = slots_of node.bits node.values leaf same
  by false same = cc

shifted_below : (from k : ℕ) (leaf : List (ℕ × Value)) → T (below_all nat_cmp k leaf) → T (below_all nat_cmp (from + k) (map (λ v. (from + v.0, v.1)) leaf))
shifted_below from k [] h = tt
shifted_below from k (v ∷ leaf) h = both (is_lt (nat_cmp (from + k) (from + v.0))) (below_all nat_cmp (from + k) (map (λ w. (from + w.0, w.1)) leaf)) (less (from + k) (from + v.0) (omega (arith, ranked k v.0 Less (sym (less_from _ (both_first (is_lt (nat_cmp k v.0)) _ h)))))) (shifted_below from k leaf (both_second (is_lt (nat_cmp k v.0)) _ h))

shifted_sorted : (from : ℕ) (leaf : List (ℕ × Value)) → T (is_sorted nat_cmp leaf) → T (is_sorted nat_cmp (map (λ v. (from + v.0, v.1)) leaf))
shifted_sorted from [] h = tt
shifted_sorted from (v ∷ leaf) h =
    both (below_all nat_cmp (from + v.0) (map (λ w. (from + w.0, w.1)) leaf)) (is_sorted nat_cmp (map (λ w. (from + w.0, w.1)) leaf)) (shifted_below from v.0 leaf (both_first (below_all nat_cmp v.0 leaf) _ h))
    (shifted_sorted from leaf (both_second (below_all nat_cmp v.0 leaf) _ h))

-- ---- pairs in a row

-- all of the first are below a number that none of the others is below
below_both : {X : Type 0} (k : ℕ) (xs ys : List (ℕ × X)) → T (below_all nat_cmp k xs) → All (λ y. k < y.0) ys → T (below_all nat_cmp k (xs ++ ys))
below_both k [] ys h all = begin k ys all where
  begin : {X : Type 0} (k : ℕ) (ys : List (ℕ × X)) → All (λ y. k < y.0) ys → T (below_all nat_cmp k ys)
  begin k [] all = tt
  begin k (y ∷ ys) all = both (is_lt (nat_cmp k y.0)) (below_all nat_cmp k ys) (less k y.0 (All-head (λ z. k < z.0) y ys all)) (begin k ys (All-tail (λ z. k < z.0) y ys all))
below_both k (x ∷ xs) ys h all =
    both (is_lt (nat_cmp k x.0)) (below_all nat_cmp k (xs ++ ys)) (both_first (is_lt (nat_cmp k x.0)) _ h) (below_both k xs ys (both_second (is_lt (nat_cmp k x.0)) _ h) all)

sorted_both : {X : Type 0} (bound : ℕ) (xs ys : List (ℕ × X)) → T (is_sorted nat_cmp xs) → T (is_sorted nat_cmp ys) → All (λ x. x.0 < bound) xs → All (λ y. bound ≤ y.0) ys → T (is_sorted nat_cmp (xs ++ ys))
sorted_both bound [] ys rise others low high = others
sorted_both bound (x ∷ xs) ys rise others low high =
    let here : x.0 < bound = All-head (λ z. z.0 < bound) x xs low in
    both (below_all nat_cmp x.0 (xs ++ ys)) (is_sorted nat_cmp (xs ++ ys))
    (below_both x.0 xs ys (both_first (below_all nat_cmp x.0 xs) _ rise) (All-weaker (λ y. bound ≤ y.0) (λ y. x.0 < y.0) (λ y le. omega (arith, here, le)) ys high))
    (sorted_both bound xs ys (both_second (below_all nat_cmp x.0 xs) _ rise) others (All-tail (λ z. z.0 < bound) x xs low) high)

-- ---- the pairs under children

-- what is said of the pairs under links whose digits are at least a number
pub record AreUnder (height place least : ℕ) (pairs : Pairs) : Type 0 where
  pub rising : T (is_sorted nat_cmp pairs)
  pub within : All (λ p. (place * 8 + least ≤ p.0 / 8 ^ suc height) × (p.0 / 8 ^ suc height < place * 8 + 8)) pairs

below_next : (index place size : ℕ) → 0 < size → index / size ≡ place → index < (place + 1) * size
below_next index place size some is =
    let whole : index / size * size + index % size ≡ index = div-add-mod' index size in
    let left : index % size < size = mod-lt index some in
    let split : (place + 1) * size ≡ place * size + size = omega arith in
    let same : index / size * size ≡ place * size = ap (λ (p : ℕ). p * size) is in
    omega (arith, whole, left, split, same)

not_below : (index place size : ℕ) → place ≤ index / size → place * size ≤ index
not_below index place size le =
    let whole : index / size * size + index % size ≡ index = div-add-mod' index size in
    let more : place * size ≤ index / size * size = mul-le-mul_right size le in
    omega (arith, whole, more)

pub join_under : (height place digit least : ℕ) (pairs rest : Pairs) → digit < 8 → least ≤ digit → IsOneNode height (place * 8 + digit) pairs → AreUnder height place (digit + 1) rest → AreUnder height place least (pairs ++ rest)
join_under height place digit least pairs rest small above one others = record {
  rising = sorted_both ((place * 8 + digit + 1) * 8 ^ suc height) pairs rest one.rising others.rising
      (All-weaker (λ p. p.0 / 8 ^ suc height ≡ place * 8 + digit) (λ p. p.0 < (place * 8 + digit + 1) * 8 ^ suc height) (λ p is. below_next p.0 (place * 8 + digit) (8 ^ suc height) (eight_pos (suc height)) is) pairs one.within)
      (All-weaker (λ p. (place * 8 + (digit + 1) ≤ p.0 / 8 ^ suc height) × (p.0 / 8 ^ suc height < place * 8 + 8)) (λ p. (place * 8 + digit + 1) * 8 ^ suc height ≤ p.0)
      (λ p h. not_below p.0 (place * 8 + digit + 1) (8 ^ suc height) (omega (arith, h.0))) rest others.within);
  within = All-append (λ p. (place * 8 + least ≤ p.0 / 8 ^ suc height) × (p.0 / 8 ^ suc height < place * 8 + 8)) pairs rest
      (All-weaker (λ p. p.0 / 8 ^ suc height ≡ place * 8 + digit) (λ p. (place * 8 + least ≤ p.0 / 8 ^ suc height) × (p.0 / 8 ^ suc height < place * 8 + 8)) (λ p is. (omega (arith, is, above), omega (arith, is, small))) pairs one.within)
      (All-weaker (λ p. (place * 8 + (digit + 1) ≤ p.0 / 8 ^ suc height) × (p.0 / 8 ^ suc height < place * 8 + 8)) (λ p. (place * 8 + least ≤ p.0 / 8 ^ suc height) × (p.0 / 8 ^ suc height < place * 8 + 8))
      (λ p h. (omega (arith, h.0, above), h.1)) rest others.within);
}

pub ok_gives : {A B : Type 0} (r : Result A TreeFault) (f : A → Result B TreeFault) (y : B) → if_ok r f ≡ Ok y → (x : A) × (r ≡ Ok x) × (f x ≡ Ok y)
ok_gives (Ok x) f y e = (x, refl, e)
ok_gives (Err fault) f y e = cc

module _ (height place from : ℕ) (child : ℕ → CidParts → Result Pairs TreeFault)
    (one : (digit : ℕ) (cid : CidParts) (pairs : Pairs) → digit < 8 → child (from + digit * 8 ^ suc height) cid ≡ Ok pairs → IsOneNode height (place * 8 + digit) pairs) where
  pub all_under : (least : ℕ) (links : List (ℕ × CidParts)) (pairs : Pairs) → T (is_sorted nat_cmp links) → All (λ l. (l.0 < 8) × (least ≤ l.0)) links → gathered child (8 ^ suc height) from links ≡ Ok pairs → AreUnder height place least pairs
  all_under least [] pairs rise digits e =
      let nothing : [] ≡ pairs = cc in
      subst (AreUnder height place least) nothing (record { rising = tt; within = All-nil (λ p. (place * 8 + least ≤ p.0 / 8 ^ suc height) × (p.0 / 8 ^ suc height < place * 8 + 8)) })
  all_under least (link ∷ links) pairs rise digits e =
      let here : (link.0 < 8) × (least ≤ link.0) = All-head (λ l. (l.0 < 8) × (least ≤ l.0)) link links digits in
      let first = ok_gives (child (from + link.0 * 8 ^ suc height) link.1) (λ ps. if_ok (gathered child (8 ^ suc height) from links) (λ rest. Ok (ps ++ rest))) pairs e in
      let others = ok_gives (gathered child (8 ^ suc height) from links) (λ rest. Ok (first.0 ++ rest)) pairs first.2 in
      let whole : first.0 ++ others.0 ≡ pairs = cc in
      let behind : All (λ l. link.0 < l.0) links = after link.0 links (both_first (below_all nat_cmp link.0 links) _ rise) in
      let small : All (λ l. (l.0 < 8) × (least ≤ l.0)) links = All-tail (λ l. (l.0 < 8) × (least ≤ l.0)) link links digits in
      let next : All (λ l. (l.0 < 8) × (link.0 + 1 ≤ l.0)) links = λ k d within. ((small k d within).0, omega (arith, behind k d within)) in
      subst (AreUnder height place least) whole
      (join_under height place link.0 least first.0 others.0 here.0 here.1 (one link.0 link.1 first.0 here.0 first.1) (all_under (link.0 + 1) links others.0 (both_second (below_all nat_cmp link.0 links) _ rise) next others.1))

-- ---- nodes

pub inner_slots : (node : NodeParts) (links : List (ℕ × CidParts)) → inner_of node ≡ Some links → AreSlots links
inner_slots node links e = by (eqb (length node.values) 0) e where
  by : (b : Bool) → cond b (if_some (for_each (λ link. link_in (out-Value link)) node.links) (by_digit node.bits)) None ≡ Some links → AreSlots links
  by true same = let cids = if_some_gives (for_each (λ link. link_in (out-Value link)) node.links) (by_digit node.bits) links same in slots_of node.bits cids.0 links cids.2
  by false same = cc

pub one_leaf : (place : ℕ) (leaf : List (ℕ × Value)) → AreSlots leaf → IsOneNode 0 place (map (λ v. (place * 8 + v.0, v.1)) leaf)
one_leaf place leaf slots = record {
  within = All-map (λ p. p.0 / 8 ≡ place) (λ v. (place * 8 + v.0, v.1)) leaf (All-weaker (λ v. v.0 < 8) (λ v. (place * 8 + v.0) / 8 ≡ place) (λ v lt. div-mul-add place 8 v.0 lt) leaf slots.small);
  rising = shifted_sorted (place * 8) leaf slots.rising;
}

pub one_above : (height place : ℕ) (pairs : Pairs) → AreUnder height place 0 pairs → IsOneNode (suc height) place pairs
one_above height place pairs under = record {
  within = All-weaker (λ p. (place * 8 + 0 ≤ p.0 / 8 ^ suc height) × (p.0 / 8 ^ suc height < place * 8 + 8)) (λ p. p.0 / 8 ^ suc (suc height) ≡ place)
      (λ p h.
      let above : p.0 / 8 ^ suc (suc height) ≡ p.0 / 8 ^ suc height / 8 = ap (λ (n : ℕ). p.0 / n) (pow-suc 8 (suc height)) ∙ sym (div-div-eq-div-mul p.0 (8 ^ suc height) 8) in
      omega (arith, above, h.0, h.1)) pairs under.within;
  rising = under.rising;
}

pub leaf_gives : (cid : CidParts) (from : ℕ) (leaf : Option (List (ℕ × Value))) (pairs : Pairs) → leaf_pairs cid from leaf ≡ Ok pairs → (values : List (ℕ × Value)) × (leaf ≡ Some values) × (map (λ v. (from + v.0, v.1)) values ≡ pairs)
leaf_gives cid from None pairs e = cc
leaf_gives cid from (Some values) pairs e = let same : map (λ v. (from + v.0, v.1)) values ≡ pairs = cc in (values, refl, same)

pub inner_gives : (child : ℕ → CidParts → Result Pairs TreeFault) (apart : ℕ) (cid : CidParts) (from : ℕ) (links : Option (List (ℕ × CidParts))) (pairs : Pairs) → inner_pairs child apart cid from links ≡ Ok pairs
    → (those : List (ℕ × CidParts)) × (links ≡ Some those) × (gathered child apart from those ≡ Ok pairs)
inner_gives child apart cid from None pairs e = cc
inner_gives child apart cid from (Some those) pairs e = (those, refl, e)

pub judged_gives : (height : ℕ) (b : BlockParts) (pairs those : Pairs) → judged height b pairs ≡ Ok those → pairs ≡ those
judged_gives height b pairs those e = by (same_block (node_block height pairs) b) e where
  by : (t : Bool) → cond t (Ok pairs) (Err (NotCanonical b.cid (node_block height pairs).cid)) ≡ Ok those → pairs ≡ those
  by true same = cc
  by false same = cc

-- a child that gives pairs has a node that gives them
pub child_gives : (blocks : List BlockParts) (height from : ℕ) (cid : CidParts) (pairs : Pairs) → child_pairs blocks height from cid ≡ Ok pairs → (value : Value) × (node_pairs blocks height cid from value ≡ Ok pairs)
child_gives blocks height from cid pairs e =
    let block = ok_gives (block_value blocks cid) (λ p. if_ok (node_pairs blocks height cid from p.1) (judged height p.0)) pairs (sym (block_step blocks cid (λ b value. if_ok (node_pairs blocks height cid from value) (judged height b))) ∙ e) in
    let node = ok_gives (node_pairs blocks height cid from block.0.1) (judged height block.0.0) pairs block.2 in
    (block.0.1, node.1 ∙ ap Ok (judged_gives height block.0.0 node.0 pairs node.2))

pub read_one_node : (blocks : List BlockParts) (height : ℕ) (cid : CidParts) (place from : ℕ) (value : Value) (pairs : Pairs) → from ≡ place * 8 ^ suc height → node_pairs blocks height cid from value ≡ Ok pairs → IsOneNode height place pairs
unfolding node_pairs
read_one_node blocks zero cid place from value pairs is e =
    let leaf = leaf_gives cid from (if_some (parts_in value) leaf_of) pairs e in
    let node = if_some_gives (parts_in value) leaf_of leaf.0 leaf.1 in
    let same : from ≡ place * 8 = is in
    subst (IsOneNode 0 place) (ap (λ (f : ℕ). map (λ v. (f + v.0, v.1)) leaf.0) (sym same) ∙ leaf.2) (one_leaf place leaf.0 (leaf_slots node.0 leaf.0 node.2))
read_one_node blocks (suc height) cid place from value pairs is e =
    let links = inner_gives (child_pairs blocks height) (8 ^ suc height) cid from (if_some (parts_in value) inner_of) pairs e in
    let node = if_some_gives (parts_in value) inner_of links.0 links.1 in
    let slots = inner_slots node.0 links.0 node.2 in
    one_above height place pairs (all_under height place from (child_pairs blocks height)
    (λ digit child ps lt gives.
    let there = child_gives blocks height (from + digit * 8 ^ suc height) child ps gives in
    read_one_node blocks height child (place * 8 + digit) (from + digit * 8 ^ suc height) there.0 ps (child_place height place from digit is) there.1)
    0 links.0 pairs slots.rising (All-weaker (λ l. l.0 < 8) (λ l. (l.0 < 8) × (0 ≤ l.0)) (λ l lt. (lt, omega arith)) links.0 slots.small) links.2)

-- ---- the same of spellings

spelled_below : (k : ℕ) (pairs : Pairs) → T (below_all nat_cmp k pairs) → T (below_all nat_cmp k (spellings pairs))
spelled_below k [] h = tt
spelled_below k (p ∷ pairs) h = both (is_lt (nat_cmp k p.0)) (below_all nat_cmp k (spellings pairs)) (both_first (is_lt (nat_cmp k p.0)) _ h) (spelled_below k pairs (both_second (is_lt (nat_cmp k p.0)) _ h))

spelled_sorted : (pairs : Pairs) → T (is_sorted nat_cmp pairs) → T (is_sorted nat_cmp (spellings pairs))
spelled_sorted [] h = tt
spelled_sorted (p ∷ pairs) h =
    both (below_all nat_cmp p.0 (spellings pairs)) (is_sorted nat_cmp (spellings pairs)) (spelled_below p.0 pairs (both_first (below_all nat_cmp p.0 pairs) _ h)) (spelled_sorted pairs (both_second (below_all nat_cmp p.0 pairs) _ h))

pub one_node_spelled : (height place : ℕ) (pairs : Pairs) → IsOneNode height place pairs → IsOneNode height place (spellings pairs)
one_node_spelled height place pairs one = record { within = All-map (λ p. p.0 / 8 ^ suc height ≡ place) (λ p. (p.0, spelled p.1)) pairs one.within; rising = spelled_sorted pairs one.rising }
