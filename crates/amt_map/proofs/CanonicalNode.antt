-- A node that was read is the one of the pairs under it, if all its children have pairs.
use Rattle.std.proofs.Common.{◌≡◌, ◌≢◌, ℕ, suc, ◌+◌, ◌*◌, ◌/◌, ◌%◌, ◌^◌, ◌<◌, ◌≤◌, ◌==◌, ◌&&◌, Bool, true, false, cond, List, [], ◌∷◌, ◌++◌, get_or, length, map, sum, Some, None, Result, Ok, T, All, refl, sym, ap, subst, ◌∙◌, arith}
use Rattle.std.proofs.lemmas.Bool.{eqb-true}
use Rattle.std.proofs.lemmas.List.{nil_from_length}
use Rattle.std.proofs.lemmas.List.Elements.{All-head, All-tail, All-take, All-weaker}
use Rattle.std.specs.List.{list_all}
use Rattle.std.specs.Ordering.{nat_cmp}
use Rattle.std.specs.FinMap.Entries.{is_sorted, below_all}
use Rattle.fil_base.specs.CidParts.{CidParts}
use Rattle.cid_core.specs.BlockParts.{BlockParts, block_of}
use Rattle.dag_cbor.specs.Spelling.{spelled}
use Rattle.dag_cbor.specs.declared.value.Value.{Value}
use Rattle.dag_cbor.specs.declared.value.Value.TheVariants as v
use Rattle.tree_blocks.specs.Forms.{for_each, if_some}
use Rattle.tree_blocks.specs.Judging.{if_ok}
use Rattle.tree_blocks.specs.declared.fault.TreeFault.{TreeFault}
use Rattle.tree_blocks.proofs.ForEach.{if_some_gives}
use Rattle.amt_map.specs.Depth.{is_within}
use Rattle.amt_map.specs.Loading.{HasPairs, child_pairs}
use Rattle.amt_map.specs.Node.{bitmap, groups, node, node_block, node_of}
use Rattle.amt_map.specs.OneNode.{IsOneNode}
use Rattle.amt_map.specs.Pairs.{Pairs, digit_at}
use Rattle.amt_map.specs.Walk.{NodeParts, by_digit, gathered, inner_of, inner_pairs, leaf_of, leaf_pairs, parts_in, set_digits}
use Rattle.amt_map.proofs.FirstIndex.{child_place}
use Rattle.amt_map.proofs.Grouping.{first_group, no_groups}
use Rattle.amt_map.proofs.NodeForm.{cid_of_link}
use Rattle.amt_map.proofs.NodeParts.{all_slots, bits_of, byte_again, byte_small, links_are, node_whole}
use Rattle.amt_map.proofs.NodePlaces.{after}
use Rattle.amt_map.proofs.PlainNode.{leaf_digits, leaf_values, values_of_groups}
use Rattle.amt_map.proofs.ReadChild.{child_named}
use Rattle.amt_map.proofs.ReadOneNode.{AreUnder, all_under, child_gives, inner_slots, join_under, leaf_gives, leaf_slots, ok_gives, one_above, one_leaf, read_one_node}
use Rattle.amt_map.proofs.Spellings.{both_first, both_second}
use Rattle.amt_map.proofs.Within.{first as first_true}

-- ---- bitmaps

same_bits : {G : Type 0} (gs : List (ℕ × G)) → map (λ g. 2 ^ g.0) gs ≡ map (λ d. 2 ^ d) (map (λ g. g.0) gs)
same_bits [] = refl
same_bits (g ∷ gs) = ap (λ t. 2 ^ g.0 ∷ t) (same_bits gs)

-- groups with the digits of a byte have it as their bitmap
bits_are : {G : Type 0} (bits : ℕ) (gs : List (ℕ × G)) → bits < 256 → map (λ g. g.0) gs ≡ set_digits bits → bitmap gs ≡ bits
bits_are bits gs small digits = ap sum (same_bits gs) ∙ ap bits_of digits ∙ byte_again bits small

-- ---- a leaf

seconds : (from : ℕ) (slots : List (ℕ × Value)) → map {A = ℕ × Value} (λ p. p.1) (map (λ v. (from + v.0, v.1)) slots) ≡ map (λ s. s.1) slots
seconds from [] = refl
seconds from (s ∷ slots) = ap (λ (t : List Value). s.1 ∷ t) (seconds from slots)

digits_again : (place : ℕ) (slots : List (ℕ × Value)) → All (λ s. s.0 < 8) slots → map {A = ℕ × Value} (λ p. digit_at 0 p.0) (map (λ v. (place * 8 + v.0, v.1)) slots) ≡ map (λ s. s.0) slots
digits_again place [] small = refl
digits_again place (s ∷ slots) small =
    let lt : s.0 < 8 = All-head (λ t. t.0 < 8) s slots small in
    let here : (place * 8 + s.0) / 1 % 8 ≡ s.0 = omega (arith, lt) in
    λ i. here i ∷ digits_again place slots (All-tail (λ t. t.0 < 8) s slots small) i

leaf_split : (parts : NodeParts) (slots : List (ℕ × Value)) → leaf_of parts ≡ Some slots → (parts.links ≡ []) × (by_digit parts.bits parts.values ≡ Some slots)
leaf_split parts slots e = by ((length parts.links == 0) && list_all (is_within 125) parts.values) refl e where
  by : (b : Bool) → ((length parts.links == 0) && list_all (is_within 125) parts.values) ≡ b → cond b (by_digit parts.bits parts.values) None ≡ Some slots → (parts.links ≡ []) × (by_digit parts.bits parts.values ≡ Some slots)
  by true passed same = (nil_from_length parts.links (eqb-true (length parts.links) 0 (first_true (length parts.links == 0) (list_all (is_within 125) parts.values) passed)), same)
  by false passed same = cc

pub leaf_is_node : (bytes : List ℕ) (x : Value) (cid : CidParts) (place from : ℕ) (pairs : Pairs) → from ≡ place * 8 → ((i : ℕ) → get_or bytes i 0 < 256) → bytes ≡ spelled x → leaf_pairs cid from (if_some (parts_in x) leaf_of) ≡ Ok pairs
    → x ≡ node 0 pairs
unfolding node
leaf_is_node bytes x cid place from pairs is fits spells e =
    let slots = leaf_gives cid from (if_some (parts_in x) leaf_of) pairs e in
    let parts = if_some_gives (parts_in x) leaf_of slots.0 slots.1 in
    let split = leaf_split parts.0 slots.0 parts.2 in
    let all = all_slots parts.0.bits parts.0.values slots.0 split.1 in
    let there = leaf_slots parts.0 slots.0 parts.2 in
    let same : map (λ v. (place * 8 + v.0, v.1)) slots.0 ≡ pairs = ap (λ (f : ℕ). map (λ v. (f + v.0, v.1)) slots.0) (sym is) ∙ slots.2 in
    let one : IsOneNode 0 place pairs = subst (IsOneNode 0 place) same (one_leaf place slots.0 there) in
    let values : values_of_groups (groups 0 pairs) ≡ parts.0.values = leaf_values place pairs one ∙ ap (λ (ps : Pairs). map (λ p. p.1) ps) (sym same) ∙ seconds (place * 8) slots.0 ∙ all.there in
    let digits : map (λ g. g.0) (groups 0 pairs) ≡ set_digits parts.0.bits = leaf_digits place pairs one ∙ ap (λ (ps : Pairs). map (λ p. digit_at 0 p.0) ps) (sym same) ∙ digits_again place slots.0 there.small ∙ all.digits in
    let whole : x ≡ node_of parts.0.bits parts.0.links parts.0.values = node_whole x parts.0 parts.1 in
    let small : parts.0.bits < 256 = byte_small bytes parts.0.bits parts.0.links parts.0.values fits (spells ∙ ap spelled whole) in
    let bits : bitmap (groups 0 pairs) ≡ parts.0.bits = bits_are parts.0.bits (groups 0 pairs) small digits in
    whole ∙ (λ i. node_of (sym bits i) (split.0 i) (sym values i))

-- ---- a node with children

-- the digits of groups, with the CIDs of their nodes
abbrev slots_of : ℕ → List (ℕ × Pairs) → List (ℕ × CidParts)
slots_of height gs = map (λ g. (g.0, (node_block height g.1).cid)) gs

ok_same : (x y : Pairs) → ◌≡◌ {A = Result Pairs TreeFault} (Ok x) (Ok y) → x ≡ y
ok_same x y same = cc

ok_is : (x y : Pairs) (r : Result Pairs TreeFault) → r ≡ Ok x → r ≡ Ok y → x ≡ y
ok_is x y r e f = ok_same x y (sym e ∙ f)

has_digit : (place digit n : ℕ) → digit < 8 → n ≡ place * 8 + digit → n % 8 ≡ digit
has_digit place digit n lt is = omega (arith, lt, is)

no_digit : (place digit n : ℕ) → place * 8 + (digit + 1) ≤ n → n < place * 8 + 8 → n % 8 ≢ digit
no_digit place digit n low high = λ same. omega (arith, low, high, same)

module _ (height place from : ℕ) (child : ℕ → CidParts → Result Pairs TreeFault)
    (one : (digit : ℕ) (cid : CidParts) (pairs : Pairs) → digit < 8 → child (from + digit * 8 ^ suc height) cid ≡ Ok pairs → IsOneNode height (place * 8 + digit) pairs)
    (named : (first : ℕ) (cid : CidParts) (pairs : Pairs) → child first cid ≡ Ok pairs → (node_block height pairs).cid ≡ cid) where
  abbrev Some_under : ℕ × CidParts → Type 0
  Some_under link = HasPairs (child (from + link.0 * 8 ^ suc height) link.1)

  slots_again : (least : ℕ) (links : List (ℕ × CidParts)) (pairs : Pairs) → T (is_sorted nat_cmp links) → All (λ l. (l.0 < 8) × (least ≤ l.0)) links → All Some_under links → gathered child (8 ^ suc height) from links ≡ Ok pairs
      → slots_of height (groups (suc height) pairs) ≡ links
  slots_again least [] pairs rise digits some e =
      let nothing : [] ≡ pairs = cc in
      ap (λ (ps : Pairs). slots_of height (groups (suc height) ps)) (sym nothing) ∙ ap (slots_of height) (no_groups (suc height))
  slots_again least (link ∷ links) pairs rise digits some e =
      let here : (link.0 < 8) × (least ≤ link.0) = All-head (λ l. (l.0 < 8) × (least ≤ l.0)) link links digits in
      let first = ok_gives (child (from + link.0 * 8 ^ suc height) link.1) (λ ps. if_ok (gathered child (8 ^ suc height) from links) (λ rest. Ok (ps ++ rest))) pairs e in
      let others = ok_gives (gathered child (8 ^ suc height) from links) (λ rest. Ok (first.0 ++ rest)) pairs first.2 in
      let whole : first.0 ++ others.0 ≡ pairs = cc in
      let behind : All (λ l. link.0 < l.0) links = after link.0 links (both_first (below_all nat_cmp link.0 links) _ rise) in
      let small : All (λ l. (l.0 < 8) × (least ≤ l.0)) links = All-tail (λ l. (l.0 < 8) × (least ≤ l.0)) link links digits in
      let next : All (λ l. (l.0 < 8) × (link.0 + 1 ≤ l.0)) links = λ k d within. ((small k d within).0, omega (arith, behind k d within)) in
      let rise_links : T (is_sorted nat_cmp links) = both_second (below_all nat_cmp link.0 links) _ rise in
      let run : IsOneNode height (place * 8 + link.0) first.0 = one link.0 link.1 first.0 here.0 first.1 in
      let under : AreUnder height place (link.0 + 1) others.0 = all_under height place from child one (link.0 + 1) links others.0 rise_links next others.1 in
      let above : IsOneNode (suc height) place (first.0 ++ others.0) = one_above height place (first.0 ++ others.0) (join_under height place link.0 0 first.0 others.0 here.0 (omega arith) run under) in
      let has = All-head Some_under link links some in
      let count : 0 < length first.0 = subst (λ (ps : Pairs). 0 < length ps) (ok_is has.pairs first.0 (child (from + link.0 * 8 ^ suc height) link.1) has.walk first.1) has.some in
      let digit : All (λ p. digit_at (suc height) p.0 ≡ link.0) first.0 =
      All-weaker (λ p. p.0 / 8 ^ suc height ≡ place * 8 + link.0) (λ p. digit_at (suc height) p.0 ≡ link.0) (λ p is. has_digit place link.0 (p.0 / 8 ^ suc height) here.0 is) first.0 run.within in
      let apart : All (λ p. digit_at (suc height) p.0 ≢ link.0) others.0 =
      All-weaker (λ p. (place * 8 + (link.0 + 1) ≤ p.0 / 8 ^ suc height) × (p.0 / 8 ^ suc height < place * 8 + 8)) (λ p. digit_at (suc height) p.0 ≢ link.0)
      (λ p h. no_digit place link.0 (p.0 / 8 ^ suc height) h.0 h.1) others.0 under.within in
      let split : groups (suc height) (first.0 ++ others.0) ≡ (link.0, first.0) ∷ groups (suc height) others.0 =
      first_group (suc height) place link.0 first.0 others.0 above count here.0 digit (All-take (λ p. digit_at (suc height) p.0 ≢ link.0) 1 others.0 apart) in
      let rest = slots_again (link.0 + 1) links others.0 rise_links next (All-tail Some_under link links some) others.1 in
      ap (λ (ps : Pairs). slots_of height (groups (suc height) ps)) (sym whole) ∙ ap (slots_of height) split
      ∙ (λ i. (link.0, named (from + link.0 * 8 ^ suc height) link.1 first.0 first.1 i) ∷ rest i)

inner_split : (parts : NodeParts) (links : List (ℕ × CidParts)) → inner_of parts ≡ Some links → (parts.values ≡ []) × (if_some (for_each cid_of_link parts.links) (by_digit parts.bits) ≡ Some links)
inner_split parts links e = by (length parts.values == 0) refl e where
  by : (b : Bool) → (length parts.values == 0) ≡ b → cond b (if_some (for_each cid_of_link parts.links) (by_digit parts.bits)) None ≡ Some links
      → (parts.values ≡ []) × (if_some (for_each cid_of_link parts.links) (by_digit parts.bits) ≡ Some links)
  by true passed same = (nil_from_length parts.values (eqb-true (length parts.values) 0 passed), same)
  by false passed same = cc

slot_digits : (height : ℕ) (gs : List (ℕ × Pairs)) → map (λ g. g.0) gs ≡ map (λ s. s.0) (slots_of height gs)
slot_digits height [] = refl
slot_digits height (g ∷ gs) = ap (λ (t : List ℕ). g.0 ∷ t) (slot_digits height gs)

abbrev link_to : ℕ → ℕ × Pairs → Value
link_to height g = v.Link (block_of 0x71 (spelled (node height g.1))).cid

slot_links : (height : ℕ) (gs : List (ℕ × Pairs)) → map (λ c. v.Link c) (map (λ s. s.1) (slots_of height gs)) ≡ map (link_to height) gs
slot_links height [] = refl
slot_links height (g ∷ gs) = ap (λ (t : List Value). link_to height g ∷ t) (slot_links height gs)

inner_whole : (height : ℕ) (bytes : List ℕ) (x : Value) (parts : NodeParts) (links : List (ℕ × CidParts)) (gs : List (ℕ × Pairs)) → ((i : ℕ) → get_or bytes i 0 < 256) → bytes ≡ spelled x → parts_in x ≡ Some parts → inner_of parts ≡ Some links
    → slots_of height gs ≡ links → x ≡ node_of (bitmap gs) (map (link_to height) gs) []
inner_whole height bytes x parts links gs fits spells read inner same =
    let split = inner_split parts links inner in
    let cids = if_some_gives (for_each cid_of_link parts.links) (by_digit parts.bits) links split.1 in
    let all = all_slots parts.bits cids.0 links cids.2 in
    let digits : map (λ g. g.0) gs ≡ set_digits parts.bits = slot_digits height gs ∙ ap (λ (ls : List (ℕ × CidParts)). map (λ s. s.0) ls) same ∙ all.digits in
    let whole : x ≡ node_of parts.bits parts.links parts.values = node_whole x parts read in
    let small : parts.bits < 256 = byte_small bytes parts.bits parts.links parts.values fits (spells ∙ ap spelled whole) in
    let bits : bitmap gs ≡ parts.bits = bits_are parts.bits gs small digits in
    let there : parts.links ≡ map (link_to height) gs =
    links_are parts.links cids.0 cids.1 ∙ ap (map (λ c. v.Link c)) (sym all.there ∙ ap (λ (ls : List (ℕ × CidParts)). map (λ s. s.1) ls) (sym same)) ∙ slot_links height gs in
    whole ∙ (λ i. node_of (sym bits i) (there i) (split.0 i))

pub inner_is_node : (blocks : List BlockParts) (height : ℕ) (bytes : List ℕ) (x : Value) (cid : CidParts) (place from : ℕ) (links : List (ℕ × CidParts)) (pairs : Pairs) → from ≡ place * 8 ^ suc (suc height) → ((i : ℕ) → get_or bytes i 0 < 256) → bytes ≡ spelled x
    → Some links ≡ if_some (parts_in x) inner_of → All (λ link. HasPairs (child_pairs blocks height (from + link.0 * 8 ^ suc height) link.1)) links
    → inner_pairs (child_pairs blocks height) (8 ^ suc height) cid from (if_some (parts_in x) inner_of) ≡ Ok pairs → x ≡ node (suc height) pairs
unfolding node
inner_is_node blocks height bytes x cid place from links pairs is fits spells read some e =
    let gives : gathered (child_pairs blocks height) (8 ^ suc height) from links ≡ Ok pairs = ap (inner_pairs (child_pairs blocks height) (8 ^ suc height) cid from) read ∙ e in
    let parts = if_some_gives (parts_in x) inner_of links (sym read) in
    let slots = inner_slots parts.0 links parts.2 in
    let same = slots_again height place from (child_pairs blocks height)
    (λ digit child ps lt walk.
    let there = child_gives blocks height (from + digit * 8 ^ suc height) child ps walk in
    read_one_node blocks height child (place * 8 + digit) (from + digit * 8 ^ suc height) there.0 ps (child_place height place from digit is) there.1)
    (λ first child ps walk. child_named blocks height first child ps walk)
    0 links pairs slots.rising (All-weaker (λ l. l.0 < 8) (λ l. (l.0 < 8) × (0 ≤ l.0)) (λ l lt. (lt, omega arith)) links slots.small) some gives in
    inner_whole height bytes x parts.0 links (groups (suc height) pairs) fits spells parts.1 parts.2 same
