-- The steps by which a node's pointers are written, and its bytes.
use Rattle.std.proofs.Common.{◌≡◌, ℕ, zero, suc, ◌+◌, ◌-◌, ◌^◌, ◌<◌, ◌≤◌, Bool, true, false, cond, List, [], ◌∷◌, ◌++◌, length, map, take, drop, drop-cons, get_or, All, refl, sym, ap, subst, ◌∙◌, append_assoc, arith}
use Rattle.std.proofs.lemmas.List.{append-nil, length-append, length-map, map-append, take-append-drop}
use Rattle.std.specs.List.{flat_map, drop-map, take-map}
use Rattle.std.specs.FinMap.{entries}
use Rattle.cid_core.specs.BlockParts.{BlockParts}
use Rattle.dag_cbor.specs.declared.value.Value.{Value}
use Rattle.dag_cbor.specs.declared.value.Value.TheVariants as v
use Rattle.dag_cbor.specs.Plain.{IsPlain}
use Rattle.dag_cbor.specs.Spelling.{head, joined, spelled}
use Rattle.dag_cbor.proofs.Equations.{spelled-Blob, spelled-List}
use Rattle.hamt_map.specs.Canonical.{map_of, node_of}
use Rattle.hamt_map.specs.Groups.{bits_from, by_place, is_group, nodes_of, pointer_to, pointers_of}
use Rattle.hamt_map.specs.HashOrder.{AreInOrder, AreLent, ArePointers, low_bits, pair_text}
use Rattle.hamt_map.specs.Holds.{FitNodes, spellings}
use Rattle.hamt_map.specs.Node.{bucket, pair_value}
use Rattle.hamt_map.specs.Pairs.{Pairs, at_place, place_on}
use Rattle.hamt_map.proofs.Grouping.{group_at}
use Rattle.hamt_map.proofs.InOrder.{Run, Swept, order_back, order_below, order_front, swept_begin}
use Rattle.hamt_map.proofs.MapParts.{at_place_map}
use Rattle.hamt_map.proofs.Merging.{all_back, all_front}

-- ---- bytes

pub joined-append : (xs ys : List (List ℕ)) → joined (xs ++ ys) ≡ joined xs ++ joined ys
joined-append [] ys = refl
joined-append (x ∷ xs) ys = ap (λ (t : List ℕ). x ++ t) (joined-append xs ys) ∙ sym (append_assoc x (joined xs) (joined ys))

-- the bytes of a node with a bit field and pointers
pub node_bytes : (bits texts : List ℕ) (len count : ℕ) (pointers : List Value) → len ≡ length bits → count ≡ length pointers → texts ≡ joined (map spelled pointers)
    → (((head 4 2 ++ head 2 len) ++ bits) ++ head 4 count) ++ texts ≡ spelled (node_of bits pointers)
node_bytes bits texts len count pointers long many are =
    append_assoc ((head 4 2 ++ head 2 len) ++ bits) (head 4 count) texts
    ∙ append_assoc (head 4 2 ++ head 2 len) bits (head 4 count ++ texts)
    ∙ append_assoc (head 4 2) (head 2 len) (bits ++ (head 4 count ++ texts))
    ∙ (λ i. head 4 2 ++ (head 2 (long i) ++ (bits ++ (head 4 (many i) ++ are i))))
    ∙ ap (λ (t : List ℕ). head 4 2 ++ t) (sym (append_assoc (head 2 (length bits)) bits (head 4 (length pointers) ++ joined (map spelled pointers))))
    ∙ sym (spelled-List (v.Blob bits ∷ (v.List pointers ∷ [])) ∙ (λ i. head 4 2 ++ (spelled-Blob bits i ++ (spelled-List pointers i ++ [])))
    ∙ ap (λ (t : List ℕ). head 4 2 ++ ((head 2 (length bits) ++ bits) ++ t)) (append-nil (head 4 (length pointers) ++ joined (map spelled pointers))))

pub pair_spelled : (p : List ℕ × Value) → spelled (pair_value p) ≡ pair_text (p.0, spelled p.1)
pair_spelled p =
    spelled-List (v.Blob p.0 ∷ (p.1 ∷ [])) ∙ (λ i. head 4 2 ++ (spelled-Blob p.0 i ++ append-nil (spelled p.1) i))

bucket_texts : (ps : Pairs) → flat_map pair_text (spellings ps) ≡ joined (map spelled (map pair_value ps))
bucket_texts [] = refl
bucket_texts (p ∷ ps) = λ i. sym (pair_spelled p) i ++ bucket_texts ps i

-- the bytes of a bucket
pub bucket_bytes : (texts : List (List ℕ × List ℕ)) (ps : Pairs) → texts ≡ spellings ps → head 4 (length texts) ++ flat_map pair_text texts ≡ spelled (bucket ps)
bucket_bytes texts ps are =
    (λ i. head 4 (length (are i)) ++ flat_map pair_text (are i))
    ∙ (λ i. head 4 ((length-map {B = List ℕ × List ℕ} ps (λ p. (p.0, spelled p.1)) ∙ sym (length-map ps pair_value)) i) ++ bucket_texts ps i)
    ∙ sym (spelled-List (map pair_value ps))

-- ---- groups

-- the group of a place is at the front of those that are left
next_groups : (level place : ℕ) (ps run : Pairs) → place < 32 → at_place level place ps ≡ run
    → drop place (by_place level (entries (map_of ps))) ≡ entries (map_of run) ∷ drop (place + 1) (by_place level (entries (map_of ps)))
next_groups level place ps run small is =
    let groups : List Pairs = by_place level (entries (map_of ps)) in
    let next : suc place ≡ place + 1 = omega arith in
    let group : get_or groups place [] ≡ entries (map_of run) = group_at level place (entries (map_of ps)) [] small ∙ at_place_map level place ps ∙ ap (λ (qs : Pairs). entries (map_of qs)) is in
    drop-cons groups place [] small ∙ (λ i. group i ∷ drop (next i) groups)

one_count : (below : ℕ) (g : Pairs) → length (pointers_of below g) ≡ cond (is_group g) 1 0
unfolding pointers_of
one_count below g = elim (is_group g) as (λ b. length (cond b (pointer_to below g ∷ []) []) ≡ cond b 1 0) [ true ↦ refl | false ↦ refl ]

-- what is written of the pointers of groups when the places below one were taken
pub record WrittenOf (below : ℕ) (groups : List Pairs) (place bits count : ℕ) (texts : List ℕ) : Type 0 where
  pub bits_are : bits + bits_from place (drop place groups) ≡ bits_from 0 groups
  pub count_is : count + length (flat_map (pointers_of below) (drop place groups)) ≡ length (flat_map (pointers_of below) groups)
  pub texts_are : texts ++ joined (map spelled (flat_map (pointers_of below) (drop place groups))) ≡ joined (map spelled (flat_map (pointers_of below) groups))

zero_add : (n : ℕ) → 0 + n ≡ n
zero_add n = omega arith

pub of_begin : (below : ℕ) (groups : List Pairs) (bits count : ℕ) (texts : List ℕ) → bits ≡ 0 → count ≡ 0 → texts ≡ [] → WrittenOf below groups 0 bits count texts
of_begin below groups bits count texts no_bits none nothing = record {
  bits_are = ap (λ (b : ℕ). b + bits_from 0 groups) no_bits ∙ zero_add (bits_from 0 groups);
  count_is = ap (λ (n : ℕ). n + length (flat_map (pointers_of below) groups)) none ∙ zero_add (length (flat_map (pointers_of below) groups));
  texts_are = ap (λ (t : List ℕ). t ++ joined (map spelled (flat_map (pointers_of below) groups))) nothing;
}

pub of_more : (below : ℕ) (groups rest : List Pairs) (g : Pairs) (place bits count : ℕ) (texts : List ℕ) (bits' count' : ℕ) (texts' : List ℕ) (full : Bool) → WrittenOf below groups place bits count texts
    → drop place groups ≡ g ∷ rest → rest ≡ drop (place + 1) groups → full ≡ is_group g → bits' ≡ bits + cond full (2 ^ place) 0 → count' ≡ count + cond full 1 0 → texts' ≡ texts ++ joined (map spelled (pointers_of below g))
    → WrittenOf below groups (place + 1) bits' count' texts'
of_more below groups rest g place bits count texts bits' count' texts' full so_far next behind is_full bits_is count_is texts_is = record {
  bits_are =
      let here : bits_from place (drop place groups) ≡ cond full (2 ^ place) 0 + bits_from (place + 1) rest = ap (bits_from place) next ∙ ap (λ b. cond b (2 ^ place) 0 + bits_from (place + 1) rest) (sym is_full) in
      let later : bits_from (place + 1) (drop (place + 1) groups) ≡ bits_from (place + 1) rest = ap (bits_from (place + 1)) (sym behind) in
      let was = so_far.bits_are in
      omega (arith, here, later, was, bits_is);
  count_is =
      let here : length (flat_map (pointers_of below) (drop place groups)) ≡ cond full 1 0 + length (flat_map (pointers_of below) rest) =
      ap (λ gs. length (flat_map (pointers_of below) gs)) next ∙ length-append (pointers_of below g) (flat_map (pointers_of below) rest) ∙ ap (λ (k : ℕ). k + length (flat_map (pointers_of below) rest)) (one_count below g ∙ ap (λ b. cond b 1 0) (sym is_full)) in
      let later : length (flat_map (pointers_of below) (drop (place + 1) groups)) ≡ length (flat_map (pointers_of below) rest) = ap (λ gs. length (flat_map (pointers_of below) gs)) (sym behind) in
      let was = so_far.count_is in
      omega (arith, here, later, was, count_is);
  texts_are = ap (λ gs. texts' ++ joined (map spelled (flat_map (pointers_of below) gs))) (sym behind)
      ∙ ap (λ (t : List ℕ). t ++ joined (map spelled (flat_map (pointers_of below) rest))) texts_is ∙ append_assoc texts (joined (map spelled (pointers_of below g))) (joined (map spelled (flat_map (pointers_of below) rest)))
      ∙ ap (λ (t : List ℕ). texts ++ t) (sym (ap (λ gs. joined (map spelled (flat_map (pointers_of below) gs))) next ∙ ap joined (map-append spelled (pointers_of below g) (flat_map (pointers_of below) rest)) ∙ joined-append (map spelled (pointers_of below g)) (map spelled (flat_map (pointers_of below) rest))))
      ∙ so_far.texts_are;
}

zero_more : (a b : ℕ) → a + 0 ≡ b → a ≡ b
zero_more a b e = omega (arith, e)

pub of_end : (below : ℕ) (pairs : Pairs) (place bits count : ℕ) (texts : List ℕ) → place ≡ 32 → WrittenOf below (by_place (51 - below) pairs) place bits count texts → ArePointers below pairs bits count texts
of_end below pairs place bits count texts last so_far =
    let written : WrittenOf below (by_place (51 - below) pairs) 32 bits count texts = subst (λ (k : ℕ). WrittenOf below (by_place (51 - below) pairs) k bits count texts) last so_far in
    record { bits_are = zero_more bits _ written.bits_are; count_is = zero_more count _ written.count_is; spellings_are = sym (append-nil texts) ∙ written.texts_are }

-- what is written of a node's pointers and nodes when the places below one were taken
pub record WrittenSoFar (below : ℕ) (ps : Pairs) (place done bits count : ℕ) (texts : List ℕ) (start now : List BlockParts) : Type 0 where
  pub swept : Swept below place done ps
  pub written : WrittenOf below (by_place (51 - below) (entries (map_of ps))) place bits count texts
  pub under : now ++ flat_map (nodes_of below) (drop place (by_place (51 - below) (entries (map_of ps)))) ≡ start ++ flat_map (nodes_of below) (by_place (51 - below) (entries (map_of ps)))

pub written_begin : (below : ℕ) (ps : Pairs) (bits count : ℕ) (texts : List ℕ) (start now : List BlockParts) → bits ≡ 0 → count ≡ 0 → texts ≡ [] → now ≡ start → WrittenSoFar below ps 0 0 bits count texts start now
written_begin below ps bits count texts start now no_bits none nothing same = record {
  swept = swept_begin below ps;
  written = of_begin below (by_place (51 - below) (entries (map_of ps))) bits count texts no_bits none nothing;
  under = ap (λ (bs : List BlockParts). bs ++ flat_map (nodes_of below) (by_place (51 - below) (entries (map_of ps)))) same;
}

-- the pointer of one more group
pub written_more : (below : ℕ) (ps : Pairs) (place done n bits count : ℕ) (texts : List ℕ) (start now : List BlockParts) (bits' count' : ℕ) (texts' : List ℕ) (now' : List BlockParts) (full : Bool) → place < 32
    → WrittenSoFar below ps place done bits count texts start now → Run below place done n ps → full ≡ is_group (entries (map_of (take n (drop done ps))))
    → bits' ≡ bits + cond full (2 ^ place) 0 → count' ≡ count + cond full 1 0 → texts' ≡ texts ++ joined (map spelled (pointers_of below (entries (map_of (take n (drop done ps))))))
    → now' ≡ now ++ nodes_of below (entries (map_of (take n (drop done ps)))) → WrittenSoFar below ps (place + 1) (done + n) bits' count' texts' start now'
written_more below ps place done n bits count texts start now bits' count' texts' now' full small so_far run is_full bits_is count_is texts_is now_is =
    let groups : List Pairs = by_place (51 - below) (entries (map_of ps)) in
    let g : Pairs = entries (map_of (take n (drop done ps))) in
    let rest : List Pairs = drop (place + 1) groups in
    let next : drop place groups ≡ g ∷ rest = next_groups (51 - below) place ps (take n (drop done ps)) small run.is in
    record {
      swept = run.swept;
      written = of_more below groups rest g place bits count texts bits' count' texts' full so_far.written next refl is_full bits_is count_is texts_is;
      under = ap (λ (bs : List BlockParts). bs ++ flat_map (nodes_of below) rest) now_is ∙ append_assoc now (nodes_of below g) (flat_map (nodes_of below) rest)
          ∙ ap (λ (bs : List BlockParts). now ++ bs) (sym (ap (flat_map (nodes_of below)) next)) ∙ so_far.under;
    }

pub written_end : (below : ℕ) (ps : Pairs) (place done bits count : ℕ) (texts : List ℕ) (start now : List BlockParts) → place ≡ 32 → WrittenSoFar below ps place done bits count texts start now → ArePointers below (entries (map_of ps)) bits count texts
written_end below ps place done bits count texts start now last so_far = of_end below (entries (map_of ps)) place bits count texts last so_far.written

pub under_end : (below : ℕ) (ps : Pairs) (place done bits count : ℕ) (texts : List ℕ) (start now : List BlockParts) → place ≡ 32 → WrittenSoFar below ps place done bits count texts start now
    → now ≡ start ++ flat_map (nodes_of below) (by_place (51 - below) (entries (map_of ps)))
under_end below ps place done bits count texts start now last so_far =
    sym (append-nil now) ∙ subst (λ (k : ℕ). now ++ flat_map (nodes_of below) (drop k (by_place (51 - below) (entries (map_of ps)))) ≡ start ++ flat_map (nodes_of below) (by_place (51 - below) (entries (map_of ps)))) last so_far.under

-- ---- parts of the pairs

fit_part : (done n : ℕ) (ps : Pairs) → FitNodes ps → FitNodes (take n (drop done ps))
fit_part done n ps fit = all_front (λ p. IsPlain 124 p.1) (take n (drop done ps)) (drop n (drop done ps))
    (subst FitNodes (sym (take-append-drop n (drop done ps))) (all_back (λ p. IsPlain 124 p.1) (take done ps) (drop done ps) (subst FitNodes (sym (take-append-drop done ps)) fit)))

order_part : (below done n : ℕ) (ps : Pairs) → AreInOrder below ps → AreInOrder below (take n (drop done ps))
order_part below done n ps order = order_front below (take n (drop done ps)) (drop n (drop done ps))
    (subst (AreInOrder below) (sym (take-append-drop n (drop done ps))) (order_back below (take done ps) (drop done ps) (subst (AreInOrder below) (sym (take-append-drop done ps)) order)))

-- the pairs at a place, as they go to the level below
order_group : (below k : ℕ) (ps : Pairs) → below ≤ 50 → AreInOrder below ps → All (λ p. place_on (51 - below) p.0 ≡ k) ps → AreInOrder (below - 1) ps
order_group zero k ps small order at = order
order_group (suc below) k ps small order at = let less : suc below - 1 ≡ below = omega arith in subst (λ (b : ℕ). AreInOrder b ps) (sym less) (order_below below k ps small order at)

pub lent_group : (below k done n : ℕ) (lent : List (ℕ × (List ℕ × List ℕ))) (ps : Pairs) → below ≤ 50 → AreLent below lent ps → All (λ p. place_on (51 - below) p.0 ≡ k) (take n (drop done ps)) → AreLent (below - 1) (take n (drop done lent)) (take n (drop done ps))
lent_group below k done n lent ps small are at = record {
  start = are.start;
  from = let from = are.from in omega (arith, from);
  bound = are.bound;
  same = ap (λ vs. take n (drop done vs)) are.same ∙ ap (take n) (drop-map (λ (p : List ℕ × Value). (low_bits are.start p.0, (p.0, spelled p.1))) done ps) ∙ take-map (λ (p : List ℕ × Value). (low_bits are.start p.0, (p.0, spelled p.1))) n (drop done ps);
  fit = fit_part done n ps are.fit;
  order = order_group below k (take n (drop done ps)) small (order_part below done n ps are.order) at;
}
