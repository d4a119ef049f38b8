-- The pointers of the node of pairs that lie over those of a kept node, as they are written.
use Rattle.std.proofs.Common.{◌≡◌, ℕ, ◌+◌, ◌-◌, ◌^◌, ◌<◌, ◌||◌, Bool, true, false, cond, eqb, List, [], ◌∷◌, ◌++◌, length, map, take, drop, Some, None, refl, sym, ap, subst, ◌∙◌, arith}
use Rattle.std.proofs.lemmas.List.{append-nil, length-map, take_more}
use Rattle.std.proofs.lemmas.List.Elements.{All-head}
use Rattle.std.proofs.lemmas.Grind.{flat_map-append}
use Rattle.std.specs.List.{flat_map}
use Rattle.std.specs.Prelude.{nat_le}
use Rattle.std.specs.FinMap.{entries}
use Rattle.cid_core.specs.BlockParts.{BlockParts, found}
use Rattle.fil_base.specs.CidParts.{CidParts}
use Rattle.dag_cbor.specs.declared.value.Value.TheVariants as v
use Rattle.dag_cbor.specs.Spelling.{joined, spelled}
use Rattle.hamt_map.specs.Ahead.{AreAhead, pointer_text}
use Rattle.hamt_map.specs.Canonical.{map_of}
use Rattle.hamt_map.specs.Groups.{by_place, is_group, nodes_of, nodes_under, pointer_to, pointers_of}
use Rattle.hamt_map.specs.HashOrder.{AreLent, ArePointers, low_bits}
use Rattle.hamt_map.specs.Kept.{AreHeld}
use Rattle.hamt_map.specs.KeptNode.{IsKeptGroup, IsKeptNode}
use Rattle.hamt_map.specs.Lent.{lent_of}
use Rattle.hamt_map.specs.Node.{bucket, node_block}
use Rattle.hamt_map.specs.Omitted.{Adds}
use Rattle.hamt_map.specs.Pairs.{Pairs, at_place}
use Rattle.hamt_map.specs.declared.hashed.Hashed.{Hashed}
use Rattle.hamt_map.proofs.Grouping.{group_at}
use Rattle.hamt_map.proofs.GroupSteps.{in_bucket, out_of_bucket}
use Rattle.hamt_map.proofs.InOrder.{Run, Swept, swept_begin}
use Rattle.hamt_map.proofs.MapParts.{sorted_again}
use Rattle.hamt_map.proofs.Merging.{all_back, all_front}
use Rattle.hamt_map.proofs.NodeParts.{great_nodes_are, great_pointer, one_pointer, small_pointer}
use Rattle.hamt_map.proofs.Omitting.{adds_all, adds_both, adds_held, adds_push}
use Rattle.hamt_map.proofs.OverPlaces.{at_over, length_over, next_group, no_group, some_group}
use Rattle.hamt_map.proofs.PointerSteps.{WrittenOf, of_begin, of_end, of_more}

-- ---- over a kept node

-- the groups of pairs that lie over others
abbrev pub over_groups : ℕ → Pairs → Pairs → List Pairs
over_groups below ps old = by_place (51 - below) (entries (map_of (ps ++ old)))

-- what is written when the places below one were taken, and what is left of the kept node's pointers
pub record WrittenOver (held : List BlockParts) (below : ℕ) (ps old : Pairs) (place done kept : ℕ) (left : List ℕ) (bits count : ℕ) (texts : List ℕ) (start now : List BlockParts) : Type 0 where
  pub swept : Swept below place done ps
  pub written : WrittenOf below (over_groups below ps old) place bits count texts
  pub ahead : AreAhead below (drop place (by_place (51 - below) old)) kept left
  pub under : Adds held start now (flat_map (nodes_of below) (take place (over_groups below ps old)))

pub over_begin : (held : List BlockParts) (below : ℕ) (ps old : Pairs) (kept : ℕ) (left : List ℕ) (bits count : ℕ) (texts : List ℕ) (start : List BlockParts) → AreAhead below (by_place (51 - below) old) kept left → bits ≡ 0 → count ≡ 0 → texts ≡ [] → WrittenOver held below ps old 0 0 kept left bits count texts start start
over_begin held below ps old kept left bits count texts start ahead no_bits none nothing = record {
  swept = swept_begin below ps;
  written = of_begin below (over_groups below ps old) bits count texts no_bits none nothing;
  ahead = ahead;
  under = adds_all held start start [] (sym (append-nil start));
}

-- the group at a place, of which the pairs above are a run
pub group_over : (below place : ℕ) (ps old run : Pairs) → at_place (51 - below) place ps ≡ run → at_place (51 - below) place (entries (map_of (ps ++ old))) ≡ entries (map_of (run ++ at_place (51 - below) place old))
group_over below place ps old run is = at_over (51 - below) place ps old ∙ ap (λ (qs : Pairs). entries (map_of (qs ++ at_place (51 - below) place old))) is

pub over_more : (held : List BlockParts) (below : ℕ) (ps old : Pairs) (place done n kept : ℕ) (left : List ℕ) (bits count : ℕ) (texts : List ℕ) (start now : List BlockParts) (kept' : ℕ) (left' : List ℕ) (bits' count' : ℕ) (texts' : List ℕ) (now' : List BlockParts) (full : Bool)
    → place < 32 → WrittenOver held below ps old place done kept left bits count texts start now → Run below place done n ps → full ≡ is_group (entries (map_of (take n (drop done ps) ++ at_place (51 - below) place old)))
    → AreAhead below (drop (place + 1) (by_place (51 - below) old)) kept' left'
    → bits' ≡ bits + cond full (2 ^ place) 0 → count' ≡ count + cond full 1 0 → texts' ≡ texts ++ joined (map spelled (pointers_of below (entries (map_of (take n (drop done ps) ++ at_place (51 - below) place old)))))
    → Adds held now now' (nodes_of below (entries (map_of (take n (drop done ps) ++ at_place (51 - below) place old)))) → WrittenOver held below ps old (place + 1) (done + n) kept' left' bits' count' texts' start now'
over_more held below ps old place done n kept left bits count texts start now kept' left' bits' count' texts' now' full small so_far run is_full ahead bits_is count_is texts_is adds =
    let groups : List Pairs = over_groups below ps old in
    let g : Pairs = entries (map_of (take n (drop done ps) ++ at_place (51 - below) place old)) in
    let here : at_place (51 - below) place (entries (map_of (ps ++ old))) ≡ g = group_over below place ps old (take n (drop done ps)) run.is in
    let next : drop place groups ≡ g ∷ drop (place + 1) groups = next_group (51 - below) place (entries (map_of (ps ++ old))) small ∙ ap (λ (h : Pairs). h ∷ drop (place + 1) groups) here in
    let taken : take (place + 1) groups ≡ take place groups ++ g ∷ [] = take_more groups place [] small ∙ ap (λ (h : Pairs). take place groups ++ h ∷ []) (group_at (51 - below) place (entries (map_of (ps ++ old))) [] small ∙ here) in
    let nodes : flat_map (nodes_of below) (take (place + 1) groups) ≡ flat_map (nodes_of below) (take place groups) ++ nodes_of below g =
    ap (flat_map (nodes_of below)) taken ∙ flat_map-append (nodes_of below) (take place groups) (g ∷ []) ∙ ap (λ (bs : List BlockParts). flat_map (nodes_of below) (take place groups) ++ bs) (append-nil (nodes_of below g)) in
    record {
      swept = run.swept;
      written = of_more below groups (drop (place + 1) groups) g place bits count texts bits' count' texts' full so_far.written next refl is_full bits_is count_is texts_is;
      ahead = ahead;
      under = subst (Adds held start now') (sym nodes) (adds_both held start now now' (flat_map (nodes_of below) (take place groups)) (nodes_of below g) so_far.under adds);
    }

pub over_end : (held : List BlockParts) (below : ℕ) (ps old : Pairs) (place done kept : ℕ) (left : List ℕ) (bits count : ℕ) (texts : List ℕ) (start now : List BlockParts) → place ≡ 32 → WrittenOver held below ps old place done kept left bits count texts start now
    → ArePointers below (entries (map_of (ps ++ old))) bits count texts
over_end held below ps old place done kept left bits count texts start now last so_far = of_end below (entries (map_of (ps ++ old))) place bits count texts last so_far.written

pub over_under_end : (held : List BlockParts) (below : ℕ) (ps old : Pairs) (place done kept : ℕ) (left : List ℕ) (bits count : ℕ) (texts : List ℕ) (start now : List BlockParts) → place ≡ 32 → WrittenOver held below ps old place done kept left bits count texts start now
    → Adds held start now (nodes_under below (entries (map_of (ps ++ old))))
unfolding nodes_under
over_under_end held below ps old place done kept left bits count texts start now last so_far =
    subst (λ (k : ℕ). Adds held start now (flat_map (nodes_of below) (take k (over_groups below ps old)))) last so_far.under

-- ---- one group

-- as many pairs as are lent
pub lent_size : (below : ℕ) (es : List Hashed) (ps : Pairs) → AreLent below (map lent_of es) ps → length es ≡ length ps
lent_size below es ps are = sym (length-map es lent_of) ∙ ap length are.same ∙ length-map ps (λ p. (low_bits are.start p.0, (p.0, spelled p.1)))

none_lent : (below : ℕ) (es : List Hashed) (ps : Pairs) → AreLent below (map lent_of es) ps → length es ≡ 0 → ps ≡ []
none_lent below es [] are none = refl
none_lent below es (p ∷ ps) are none = let size = lent_size below es (p ∷ ps) are in absurd (omega (arith, size, none))

-- a group that was not there
pub new_group : (below : ℕ) (ps old : Pairs) → None ≡ pointer_text below old → ps ≡ ps ++ old
new_group below ps old none = sym (ap (λ (qs : Pairs). ps ++ qs) (no_group below old none) ∙ append-nil ps)

-- a group over which no pairs lie
same_group : (below : ℕ) (es : List Hashed) (ps old : Pairs) (held : List BlockParts) → AreLent (below - 1) (map lent_of es) ps → length es ≡ 0 → IsKeptGroup held below old → entries (map_of (ps ++ old)) ≡ old
same_group below es ps old held are none kept = ap (λ (qs : Pairs). entries (map_of (qs ++ old))) (none_lent (below - 1) es ps are none) ∙ sorted_again old kept.sorted

pub copied_text : (held : List BlockParts) (below : ℕ) (es : List Hashed) (ps old : Pairs) (pointer texts after : List ℕ) → AreLent (below - 1) (map lent_of es) ps → length es ≡ 0 → IsKeptGroup held below old → Some pointer ≡ pointer_text below old
    → after ≡ texts ++ pointer → after ≡ texts ++ joined (map spelled (pointers_of below (entries (map_of (ps ++ old)))))
copied_text held below es ps old pointer texts after are none kept shows is =
    let some = some_group below old pointer shows in
    is ∙ ap (λ (t : List ℕ). texts ++ t) (some.1 ∙ sym (ap (λ vs. joined (map spelled vs)) (one_pointer below old some.0) ∙ append-nil (spelled (pointer_to below old))))
    ∙ ap (λ (g : Pairs). texts ++ joined (map spelled (pointers_of below g))) (sym (same_group below es ps old held are none kept))

pub copied_under : (held : List BlockParts) (below : ℕ) (es : List Hashed) (ps old : Pairs) (nodes : List BlockParts) → AreLent (below - 1) (map lent_of es) ps → length es ≡ 0 → IsKeptGroup held below old
    → Adds held nodes nodes (nodes_of below (entries (map_of (ps ++ old))))
copied_under held below es ps old nodes are none kept =
    subst (λ (g : Pairs). Adds held nodes nodes (nodes_of below g)) (sym (same_group below es ps old held are none kept)) (adds_held held nodes (nodes_of below old) kept.nodes)

-- a pointer that is written to the pairs over a group
pub over_text : (held : List BlockParts) (below : ℕ) (ps old : Pairs) (pointer texts after : List ℕ) → IsKeptGroup held below old → Some pointer ≡ pointer_text below old → after ≡ texts ++ spelled (pointer_to below (entries (map_of (ps ++ old))))
    → after ≡ texts ++ joined (map spelled (pointers_of below (entries (map_of (ps ++ old)))))
over_text held below ps old pointer texts after kept shows is =
    let old_some = (some_group below old pointer shows).0 in
    let more = length_over ps old kept.sorted in
    let some : 0 < length (entries (map_of (ps ++ old))) = omega (arith, old_some, more) in
    is ∙ ap (λ (t : List ℕ). texts ++ t) (sym (ap (λ vs. joined (map spelled vs)) (one_pointer below (entries (map_of (ps ++ old))) some) ∙ append-nil (spelled (pointer_to below (entries (map_of (ps ++ old)))))))

-- ---- the kinds of pointers

-- where the test for a link says no, a bucket
pub kept_bucket : (below : ℕ) (old : Pairs) (text : List ℕ) (test : Bool) → ((cid : CidParts) → text ≡ spelled (v.Link cid) → test ≡ true) → test ≡ false → text ≡ spelled (pointer_to below old) → text ≡ spelled (bucket old)
kept_bucket below old text test link off is = by (eqb below 0 || nat_le (length old) 3) refl where
  by : (b : Bool) → (eqb below 0 || nat_le (length old) 3) ≡ b → text ≡ spelled (bucket old)
  by true e = is ∙ ap spelled (small_pointer below old (in_bucket below (length old) e))
  by false e =
      let great = out_of_bucket below (length old) e in
      let on : test ≡ true = link (node_block (below - 1) old).cid (is ∙ ap spelled (great_pointer below old great.0 great.1)) in
      absurd (cc (on, off))

-- and where it says yes, a link
pub kept_link : (below : ℕ) (old : Pairs) (text : List ℕ) (test : Bool) → ((ps : Pairs) → text ≡ spelled (bucket ps) → test ≡ false) → test ≡ true → text ≡ spelled (pointer_to below old)
    → (3 < length old) × (text ≡ spelled (v.Link (node_block (below - 1) old).cid))
kept_link below old text test no_link on is = by (eqb below 0 || nat_le (length old) 3) refl where
  by : (b : Bool) → (eqb below 0 || nat_le (length old) 3) ≡ b → (3 < length old) × (text ≡ spelled (v.Link (node_block (below - 1) old).cid))
  by true e =
      let off : test ≡ false = no_link old (is ∙ ap spelled (small_pointer below old (in_bucket below (length old) e))) in
      absurd (cc (off, on))
  by false e = let great = out_of_bucket below (length old) e in (great.1, is ∙ ap spelled (great_pointer below old great.0 great.1))

-- ---- the node under a link

pub kept_child : (held : List BlockParts) (below : ℕ) (old : Pairs) (cid : CidParts) (b : BlockParts) (bytes : List ℕ) → IsKeptGroup held below old → 0 < below → 3 < length old → cid ≡ (node_block (below - 1) old).cid → Some b ≡ found held cid → bytes ≡ b.bytes
    → IsKeptNode held (below - 1) bytes old
kept_child held below old cid b bytes kept some great is there of_block =
    let all : AreHeld held (nodes_under (below - 1) old ++ node_block (below - 1) old ∷ []) = subst (AreHeld held) (great_nodes_are below old some great) kept.nodes in
    let own : found held (node_block (below - 1) old).cid ≡ Some (node_block (below - 1) old) = All-head (λ b. found held b.cid ≡ Some b) (node_block (below - 1) old) [] (all_back (λ b. found held b.cid ≡ Some b) (nodes_under (below - 1) old) _ all) in
    let both : Some b ≡ Some (node_block (below - 1) old) = there ∙ ap (found held) is ∙ own in
    let same : b ≡ node_block (below - 1) old = cc both in
    record {
      spells = of_block ∙ ap (λ (x : BlockParts). x.bytes) same;
      under = all_front (λ b. found held b.cid ≡ Some b) (nodes_under (below - 1) old) _ all;
      fit = kept.fit;
      sorted = kept.sorted;
    }

still_great : (ps old : Pairs) (held : List BlockParts) (below : ℕ) → IsKeptGroup held below old → 3 < length old → 3 < length (entries (map_of (ps ++ old)))
still_great ps old held below kept great = let more = length_over ps old kept.sorted in omega (arith, great, more)

pub link_text : (held : List BlockParts) (below : ℕ) (ps old : Pairs) (out after : List ℕ) (block : BlockParts) → IsKeptGroup held below old → 0 < below → 3 < length old → block ≡ node_block (below - 1) (entries (map_of (ps ++ old)))
    → after ≡ out ++ spelled (v.Link block.cid) → after ≡ out ++ spelled (pointer_to below (entries (map_of (ps ++ old))))
link_text held below ps old out after block kept some great block_is is =
    is ∙ ap (λ (b : BlockParts). out ++ spelled (v.Link b.cid)) block_is ∙ ap (λ p. out ++ spelled p) (sym (great_pointer below (entries (map_of (ps ++ old))) some (still_great ps old held below kept great)))

pub link_under : (held : List BlockParts) (below : ℕ) (ps old : Pairs) (start now after : List BlockParts) (block : BlockParts) → IsKeptGroup held below old → 0 < below → 3 < length old → block ≡ node_block (below - 1) (entries (map_of (ps ++ old)))
    → Adds held start now (nodes_under (below - 1) (entries (map_of (ps ++ old)))) → after ≡ now ++ block ∷ [] → Adds held start after (nodes_of below (entries (map_of (ps ++ old))))
link_under held below ps old start now after block kept some great block_is under pushed =
    subst (Adds held start after) (sym (great_nodes_are below (entries (map_of (ps ++ old))) some (still_great ps old held below kept great)))
    (adds_push held start now after (nodes_under (below - 1) (entries (map_of (ps ++ old)))) (node_block (below - 1) (entries (map_of (ps ++ old)))) under (pushed ∙ ap (λ (b : BlockParts). now ++ b ∷ []) block_is))
