-- A tree that is all there loads as its pairs.
use Rattle.std.proofs.Common.{◌≡◌, ◌≢◌, ℕ, zero, suc, ◌+◌, ◌*◌, ◌/◌, ◌%◌, ◌^◌, ◌<◌, ◌≤◌, ◌&&◌, ◌==◌, Bool, true, false, cond, List, [], ◌∷◌, ◌++◌, length, map, zip, pos, nat_eq, Option, Some, None, Ok, Err, Result, All, T, refl, sym, ap, subst, ◌∙◌, arith, take}
use Rattle.std.proofs.lemmas.List.{length-map}
use Rattle.std.proofs.lemmas.List.Elements.{All-head, All-tail, All-weaker, All-map, recursion_from_All}
use Rattle.std.specs.Cmp.Lexicographic.{pointwise, nat_list_eq_equiv}
use Rattle.std.specs.List.{flat_map, list_all}
use Rattle.fil_base.specs.CidEquality.{parts_equiv, same_parts}
use Rattle.fil_base.specs.CidParts.{CidParts}
use Rattle.cid_core.specs.BlockParts.{BlockParts, block_of, found}
use Rattle.dag_cbor.specs.Plain.{IsPlain}
use Rattle.dag_cbor.specs.Spelling.{spelled}
use Rattle.dag_cbor.specs.declared.value.Value.{Value, Value-F, out-Value}
use Rattle.dag_cbor.specs.declared.value.Value.TheVariants as v
use Rattle.tree_blocks.specs.Forms.{bytes_in, for_each, if_some, items_in}
use Rattle.tree_blocks.specs.Judging.{if_ok, same_block}
use Rattle.tree_blocks.specs.declared.fault.TreeFault.{TreeFault}
use Rattle.tree_blocks.specs.declared.fault.TreeFault.TheVariants.{NotCanonical}
use Rattle.amt_map.specs.Depth.{is_within}
use Rattle.amt_map.specs.Holds.{FitRoot}
use Rattle.amt_map.specs.Loading.{block_value, child_pairs}
use Rattle.amt_map.specs.Node.{bitmap, groups, node, node_block, node_of, nodes_under}
use Rattle.amt_map.specs.OneNode.{IsOneNode}
use Rattle.amt_map.specs.Pairs.{Map, Pairs, digit_at}
use Rattle.amt_map.specs.Walk.{NodeParts, by_digit, gathered, inner_of, inner_pairs, judged, leaf_of, leaf_pairs, link_in, node_pairs, one_byte, parts_in, parts_of, set_digits, three_of, value_in}
use Rattle.amt_map.proofs.BitmapDigits.{bitmap_digits}
use Rattle.amt_map.proofs.Depths.{one_deeper}
use Rattle.amt_map.proofs.EachRun.{by_runs}
use Rattle.amt_map.proofs.FirstIndex.{child_place}
use Rattle.amt_map.proofs.Grouping.{first_group, no_groups}
use Rattle.amt_map.proofs.NodeForm.{as_many, cid_of_link, value_read}
use Rattle.amt_map.proofs.NodePlaces.{all_behind, all_front, below_node, under_node}
use Rattle.amt_map.proofs.PlainNode.{leaf_digits, leaf_indexes, leaf_values, node_plain, values_of_groups}
use Rattle.amt_map.proofs.WalkSteps.{block_gives}
use Rattle.amt_map.proofs.Within.{all_within}

-- ---- the parts of a node

parts_of_node : (bits : ℕ) (links values : List Value) → parts_in (node_of bits links values) ≡ Some (record { bits = bits; links = links; values = values })
parts_of_node bits links values =
    let made : ℕ → List Value → List Value → Option NodeParts = λ b ls vs. Some (record { bits = b; links = ls; values = vs }) in
    ap (λ (l : Value-F Value). if_some (if_some (items_in l) three_of) parts_of) (v.outs-List (v.Blob (bits ∷ []) ∷ v.List links ∷ v.List values ∷ []))
    ∙ ap (λ (l : Value-F Value). if_some (bytes_in l) (λ bytes. if_some (one_byte bytes) (λ b. if_some (items_in (out-Value (v.List links))) (λ ls. if_some (items_in (out-Value (v.List values))) (made b ls))))) (v.outs-Blob (bits ∷ []))
    ∙ ap (λ (l : Value-F Value). if_some (items_in l) (λ ls. if_some (items_in (out-Value (v.List values))) (made bits ls))) (v.outs-List links)
    ∙ ap (λ (l : Value-F Value). if_some (items_in l) (made bits links)) (v.outs-List values)

-- ---- a block that is there

pub block_there : (blocks : List BlockParts) (b : BlockParts) (value : Value) → found blocks b.cid ≡ Some b → Some value ≡ value_in b.bytes → block_value blocks b.cid ≡ Ok (b, value)
block_there blocks b value there read = rw (there, ← read)

pub same_again : (b : BlockParts) → same_block b b ≡ true
same_again b = (λ i. parts_equiv.refl b.cid i && pointwise nat_eq b.bytes b.bytes) ∙ nat_list_eq_equiv.refl b.bytes

pub judged_again : (height : ℕ) (ps : Pairs) → judged height (node_block height ps) ps ≡ Ok ps
judged_again height ps = ap (λ (t : Bool). cond t (Ok ps) (Err (NotCanonical (node_block height ps).cid (node_block height ps).cid))) (same_again (node_block height ps))

abbrev pub Found : List BlockParts → List BlockParts → Type 0
Found blocks = All (λ b. found blocks b.cid ≡ Some b)

child_again : (blocks : List BlockParts) (height place from : ℕ) (run : Pairs) → IsOneNode height place run → FitRoot run → found blocks (node_block height run).cid ≡ Some (node_block height run)
    → node_pairs blocks height (node_block height run).cid from (node height run) ≡ Ok run → child_pairs blocks height from (node_block height run).cid ≡ Ok run
child_again blocks height place from run one fit there again =
    let plain : IsPlain 128 (node height run) = one_deeper 127 (node height run) (node_plain height place run one fit) in
    block_gives blocks (node_block height run).cid (node_block height run) (node height run) (λ b value. if_ok (node_pairs blocks height (node_block height run).cid from value) (judged height b))
    (block_there blocks (node_block height run) (node height run) there (value_read (spelled (node height run)) (node height run) plain refl))
    ∙ ap (λ (r : Result Pairs TreeFault). if_ok r (judged height (node_block height run))) again ∙ judged_again height run

-- ---- the children of a node

abbrev slots : ℕ → List (ℕ × Pairs) → List (ℕ × CidParts)
slots height gs = map (λ g. (g.0, (node_block height g.1).cid)) gs

abbrev blocks_of_groups : ℕ → List (ℕ × Pairs) → List BlockParts
blocks_of_groups height gs = flat_map (λ g. nodes_under height g.1 ++ (node_block height g.1 ∷ [])) gs

children_again : (blocks : List BlockParts) (height place from : ℕ) → from ≡ place * 8 ^ suc (suc height)
    → ((place first : ℕ) (cid : CidParts) (ps : Pairs) → first ≡ place * 8 ^ suc height → IsOneNode height place ps → FitRoot ps → Found blocks (nodes_under height ps) → node_pairs blocks height cid first (node height ps) ≡ Ok ps)
    → (ps : Pairs) → IsOneNode (suc height) place ps → FitRoot ps → Found blocks (blocks_of_groups height (groups (suc height) ps)) → gathered (child_pairs blocks height) (8 ^ suc height) from (slots height (groups (suc height) ps)) ≡ Ok ps
children_again blocks height place from is again ps one = by_runs (suc height) place (λ qs. FitRoot qs → Found blocks (blocks_of_groups height (groups (suc height) qs)) → gather (groups (suc height) qs) ≡ Ok qs) nothing step ps one where
  gather : List (ℕ × Pairs) → Result Pairs TreeFault
  gather gs = gathered (child_pairs blocks height) (8 ^ suc height) from (slots height gs)

  nothing : FitRoot [] → Found blocks (blocks_of_groups height (groups (suc height) [])) → gather (groups (suc height) []) ≡ Ok []
  nothing fit there = ap gather (no_groups (suc height))

  step : (d : ℕ) (run behind : Pairs) → IsOneNode (suc height) place (run ++ behind) → 0 < length run → d < 8 → All (λ p. digit_at (suc height) p.0 ≡ d) run → All (λ p. digit_at (suc height) p.0 ≢ d) (take 1 behind)
      → (FitRoot behind → Found blocks (blocks_of_groups height (groups (suc height) behind)) → gather (groups (suc height) behind) ≡ Ok behind)
      → FitRoot (run ++ behind) → Found blocks (blocks_of_groups height (groups (suc height) (run ++ behind))) → gather (groups (suc height) (run ++ behind)) ≡ Ok (run ++ behind)
  step d run behind one some small has apart rest fit there =
      let split : groups (suc height) (run ++ behind) ≡ (d, run) ∷ groups (suc height) behind = first_group (suc height) place d run behind one some small has apart in
      let all : Found blocks ((nodes_under height run ++ (node_block height run ∷ [])) ++ blocks_of_groups height (groups (suc height) behind)) = subst (λ (gs : List (ℕ × Pairs)). Found blocks (blocks_of_groups height gs)) split there in
      let own : Found blocks (nodes_under height run ++ (node_block height run ∷ [])) = all_front (λ b. found blocks b.cid ≡ Some b) (nodes_under height run ++ (node_block height run ∷ [])) (blocks_of_groups height (groups (suc height) behind)) all in
      let others : Found blocks (blocks_of_groups height (groups (suc height) behind)) = all_behind (λ b. found blocks b.cid ≡ Some b) (nodes_under height run ++ (node_block height run ∷ [])) (blocks_of_groups height (groups (suc height) behind)) all in
      let under : Found blocks (nodes_under height run) = all_front (λ b. found blocks b.cid ≡ Some b) (nodes_under height run) (node_block height run ∷ []) own in
      let self : found blocks (node_block height run).cid ≡ Some (node_block height run) = All-head (λ b. found blocks b.cid ≡ Some b) (node_block height run) [] (all_behind (λ b. found blocks b.cid ≡ Some b) (nodes_under height run) (node_block height run ∷ []) own) in
      let fit_run : FitRoot run = all_front (λ p. (p.0 < 2 ^ 60) × IsPlain 125 p.1) run behind fit in
      let fit_behind : FitRoot behind = all_behind (λ p. (p.0 < 2 ^ 60) × IsPlain 125 p.1) run behind fit in
      let below : IsOneNode height (place * 8 + d) run = below_node height place d run behind one has in
      let first : from + d * 8 ^ suc height ≡ (place * 8 + d) * 8 ^ suc height = child_place height place from d is in
      let child : child_pairs blocks height (from + d * 8 ^ suc height) (node_block height run).cid ≡ Ok run =
      child_again blocks height (place * 8 + d) (from + d * 8 ^ suc height) run below fit_run self (again (place * 8 + d) (from + d * 8 ^ suc height) (node_block height run).cid run first below fit_run under) in
      ap gather split
      ∙ ap (λ (r : Result Pairs TreeFault). if_ok r (λ pairs. if_ok (gather (groups (suc height) behind)) (λ more. Ok (pairs ++ more)))) child
      ∙ ap (λ (r : Result Pairs TreeFault). if_ok r (λ more. Ok (run ++ more))) (rest fit_behind others)

-- ---- what stands at the digits

zip_maps : {G A B : Type 0} (f : G → A) (h : G → B) (gs : List G) → zip (map f gs) (map h gs) ≡ map (λ g. (f g, h g)) gs
zip_maps f h [] = refl
zip_maps f h (g ∷ gs) = ap (λ t. (f g, h g) ∷ t) (zip_maps f h gs)

links_read : (height : ℕ) (gs : List (ℕ × Pairs)) → for_each cid_of_link (map (λ g. v.Link (node_block height g.1).cid) gs) ≡ Some (map (λ g. (node_block height g.1).cid) gs)
links_read height [] = refl
links_read height (g ∷ gs) =
    let here : cid_of_link (v.Link (node_block height g.1).cid) ≡ Some (node_block height g.1).cid = ap link_in (v.outs-Link (node_block height g.1).cid) in
    ap (λ (o : Option CidParts). if_some o (λ c. if_some (for_each cid_of_link (map (λ g. v.Link (node_block height g.1).cid) gs)) (λ cs. Some (c ∷ cs)))) here
    ∙ ap (λ (o : Option (List CidParts)). if_some o (λ cs. Some ((node_block height g.1).cid ∷ cs))) (links_read height gs)

inner_again : (height : ℕ) (ps : Pairs) → inner_of (record { bits = bitmap (groups (suc height) ps); links = map (λ g. v.Link (node_block height g.1).cid) (groups (suc height) ps); values = [] }) ≡ Some (slots height (groups (suc height) ps))
inner_again height ps =
    let gs : List (ℕ × Pairs) = groups (suc height) ps in
    let bits : set_digits (bitmap gs) ≡ map (λ g. g.0) gs = bitmap_digits (suc height) ps in
    let count : length (map (λ g. (node_block height g.1).cid) gs) ≡ length (set_digits (bitmap gs)) = length-map gs (λ g. (node_block height g.1).cid) ∙ sym (length-map gs (λ g. g.0)) ∙ ap length (sym bits) in
    ap (λ (o : Option (List CidParts)). if_some o (by_digit (bitmap gs))) (links_read height gs)
    ∙ as_many (bitmap gs) (map (λ g. (node_block height g.1).cid) gs) count
    ∙ ap (λ (ds : List ℕ). Some (zip ds (map (λ g. (node_block height g.1).cid) gs))) bits
    ∙ ap Some (zip_maps (λ g. g.0) (λ g. (node_block height g.1).cid) gs)

leaf_again : (place : ℕ) (ps : Pairs) → IsOneNode 0 place ps → FitRoot ps → leaf_of (record { bits = bitmap (groups 0 ps); links = []; values = values_of_groups (groups 0 ps) }) ≡ Some (zip (map (λ p. digit_at 0 p.0) ps) (map (λ p. p.1) ps))
leaf_again place ps one fit =
    let gs : List (ℕ × Pairs) = groups 0 ps in
    let values : List Value = map (λ p. p.1) ps in
    let bits : set_digits (bitmap gs) ≡ map (λ p. digit_at 0 p.0) ps = bitmap_digits 0 ps ∙ leaf_digits place ps one in
    let plain : All (IsPlain 125) values = All-map (IsPlain 125) (λ p. p.1) ps (All-weaker (λ p. (p.0 < 2 ^ 60) × IsPlain 125 p.1) (λ p. IsPlain 125 p.1) (λ p h. h.1) ps fit) in
    let count : length values ≡ length (set_digits (bitmap gs)) = length-map ps (λ p. p.1) ∙ sym (length-map ps (λ p. digit_at 0 p.0)) ∙ ap length (sym bits) in
    ap (λ (vs : List Value). leaf_of (record { bits = bitmap gs; links = []; values = vs })) (leaf_values place ps one)
    ∙ ap (λ (t : Bool). cond t (by_digit (bitmap gs) values) None) (all_within 125 values plain)
    ∙ as_many (bitmap gs) values count
    ∙ ap (λ (ds : List ℕ). Some (zip ds values)) bits

-- ---- nodes

pub node_again : (blocks : List BlockParts) (height place from : ℕ) (cid : CidParts) (ps : Pairs) → from ≡ place * 8 ^ suc height → IsOneNode height place ps → FitRoot ps → Found blocks (nodes_under height ps)
    → node_pairs blocks height cid from (node height ps) ≡ Ok ps
unfolding node_pairs node nodes_under
node_again blocks zero place from cid ps is one fit there =
    let first : from ≡ place * 8 = is in
    ap (λ (o : Option NodeParts). leaf_pairs cid from (if_some o leaf_of)) (parts_of_node (bitmap (groups 0 ps)) [] (values_of_groups (groups 0 ps)))
    ∙ ap (leaf_pairs cid from) (leaf_again place ps one fit)
    ∙ ap (λ (f : ℕ). Ok (map (λ v. (f + v.0, v.1)) (zip (map (λ p. digit_at 0 p.0) ps) (map (λ p. p.1) ps)))) first
    ∙ ap Ok (leaf_indexes place ps one)
node_again blocks (suc height) place from cid ps is one fit there =
    let gs : List (ℕ × Pairs) = groups (suc height) ps in
    ap (λ (o : Option NodeParts). inner_pairs (child_pairs blocks height) (8 ^ suc height) cid from (if_some o inner_of)) (parts_of_node (bitmap gs) (map (λ g. v.Link (node_block height g.1).cid) gs) [])
    ∙ ap (inner_pairs (child_pairs blocks height) (8 ^ suc height) cid from) (inner_again height ps)
    ∙ children_again blocks height place from is (λ place first cid qs starts one fit there. node_again blocks height place first cid qs starts one fit there) ps one fit there
