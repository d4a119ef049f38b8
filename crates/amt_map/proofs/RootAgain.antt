-- The root that flushing gives loads as the map.
use Rattle.std.proofs.Common.{◌≡◌, ℕ, zero, suc, ◌+◌, ◌-◌, ◌*◌, ◌/◌, ◌^◌, ◌<◌, ◌≤◌, ◌&&◌, Bool, true, false, cond, List, [], ◌∷◌, ◌++◌, length, pos, Option, Some, None, Ok, Err, Result, All, T, refl, sym, ap, subst, ◌∙◌, arith}
use Rattle.std.proofs.lemmas.Bool.{le-leb}
use Rattle.std.proofs.lemmas.Cmp.{nat_cmp_total}
use Rattle.std.proofs.lemmas.List.Elements.{All-head, All-tail, All-weaker}
use Rattle.std.specs.List.{list_all}
use Rattle.std.specs.Prelude.{nat_le, nat_lt}
use Rattle.std.specs.Ordering.{nat_cmp}
use Rattle.std.specs.FinMap.{entries, entries_sorted, from_entries, get-entries, get-from_entries, same_map, nat_cmp-IsAntisymmetric}
use Rattle.std.specs.FinMap.Entries.{is_sorted, below_all}
use Rattle.fil_base.specs.CidParts.{CidParts}
use Rattle.cid_core.specs.BlockParts.{BlockParts, found}
use Rattle.dag_cbor.specs.Plain.{IsPlain}
use Rattle.dag_cbor.specs.Spelling.{spelled}
use Rattle.dag_cbor.specs.declared.value.Value.{Value, Value-F, out-Value}
use Rattle.dag_cbor.specs.declared.value.Value.TheVariants as v
use Rattle.tree_blocks.specs.Forms.{if_some, items_in}
use Rattle.tree_blocks.specs.Judging.{if_ok}
use Rattle.tree_blocks.specs.declared.fault.TreeFault.{TreeFault}
use Rattle.tree_blocks.specs.declared.fault.TreeFault.TheVariants.{NotCanonical}
use Rattle.amt_map.specs.Holds.{FitRoot}
use Rattle.amt_map.specs.Node.{amt_nodes, amt_root, height_of, height_within, node, nodes_under, root_block, root_of}
use Rattle.amt_map.specs.OneNode.{IsOneNode}
use Rattle.amt_map.specs.Pairs.{Map, Pairs}
use Rattle.amt_map.specs.Walk.{Three, amt_at, judged_root, number_in, root_pairs, root_parts, three_of}
use Rattle.amt_map.proofs.Heights.{node_at_height}
use Rattle.amt_map.proofs.NodeAgain.{Found, block_there, node_again, same_again}
use Rattle.amt_map.proofs.NodeForm.{value_read}
use Rattle.amt_map.proofs.NodePlaces.{after, all_behind, all_front}
use Rattle.amt_map.proofs.PlainNode.{node_plain, plain_three}
use Rattle.amt_map.proofs.Spellings.{both_first, both_second}
use Rattle.amt_map.proofs.WalkSteps.{block_gives}
use Rattle.amt_map.proofs.Writing.{plain_number}

-- ---- the parts of a root

root_read : (height count : ℕ) (x : Value) → height ≤ 19 → root_parts (v.List (v.Int (pos height) ∷ v.Int (pos count) ∷ x ∷ [])) ≡ Some (height, x)
root_read height count x low =
    let last : ℕ → Value → Option (ℕ × Value) = λ h y. cond (nat_le h 19) (Some (h, y)) None in
    let items : List Value = v.Int (pos height) ∷ v.Int (pos count) ∷ x ∷ [] in
    ap (λ (l : Value-F Value). if_some (if_some (items_in l) three_of) (λ three. if_some (number_in (out-Value three.first)) (λ h. if_some (number_in (out-Value three.second)) (λ c. last h three.third)))) (v.outs-List items)
    ∙ ap (λ (l : Value-F Value). if_some (number_in l) (λ h. if_some (number_in (out-Value (v.Int (pos count)))) (λ c. last h x))) (v.outs-Int (pos height))
    ∙ ap (λ (l : Value-F Value). if_some (number_in l) (λ c. last height x)) (v.outs-Int (pos count))
    ∙ ap (λ (t : Bool). cond t (Some (height, x)) None) (le-leb height 19 low)

-- ---- the pairs of a map

few_between : (low top : ℕ) (es : Pairs) → T (is_sorted nat_cmp es) → All (λ p. low ≤ p.0) es → All (λ p. p.0 < top) es → length es ≤ top - low
few_between low top [] rise above below = omega arith
few_between low top (e ∷ es) rise above below =
    let here : low ≤ e.0 = All-head (λ p. low ≤ p.0) e es above in
    let under : e.0 < top = All-head (λ p. p.0 < top) e es below in
    let next : All (λ p. e.0 + 1 ≤ p.0) es = All-weaker (λ p. e.0 < p.0) (λ p. e.0 + 1 ≤ p.0) (λ p lt. omega (arith, lt)) es (after e.0 es (both_first (below_all nat_cmp e.0 es) _ rise)) in
    let rest : length es ≤ top - (e.0 + 1) = few_between (e.0 + 1) top es (both_second (below_all nat_cmp e.0 es) _ rise) next (All-tail (λ p. p.0 < top) e es below) in
    omega (arith, here, under, rest)

few_pairs : (es : Pairs) → T (is_sorted nat_cmp es) → FitRoot es → length es < 2 ^ 64
few_pairs es rise fit =
    let few : length es ≤ 2 ^ 60 - 0 = few_between 0 (2 ^ 60) es rise (λ k d within. omega arith) (All-weaker (λ p. (p.0 < 2 ^ 60) × IsPlain 125 p.1) (λ p. p.0 < 2 ^ 60) (λ p h. h.0) es fit) in
    omega (arith, few)

within_top : (n : ℕ) → n < 2 ^ 60 → n / 8 ^ 20 ≡ 0
within_top n less = omega (arith, less)

whole_map : (m : Map) → FitRoot (entries m) → IsOneNode 19 0 (entries m)
whole_map m fit =
    record { within = All-weaker (λ p. (p.0 < 2 ^ 60) × IsPlain 125 p.1) (λ p. p.0 / 8 ^ 20 ≡ 0) (λ p h. within_top p.0 h.0) (entries m) fit; rising = entries_sorted m }

height_low : (n : ℕ) (es : Pairs) → height_within n es ≤ n
height_low zero es = omega arith
height_low (suc n) es =
    let rest : height_within n es ≤ n = height_low n es in
    elim (list_all (λ (p : ℕ × Value). nat_lt p.0 (8 ^ suc n)) es) as (λ t. cond t (height_within n es) (suc n) ≤ suc n) [ true ↦ omega (arith, rest) | false ↦ omega arith ]

tree_low : (es : Pairs) → height_of es ≤ 19
unfolding height_of
tree_low es = height_low 19 es

entries_again : (m : Map) → from_entries (entries m) ≡ m
entries_again m = same_map nat_cmp_total nat_cmp-IsAntisymmetric (from_entries (entries m)) m (λ q. get-from_entries nat_cmp_total (entries m) q ∙ sym (get-entries m q))

-- ---- the root

pub root_again : (m : Map) → judged_root (root_block (entries m)) m ≡ Ok m
root_again m = ap (λ (t : Bool). cond t (Ok m) (Err (NotCanonical (root_block (entries m)).cid (root_block (entries m)).cid))) (same_again (root_block (entries m)))

pub map_again : (m : Map) (blocks : List BlockParts) → FitRoot (entries m) → Found blocks (amt_nodes m) → amt_at blocks (amt_root m) ≡ Ok m
map_again m blocks fit there =
    let es : Pairs = entries m in
    let height : ℕ = height_of es in
    let root : CidParts = amt_root m in
    let one : IsOneNode height 0 es = node_at_height es (whole_map m fit) in
    let low : height ≤ 19 = tree_low es in
    let plain : IsPlain 128 (root_of es) =
    plain_three 127 (v.Int (pos height)) (v.Int (pos (length es))) (node height es) (plain_number 126 height (omega (arith, low))) (plain_number 126 (length es) (few_pairs es (entries_sorted m) fit)) (node_plain height 0 es one fit) in
    let under : Found blocks (nodes_under height es) = all_front (λ b. found blocks b.cid ≡ Some b) (nodes_under height es) (root_block es ∷ []) there in
    let self : found blocks root ≡ Some (root_block es) = All-head (λ b. found blocks b.cid ≡ Some b) (root_block es) [] (all_behind (λ b. found blocks b.cid ≡ Some b) (nodes_under height es) (root_block es ∷ []) there) in
    block_gives blocks root (root_block es) (root_of es) (λ b value. if_ok (root_pairs blocks root (root_parts value)) (λ pairs. judged_root b (from_entries pairs)))
    (block_there blocks (root_block es) (root_of es) self (value_read (spelled (root_of es)) (root_of es) plain refl))
    ∙ ap (λ (o : Option (ℕ × Value)). if_ok (root_pairs blocks root o) (λ pairs. judged_root (root_block es) (from_entries pairs))) (root_read height (length es) (node height es) low)
    ∙ ap (λ (r : Result Pairs TreeFault). if_ok r (λ pairs. judged_root (root_block es) (from_entries pairs))) (node_again blocks height 0 0 root es (omega arith) one fit under)
    ∙ ap (judged_root (root_block es)) (entries_again m) ∙ root_again m
