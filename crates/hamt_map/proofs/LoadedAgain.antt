-- A tree whose nodes are all held is loaded as its map.
use Rattle.std.proofs.Common.{◌≡◌, ℕ, zero, suc, ◌-◌, Bool, true, false, cond, List, [], ◌∷◌, ◌++◌, length, map, Option, Some, None, Result, Ok, Err, All, refl, sym, ap, subst, ◌∙◌, arith}
use Rattle.std.proofs.lemmas.List.Elements.{All-head}
use Rattle.std.specs.Prelude.{T, nat_eq}
use Rattle.std.specs.List.{flat_map}
use Rattle.std.specs.FinMap.{entries, from_entries}
use Rattle.std.specs.Cmp.Lexicographic.{nat_list_eq_equiv, pointwise}
use Rattle.fil_base.specs.CidEquality.{parts_equiv, same_parts}
use Rattle.fil_base.specs.CidParts.{CidParts}
use Rattle.cid_core.specs.BlockParts.{BlockParts, found}
use Rattle.dag_cbor.proofs.Whole.{whole_again}
use Rattle.tree_blocks.specs.Judging.{if_ok, same_block}
use Rattle.tree_blocks.specs.declared.fault.TreeFault.{TreeFault}
use Rattle.tree_blocks.specs.declared.fault.TreeFault.TheVariants.{NotCanonical}
use Rattle.hamt_map.specs.Pairs.{Map, Pairs, at_place}
use Rattle.hamt_map.specs.Node.{is_small, node, node_block, nodes, places}
use Rattle.hamt_map.specs.Groups.{by_place, is_group, nodes_of, nodes_under}
use Rattle.hamt_map.specs.Loading.{gathered_map, walk_child}
use Rattle.hamt_map.specs.Walk.{Pointer, Bucket, Child, gathered, judged, node_in, walk}
use Rattle.hamt_map.proofs.Merging.{all_back, all_front}
use Rattle.hamt_map.proofs.FitNode.{Fits, fits_at, node_plain}
use Rattle.hamt_map.proofs.NodeParts.{nodes_are, some_test}
use Rattle.hamt_map.proofs.PlacedPairs.{entries_at, map_at, placed_again}
use Rattle.hamt_map.proofs.ReadAgain.{node_again, one_read, read_of, two_tests}
use Rattle.hamt_map.proofs.WalkSteps.{is_judged}

-- blocks hold a block under its CID
abbrev pub IsHeld : List BlockParts → BlockParts → Type 0
IsHeld blocks b = found blocks b.cid ≡ Some b

-- ---- the pairs of a group

-- the nodes under a node are loaded
abbrev pub ChildrenLoad : List BlockParts → ℕ → (CidParts → Result Map TreeFault) → Type 0
ChildrenLoad blocks zero child = Unit {0}
ChildrenLoad blocks (suc below) child = (n : Map) → Fits (entries n) → All (IsHeld blocks) (nodes below (entries n)) → child (node_block below (entries n)).cid ≡ Ok n

gather_one : (blocks : List BlockParts) (below : ℕ) (child : CidParts → Result Map TreeFault) (n : Map) (rest : List Pointer) (more : Pairs) → ChildrenLoad blocks below child → Fits (entries n)
    → All (IsHeld blocks) (nodes_of below (entries n)) → gathered child rest ≡ Ok more → gathered child (one_read below (entries n) ∷ rest) ≡ Ok (entries n ++ more)
unfolding nodes_of
gather_one blocks zero child n rest more load fits held is = ap (λ (r : Result Pairs TreeFault). if_ok r (λ rest. Ok (entries n ++ rest))) is
gather_one blocks (suc below) child n rest more load fits held is =
    elim (is_small (entries n)) as (λ t. All (IsHeld blocks) (cond t [] (nodes below (entries n))) → gathered child (cond t (Bucket (entries n)) (Child (node_block below (entries n)).cid) ∷ rest) ≡ Ok (entries n ++ more)) [
      | true ↦ λ held. ap (λ (r : Result Pairs TreeFault). if_ok r (λ rest. Ok (entries n ++ rest))) is
      | false ↦ λ held. ap (λ (r : Result Map TreeFault). if_ok r (λ m. if_ok (gathered child rest) (λ rest. Ok (entries m ++ rest)))) (load n fits held)
          ∙ ap (λ (r : Result Pairs TreeFault). if_ok r (λ rest. Ok (entries n ++ rest))) is
    ] held

no_group : (group : Pairs) → is_group group ≡ false → group ≡ []
no_group [] none = refl
no_group (p ∷ group) none = absurd (subst T (sym (some_test (length (p ∷ group)) (omega arith)) ∙ none) tt)

gather_group : (blocks : List BlockParts) (below : ℕ) (child : CidParts → Result Map TreeFault) (n : Map) (rest : List Pointer) (more : Pairs) → ChildrenLoad blocks below child → Fits (entries n)
    → All (IsHeld blocks) (nodes_of below (entries n)) → gathered child rest ≡ Ok more → gathered child (read_of below (entries n) ++ rest) ≡ Ok (entries n ++ more)
unfolding read_of
gather_group blocks below child n rest more load fits held is =
    elim (is_group (entries n)) as (λ t. is_group (entries n) ≡ t → gathered child (cond t (one_read below (entries n) ∷ []) [] ++ rest) ≡ Ok (entries n ++ more)) [
      | true ↦ λ some. gather_one blocks below child n rest more load fits held is
      | false ↦ λ none. is ∙ ap (λ (g : Pairs). Ok (g ++ more)) (sym (no_group (entries n) none))
    ] refl

gather_places : (blocks : List BlockParts) (below level : ℕ) (child : CidParts → Result Map TreeFault) (m : Map) → ChildrenLoad blocks below child → Fits (entries m) → (ks : List ℕ)
    → All (IsHeld blocks) (flat_map (nodes_of below) (map (λ k. at_place level k (entries m)) ks))
    → gathered child (flat_map (read_of below) (map (λ k. at_place level k (entries m)) ks)) ≡ Ok (flat_map (λ g. g) (map (λ k. at_place level k (entries m)) ks))
gather_places blocks below level child m load fits [] held = refl
gather_places blocks below level child m load fits (k ∷ ks) held =
    let groups = map (λ k. at_place level k (entries m)) ks in
    let here = all_front (IsHeld blocks) (nodes_of below (at_place level k (entries m))) (flat_map (nodes_of below) groups) held in
    let behind = all_back (IsHeld blocks) (nodes_of below (at_place level k (entries m))) (flat_map (nodes_of below) groups) held in
    let same = entries_at level k m in
    subst (λ (g : Pairs). gathered child (read_of below g ++ flat_map (read_of below) groups) ≡ Ok (g ++ flat_map (λ g. g) groups)) same
    (gather_group blocks below child (map_at level k m) (flat_map (read_of below) groups) (flat_map (λ g. g) groups) load (subst Fits (sym same) (fits_at level k (entries m) fits))
    (subst (λ (g : Pairs). All (IsHeld blocks) (nodes_of below g)) (sym same) here) (gather_places blocks below level child m load fits ks behind))

-- ---- a node

node_read : (below : ℕ) (pairs : Pairs) → Fits pairs → node_in below (node_block below pairs).bytes ≡ Some (flat_map (read_of below) (by_place (51 - below) pairs))
node_read below pairs fits = rw (whole_again (node below pairs) (node_plain below pairs fits)) (node_again below pairs)

pub judged_itself : (below : ℕ) (m : Map) → judged below (node_block below (entries m)) m ≡ Ok m
judged_itself below m =
    let b = node_block below (entries m) in
    ap (λ t. cond t (Ok m) (Err (NotCanonical b.cid b.cid))) (two_tests (same_parts b.cid b.cid) (pointwise nat_eq b.bytes b.bytes) (parts_equiv.refl b.cid) (nat_list_eq_equiv.refl b.bytes))

load_node : (blocks : List BlockParts) (below : ℕ) (m : Map) → ChildrenLoad blocks below (walk_child blocks below) → Fits (entries m) → All (IsHeld blocks) (nodes below (entries m))
    → walk blocks below (node_block below (entries m)).cid ≡ Ok m
unfolding nodes_under
load_node blocks below m load fits held =
    let pairs = entries m in
    let b = node_block below pairs in
    let all = subst (All (IsHeld blocks)) (nodes_are below pairs) held in
    let here : found blocks b.cid ≡ Some b = All-head (IsHeld blocks) b [] (all_back (IsHeld blocks) (nodes_under below pairs) (b ∷ []) all) in
    let under = all_front (IsHeld blocks) (nodes_under below pairs) (b ∷ []) all in
    let gather = gather_places blocks below (51 - below) (walk_child blocks below) m load fits places under in
    is_judged blocks below b.cid b (flat_map (read_of below) (by_place (51 - below) pairs)) (record { block = sym here; pointers = node_read below pairs fits })
    ∙ ap (λ (r : Result Pairs TreeFault). if_ok (if_ok r (λ pairs. Ok (from_entries pairs))) (judged below b)) gather
    ∙ ap (judged below b) (placed_again (51 - below) m)
    ∙ judged_itself below m

pub loaded_again : (blocks : List BlockParts) (below : ℕ) (m : Map) → Fits (entries m) → All (IsHeld blocks) (nodes below (entries m)) → walk blocks below (node_block below (entries m)).cid ≡ Ok m
loaded_again blocks zero m fits held = load_node blocks zero m tt fits held
loaded_again blocks (suc below) m fits held = load_node blocks (suc below) m (λ n fits held. loaded_again blocks below n fits held) fits held
