-- Nodes are plain.
use Rattle.std.proofs.Common.{◌≡◌, ℕ, zero, suc, ◌+◌, ◌*◌, ◌/◌, ◌%◌, ◌^◌, ◌<◌, ◌≤◌, List, [], ◌∷◌, ◌++◌, length, map, zip, All, refl, sym, ap, subst, ◌∙◌, arith}
use Rattle.std.proofs.lemmas.List.{length-map}
use Rattle.std.proofs.lemmas.List.Elements.{All-head, All-tail, All-map, All-weaker, recursion_from_All}
use Rattle.std.specs.List.{AllByRecursion, flat_map}
use Rattle.cid_core.specs.BlockParts.{block_of}
use Rattle.cid_core.proofs.Digests.{IsCid-cid_of}
use Rattle.dag_cbor.specs.Plain.{IsPlain}
use Rattle.dag_cbor.specs.Spelling.{spelled}
use Rattle.dag_cbor.specs.declared.value.Value.{Value}
use Rattle.dag_cbor.specs.declared.value.Value.TheVariants as v
use Rattle.dag_cbor.proofs.Equations.{IsPlain-Blob, IsPlain-List}
use Rattle.amt_map.specs.Holds.{FitRoot}
use Rattle.amt_map.specs.Node.{bitmap, groups, node, node_of}
use Rattle.amt_map.specs.OneNode.{IsOneNode}
use Rattle.amt_map.specs.Pairs.{Pairs, digit_at}
use Rattle.amt_map.proofs.Grouping.{few_groups, first_pair, no_groups}
use Rattle.amt_map.proofs.NodePlaces.{under_node}
use Rattle.amt_map.proofs.Writing.{plain_link}

plain_list : (d : ℕ) (items : List Value) → length items < 2 ^ 64 → AllByRecursion (IsPlain d) items → IsPlain (suc d) (v.List items)
plain_list d items small all = subst (λ (P : Type 0). P) (sym (IsPlain-List d items)) (small, all)

plain_blob : (d : ℕ) (bytes : List ℕ) → length bytes < 2 ^ 64 → IsPlain (suc d) (v.Blob bytes)
plain_blob d bytes small = subst (λ (P : Type 0). P) (sym (IsPlain-Blob d bytes)) small

pub plain_three : (d : ℕ) (x y z : Value) → IsPlain d x → IsPlain d y → IsPlain d z → IsPlain (suc d) (v.List (x ∷ y ∷ z ∷ []))
plain_three d x y z px py pz = plain_list d (x ∷ y ∷ z ∷ []) (omega arith) (px, (py, (pz, tt)))

plain_node : (bits : ℕ) (links values : List Value) → length links ≤ 8 → length values ≤ 8 → All (IsPlain 125) links → All (IsPlain 125) values → IsPlain 127 (node_of bits links values)
plain_node bits links values few_links few_values all_links all_values =
    plain_three 126 (v.Blob (bits ∷ [])) (v.List links) (v.List values) (plain_blob 125 (bits ∷ []) (omega arith)) (plain_list 125 links (omega (arith, few_links)) (recursion_from_All (IsPlain 125) links all_links))
    (plain_list 125 values (omega (arith, few_values)) (recursion_from_All (IsPlain 125) values all_values))

-- ---- the values of a leaf

abbrev pub values_of_groups : List (ℕ × Pairs) → List Value
values_of_groups gs = flat_map (λ g. map (λ p. p.1) g.1) gs

rest_one : (place : ℕ) (p : ℕ × Value) (ps : Pairs) → IsOneNode 0 place (p ∷ ps) → IsOneNode 0 place ps
rest_one place p ps one = under_node 0 place (p ∷ []) ps one

pub leaf_values : (place : ℕ) (ps : Pairs) → IsOneNode 0 place ps → values_of_groups (groups 0 ps) ≡ map (λ p. p.1) ps
leaf_values place [] one = ap values_of_groups (no_groups 0)
leaf_values place (p ∷ ps) one = ap values_of_groups (first_pair place p ps one) ∙ ap (λ (xs : List Value). p.1 ∷ xs) (leaf_values place ps (rest_one place p ps one))

pub leaf_digits : (place : ℕ) (ps : Pairs) → IsOneNode 0 place ps → map (λ g. g.0) (groups 0 ps) ≡ map (λ p. digit_at 0 p.0) ps
leaf_digits place [] one = ap (map (λ g. g.0)) (no_groups 0)
leaf_digits place (p ∷ ps) one = ap (map (λ g. g.0)) (first_pair place p ps one) ∙ ap (λ (ds : List ℕ). digit_at 0 p.0 ∷ ds) (leaf_digits place ps (rest_one place p ps one))

pub leaf_indexes : (place : ℕ) (ps : Pairs) → IsOneNode 0 place ps → map (λ v. (place * 8 + v.0, v.1)) (zip (map (λ p. digit_at 0 p.0) ps) (map (λ p. p.1) ps)) ≡ ps
leaf_indexes place [] one = refl
leaf_indexes place (p ∷ ps) one =
    let here : p.0 / 8 ≡ place = All-head (λ q. q.0 / 8 ^ suc 0 ≡ place) p ps one.within in
    let index : place * 8 + p.0 / 1 % 8 ≡ p.0 = omega (arith, here) in
    λ i. (index i, p.1) ∷ leaf_indexes place ps (rest_one place p ps one) i

few_leaf : (place : ℕ) (ps : Pairs) → IsOneNode 0 place ps → length ps ≤ 8
few_leaf place ps one =
    let same : length (groups 0 ps) ≡ length ps = sym (length-map (groups 0 ps) (λ g. g.0)) ∙ ap length (leaf_digits place ps one) ∙ length-map ps (λ p. digit_at 0 p.0) in
    let few : length (groups 0 ps) ≤ 8 = few_groups 0 ps in
    omega (arith, same, few)

-- ---- nodes

pub node_plain : (height place : ℕ) (ps : Pairs) → IsOneNode height place ps → FitRoot ps → IsPlain 127 (node height ps)
unfolding node
node_plain zero place ps one fit =
    let values : List Value = map (λ p. p.1) ps in
    subst (λ (vs : List Value). IsPlain 127 (node_of (bitmap (groups 0 ps)) [] vs)) (sym (leaf_values place ps one))
    (plain_node (bitmap (groups 0 ps)) [] values (omega arith) (let same : length values ≡ length ps = length-map ps (λ p. p.1) in let few : length ps ≤ 8 = few_leaf place ps one in omega (arith, same, few))
    (λ k d within. absurd (omega (arith, within))) (All-map (IsPlain 125) (λ p. p.1) ps (All-weaker (λ p. (p.0 < 2 ^ 60) × IsPlain 125 p.1) (λ p. IsPlain 125 p.1) (λ p h. h.1) ps fit)))
node_plain (suc height) place ps one fit =
    let link : ℕ × Pairs → Value = λ g. v.Link (block_of 0x71 (spelled (node height g.1))).cid in
    plain_node (bitmap (groups (suc height) ps)) (map link (groups (suc height) ps)) []
    (let same : length (map link (groups (suc height) ps)) ≡ length (groups (suc height) ps) = length-map (groups (suc height) ps) link in let few : length (groups (suc height) ps) ≤ 8 = few_groups (suc height) ps in omega (arith, same, few))
    (omega arith)
    (All-map (IsPlain 125) link (groups (suc height) ps) (λ k d within. plain_link 124 _ (IsCid-cid_of 0x71 _ (omega arith)))) (λ k d within. absurd (omega (arith, within)))
