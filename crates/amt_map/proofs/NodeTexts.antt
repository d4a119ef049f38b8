-- The bytes of nodes are the spellings of the nodes that pairs define.
use Rattle.std.proofs.Common.{◌≡◌, ℕ, zero, suc, ◌^◌, true, false, cond, eqb, ◌&&◌, List, [], ◌∷◌, ◌++◌, length, map, sum, pos, refl, sym, ap, ◌∙◌}
use Rattle.std.proofs.lemmas.List.{append-nil, length-map, map-append}
use Rattle.std.proofs.lemmas.List.Elements.{All-append, All-nil, All-push}
use Rattle.std.specs.Prelude.{All, nat_lt}
use Rattle.std.specs.FinMap.{entries}
use Rattle.tree_blocks.specs.NewBlocks.{IsNodeBlock}
use Rattle.std.specs.List.{flat_map, list_all}
use Rattle.cid_core.specs.BlockParts.{BlockParts, block_of}
use Rattle.dag_cbor.specs.Spelling.{head, joined, spelled}
use Rattle.dag_cbor.specs.declared.value.Value.{Value}
use Rattle.dag_cbor.specs.declared.value.Value.TheVariants as v
use Rattle.dag_cbor.proofs.Equations.{spelled-Blob, spelled-List, spelled-pos}
use Rattle.amt_map.specs.Holds.{Holds, spellings}
use Rattle.amt_map.specs.Node.{amt_nodes, bitmap, digits, groups, height_of, height_within, node, node_block, node_of, nodes_under, root_block, root_of}
use Rattle.amt_map.specs.NodeText.{Spellings, blocks_under, link_text, links_of, node_text, root_text, text_at, values_of}
use Rattle.amt_map.specs.Pairs.{Map, Pairs, digit_at, with_digit}
use Rattle.amt_map.proofs.Grouping.{numbered}

-- ---- groups

with_digit_spelled : (height k : ℕ) (ps : Pairs) → with_digit height k (spellings ps) ≡ spellings (with_digit height k ps)
with_digit_spelled height k [] = refl
with_digit_spelled height k (p ∷ ps) =
    elim (eqb (digit_at height p.0) k) as (λ b. cond b ((p.0, spelled p.1) ∷ with_digit height k (spellings ps)) (with_digit height k (spellings ps)) ≡ spellings (cond b (p ∷ with_digit height k ps) (with_digit height k ps))) [
      | true ↦ ap (λ (ss : Spellings). (p.0, spelled p.1) ∷ ss) (with_digit_spelled height k ps)
      | false ↦ with_digit_spelled height k ps
    ]

-- a group with its values spelled
abbrev pub group_spelled : ℕ × Pairs → ℕ × Spellings
group_spelled g = (g.0, spellings g.1)

numbered_spelled : (F : ℕ → Spellings) (G : ℕ → Pairs) → ((k : ℕ) → F k ≡ spellings (G k)) → (ks : List ℕ) → numbered F ks ≡ map group_spelled (numbered G ks)
numbered_spelled F G same [] = refl
numbered_spelled F G same (k ∷ ks) =
    let rest = numbered_spelled F G same ks in
    let size : length (F k) ≡ length (G k) = ap (λ (ss : Spellings). length ss) (same k) ∙ length-map {B = ℕ × List ℕ} (G k) (λ p. (p.0, spelled p.1)) in
    (λ i. cond (nat_lt 0 (size i)) ((k, same k i) ∷ rest i) (rest i))
    ∙ elim (nat_lt 0 (length (G k))) as (λ b. cond b ((k, spellings (G k)) ∷ map group_spelled (numbered G ks)) (map group_spelled (numbered G ks)) ≡ map group_spelled (cond b ((k, G k) ∷ numbered G ks) (numbered G ks))) [ true ↦ refl | false ↦ refl ]

groups_spelled : (height : ℕ) (ps : Pairs) → groups height (spellings ps) ≡ map group_spelled (groups height ps)
unfolding groups
groups_spelled height ps = numbered_spelled (λ k. with_digit height k (spellings ps)) (λ k. with_digit height k ps) (λ k. with_digit_spelled height k ps) digits

bits_spelled : (gs : List (ℕ × Pairs)) → map (λ (g : ℕ × Spellings). 2 ^ g.0) (map group_spelled gs) ≡ map (λ (g : ℕ × Pairs). 2 ^ g.0) gs
bits_spelled [] = refl
bits_spelled (g ∷ gs) = ap (λ (bs : List ℕ). 2 ^ g.0 ∷ bs) (bits_spelled gs)

bitmap_spelled : (height : ℕ) (ps : Pairs) → bitmap (groups height (spellings ps)) ≡ bitmap (groups height ps)
bitmap_spelled height ps = ap (λ (gs : List (ℕ × Spellings)). bitmap gs) (groups_spelled height ps) ∙ ap (λ (bs : List ℕ). sum bs) (bits_spelled (groups height ps))

-- ---- nodes

node_spelled : (bits : ℕ) (links values : List Value) → spelled (node_of bits links values) ≡ node_text bits (map spelled links) (map spelled values)
node_spelled bits links values =
    spelled-List (v.Blob (bits ∷ []) ∷ v.List links ∷ v.List values ∷ [])
    ∙ (λ i. head 4 3 ++ (spelled-Blob (bits ∷ []) i ++ (spelled-List links i ++ (spelled-List values i ++ []))))
    ∙ (λ i. head 4 3 ++ ((head 2 1 ++ (bits ∷ [])) ++ ((head 4 (sym (length-map links spelled) i) ++ joined (map spelled links)) ++ append-nil (head 4 (sym (length-map values spelled) i) ++ joined (map spelled values)) i)))

values_spelled : (ps : Pairs) → map (λ (s : ℕ × List ℕ). s.1) (spellings ps) ≡ map spelled (map (λ (p : ℕ × Value). p.1) ps)
values_spelled [] = refl
values_spelled (p ∷ ps) = ap (λ (ts : List (List ℕ)). spelled p.1 ∷ ts) (values_spelled ps)

all_values : (gs : List (ℕ × Pairs)) → flat_map values_of (map group_spelled gs) ≡ map spelled (flat_map (λ (g : ℕ × Pairs). map (λ p. p.1) g.1) gs)
all_values [] = refl
all_values (g ∷ gs) = (λ i. values_spelled g.1 i ++ all_values gs i) ∙ sym (map-append spelled (map (λ p. p.1) g.1) (flat_map (λ (h : ℕ × Pairs). map (λ p. p.1) h.1) gs))

all_links : (height : ℕ) → ((ps : Pairs) → text_at height (spellings ps) ≡ spelled (node height ps)) → (gs : List (ℕ × Pairs))
    → flat_map (links_of height) (map group_spelled gs) ≡ map spelled (map (λ (g : ℕ × Pairs). v.Link (block_of 0x71 (spelled (node height g.1))).cid) gs)
all_links height same [] = refl
all_links height same (g ∷ gs) = λ i. link_text (same g.1 i) ∷ all_links height same gs i

pub text_is : (height : ℕ) (ps : Pairs) → text_at height (spellings ps) ≡ spelled (node height ps)
unfolding text_at node
text_is zero ps =
    (λ i. node_text (bitmap_spelled 0 ps i) [] (flat_map values_of (groups_spelled 0 ps i)))
    ∙ ap (λ (ts : List (List ℕ)). node_text (bitmap (groups 0 ps)) [] ts) (all_values (groups 0 ps))
    ∙ sym (node_spelled (bitmap (groups 0 ps)) [] (flat_map (λ (g : ℕ × Pairs). map (λ p. p.1) g.1) (groups 0 ps)))
text_is (suc height) ps =
    (λ i. node_text (bitmap_spelled (suc height) ps i) (flat_map (links_of height) (groups_spelled (suc height) ps i)) [])
    ∙ ap (λ (ts : List (List ℕ)). node_text (bitmap (groups (suc height) ps)) ts []) (all_links height (text_is height) (groups (suc height) ps))
    ∙ sym (node_spelled (bitmap (groups (suc height) ps)) (map (λ (g : ℕ × Pairs). v.Link (block_of 0x71 (spelled (node height g.1))).cid) (groups (suc height) ps)) [])

-- ---- blocks

all_blocks : (height : ℕ) → ((ps : Pairs) → blocks_under height (spellings ps) ≡ nodes_under height ps) → (gs : List (ℕ × Pairs))
    → flat_map (λ (g : ℕ × Spellings). blocks_under height g.1 ++ (block_of 0x71 (text_at height g.1) ∷ [])) (map group_spelled gs)
    ≡ flat_map (λ (g : ℕ × Pairs). nodes_under height g.1 ++ (node_block height g.1 ∷ [])) gs
all_blocks height same [] = refl
all_blocks height same (g ∷ gs) = λ i. (same g.1 i ++ (block_of 0x71 (text_is height g.1 i) ∷ [])) ++ all_blocks height same gs i

pub blocks_are : (height : ℕ) (ps : Pairs) → blocks_under height (spellings ps) ≡ nodes_under height ps
unfolding blocks_under nodes_under
blocks_are zero ps = refl
blocks_are (suc height) ps =
    ap (flat_map (λ (g : ℕ × Spellings). blocks_under height g.1 ++ (block_of 0x71 (text_at height g.1) ∷ []))) (groups_spelled (suc height) ps)
    ∙ all_blocks height (blocks_are height) (groups (suc height) ps)

-- ---- roots

all_below : (b : ℕ) (ps : Pairs) → list_all (λ (s : ℕ × List ℕ). nat_lt s.0 b) (spellings ps) ≡ list_all (λ (p : ℕ × Value). nat_lt p.0 b) ps
all_below b [] = refl
all_below b (p ∷ ps) = ap (λ t. nat_lt p.0 b && t) (all_below b ps)

height_within_spelled : (n : ℕ) (ps : Pairs) → height_within n (spellings ps) ≡ height_within n ps
height_within_spelled zero ps = refl
height_within_spelled (suc n) ps = λ i. cond (all_below (8 ^ suc n) ps i) (height_within_spelled n ps i) (suc n)

pub height_spelled : (ps : Pairs) → height_of (spellings ps) ≡ height_of ps
unfolding height_of
height_spelled ps = height_within_spelled 19 ps

pub root_is : (ps : Pairs) → root_text (spellings ps) ≡ spelled (root_of ps)
unfolding root_text
root_is ps =
    let height : ℕ = height_of ps in
    (λ i. head 4 3 ++ (head 0 (height_spelled ps i) ++ (head 0 (length-map {B = ℕ × List ℕ} ps (λ p. (p.0, spelled p.1)) i) ++ text_at (height_spelled ps i) (spellings ps))))
    ∙ ap (λ (t : List ℕ). head 4 3 ++ (head 0 height ++ (head 0 (length ps) ++ t))) (text_is height ps ∙ sym (append-nil (spelled (node height ps))))
    ∙ sym (spelled-List (v.Int (pos height) ∷ v.Int (pos (length ps)) ∷ node height ps ∷ [])
    ∙ (λ i. head 4 3 ++ (spelled-pos height i ++ (spelled-pos (length ps) i ++ (spelled (node height ps) ++ [])))))

-- ---- the tree of a map

pub root_block_is : (ss : Spellings) (m : Map) → Holds ss m → block_of 0x71 (root_text ss) ≡ root_block (entries m)
root_block_is ss m held = ap (block_of 0x71) (ap root_text held.same ∙ root_is (entries m))

pub tree_is : (ss : Spellings) (m : Map) → Holds ss m → blocks_under (height_of ss) ss ++ (block_of 0x71 (root_text ss) ∷ []) ≡ amt_nodes m
tree_is ss m held =
    let under : blocks_under (height_of ss) ss ≡ nodes_under (height_of (entries m)) (entries m) =
    ap (λ (s : Spellings). blocks_under (height_of s) s) held.same ∙ ap (λ (h : ℕ). blocks_under h (spellings (entries m))) (height_spelled (entries m)) ∙ blocks_are (height_of (entries m)) (entries m) in
    λ i. under i ++ (root_block_is ss m held i ∷ [])

all_flat : (f : ℕ × Spellings → List BlockParts) → ((g : ℕ × Spellings) → All IsNodeBlock (f g)) → (gs : List (ℕ × Spellings)) → All IsNodeBlock (flat_map f gs)
all_flat f each [] = All-nil IsNodeBlock
all_flat f each (g ∷ gs) = All-append IsNodeBlock (f g) (flat_map f gs) (each g) (all_flat f each gs)

under_own : (height : ℕ) (ss : Spellings) → All IsNodeBlock (blocks_under height ss)
unfolding blocks_under
under_own zero ss = All-nil IsNodeBlock
under_own (suc height) ss =
    all_flat (λ g. blocks_under height g.1 ++ (block_of 0x71 (text_at height g.1) ∷ []))
    (λ g. All-push IsNodeBlock (blocks_under height g.1) (block_of 0x71 (text_at height g.1)) (under_own height g.1) (record { cid = refl })) (groups (suc height) ss)

pub tree_own : (ss : Spellings) → All IsNodeBlock (blocks_under (height_of ss) ss ++ (block_of 0x71 (root_text ss) ∷ []))
tree_own ss = All-push IsNodeBlock (blocks_under (height_of ss) ss) (block_of 0x71 (root_text ss)) (under_own (height_of ss) ss) (record { cid = refl })
