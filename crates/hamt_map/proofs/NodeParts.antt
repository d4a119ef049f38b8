-- A node by its parts, as the code builds it.
use Rattle.std.proofs.Common.{◌≡◌, ℕ, zero, suc, ◌+◌, ◌-◌, ◌^◌, ◌<◌, ◌≤◌, ◌⊎◌, inl, inr, true, false, cond, List, [], ◌∷◌, ◌++◌, length, map, sum, refl, sym, ap, ◌∙◌, arith, rules}
use Rattle.std.proofs.lemmas.List.Sums.{sum_by-cons}
use Rattle.std.specs.List.{flat_map, filter, range_with_len}
use Rattle.std.specs.Prelude.{nat_le, nat_lt}
use Rattle.std.specs.Int.Digits.{digits_of}
use Rattle.cid_core.specs.BlockParts.{BlockParts}
use Rattle.dag_cbor.specs.declared.value.Value.{Value}
use Rattle.dag_cbor.specs.declared.value.Value.TheVariants as v
use Rattle.hamt_map.specs.Pairs.{Pairs, at_place}
use Rattle.hamt_map.specs.Node.{bitfield, bucket, groups, is_small, node, node_block, node_with, nodes, places}
use Rattle.hamt_map.specs.Groups.{bits_from, by_place, is_group, nodes_of, nodes_under, pointer_to, pointers_of}
use Rattle.hamt_map.specs.Canonical.{node_of}

-- ---- one group

pub no_pointer : (below : ℕ) (group : Pairs) → length group ≡ 0 → pointers_of below group ≡ []
unfolding pointers_of
no_pointer below [] none = refl
no_pointer below (p ∷ group) none = absurd (omega arith)

pub no_nodes : (below : ℕ) (group : Pairs) → length group ≡ 0 → nodes_of below group ≡ []
unfolding nodes_of
no_nodes zero group none = refl
no_nodes (suc below) [] none = refl
no_nodes (suc below) (p ∷ group) none = absurd (omega arith)

pub some_test : (n : ℕ) → 0 < n → nat_lt 0 n ≡ true
some_test n some = search rules

pub one_pointer : (below : ℕ) (group : Pairs) → 0 < length group → pointers_of below group ≡ pointer_to below group ∷ []
unfolding pointers_of
one_pointer below group some = ap (λ b. cond b (pointer_to below group ∷ []) []) (some_test (length group) some)

small_test : (n : ℕ) → n ≤ 3 → nat_le n 3 ≡ true
small_test n small = search rules

great_test : (n : ℕ) → 3 < n → nat_le n 3 ≡ false
great_test n great = search rules

-- a group that stands in a bucket
pub small_pointer : (below : ℕ) (group : Pairs) → (below ≡ 0) ⊎ (length group ≤ 3) → pointer_to below group ≡ bucket group
unfolding pointer_to
small_pointer zero group why = refl
small_pointer (suc below) group (inl none) = absurd (omega arith)
small_pointer (suc below) group (inr small) = ap (λ b. cond b (bucket group) (v.Link (node_block below group).cid)) (small_test (length group) small)

pub small_nodes : (below : ℕ) (group : Pairs) → (below ≡ 0) ⊎ (length group ≤ 3) → nodes_of below group ≡ []
unfolding nodes_of
small_nodes zero group why = refl
small_nodes (suc below) group (inl none) = absurd (omega arith)
small_nodes (suc below) group (inr small) = ap (λ b. cond b [] (nodes below group)) (small_test (length group) small)

-- a group that has a node
pub great_pointer : (below : ℕ) (group : Pairs) → 0 < below → 3 < length group → pointer_to below group ≡ v.Link (node_block (below - 1) group).cid
unfolding pointer_to
great_pointer zero group some great = absurd (omega arith)
great_pointer (suc below) group some great =
    let one : below ≡ suc below - 1 = omega arith in
    ap (λ b. cond b (bucket group) (v.Link (node_block below group).cid)) (great_test (length group) great) ∙ ap (λ (k : ℕ). v.Link (node_block k group).cid) one

great_nodes : (below : ℕ) (group : Pairs) → 0 < below → 3 < length group → nodes_of below group ≡ nodes (below - 1) group
unfolding nodes_of
great_nodes zero group some great = absurd (omega arith)
great_nodes (suc below) group some great =
    let one : below ≡ suc below - 1 = omega arith in
    ap (λ b. cond b [] (nodes below group)) (great_test (length group) great) ∙ ap (λ (k : ℕ). nodes k group) one

-- ---- all groups

-- the groups of some places, with their places
numbered : (ℕ → Pairs) → List ℕ → List (ℕ × Pairs)
numbered F ks = filter (λ (e : ℕ × Pairs). is_group e.1) (map (λ k. (k, F k)) ks)

listed : {A : Type 0} (f g : Pairs → List A) (F : ℕ → Pairs) → ((pairs : Pairs) → g pairs ≡ cond (is_group pairs) (f pairs) []) → (ks : List ℕ)
    → flat_map (λ (e : ℕ × Pairs). f e.1) (numbered F ks) ≡ flat_map g (map F ks)
unfolding numbered
listed f g F same [] = refl
listed f g F same (k ∷ ks) =
    let rest = listed f g F same ks in
    elim (is_group (F k)) as (λ b. is_group (F k) ≡ b → flat_map (λ (e : ℕ × Pairs). f e.1) (cond b ((k, F k) ∷ numbered F ks) (numbered F ks)) ≡ g (F k) ++ flat_map g (map F ks)) [
      | true ↦ λ is. ap (λ xs. f (F k) ++ xs) rest ∙ ap (λ xs. xs ++ flat_map g (map F ks)) (sym (same (F k) ∙ ap (λ b. cond b (f (F k)) []) is))
      | false ↦ λ is. rest ∙ ap (λ xs. xs ++ flat_map g (map F ks)) (sym (same (F k) ∙ ap (λ b. cond b (f (F k)) []) is))
    ] refl

zero_add : (n : ℕ) → 0 + n ≡ n
zero_add n = omega arith

listed_bits : (F : ℕ → Pairs) (a n : ℕ) → sum (map (λ (e : ℕ × Pairs). 2 ^ e.0) (numbered F (range_with_len a n))) ≡ bits_from a (map F (range_with_len a n))
unfolding numbered
listed_bits F a zero = refl
listed_bits F a (suc n) =
    let rest = listed_bits F (a + 1) n in
    elim (is_group (F a)) as (λ b. sum (map (λ (e : ℕ × Pairs). 2 ^ e.0) (cond b ((a, F a) ∷ numbered F (range_with_len (a + 1) n)) (numbered F (range_with_len (a + 1) n)))) ≡ cond b (2 ^ a) 0 + bits_from (a + 1) (map F (range_with_len (a + 1) n))) [
      | true ↦ sum_by-cons (λ (k : ℕ). k) (2 ^ a) (map (λ (e : ℕ × Pairs). 2 ^ e.0) (numbered F (range_with_len (a + 1) n))) ∙ ap (λ k. 2 ^ a + k) rest
      | false ↦ rest ∙ sym (zero_add (bits_from (a + 1) (map F (range_with_len (a + 1) n))))
    ]

map_flat : {A B : Type 0} (f : A → B) (xs : List A) → map f xs ≡ flat_map (λ x. f x ∷ []) xs
map_flat f [] = refl
map_flat f (x ∷ xs) = ap (λ ys. f x ∷ ys) (map_flat f xs)

bits_are : (level : ℕ) (pairs : Pairs) → bitfield (groups level pairs) ≡ digits_of 256 (bits_from 0 (by_place level pairs))
unfolding numbered
bits_are level pairs = ap (digits_of 256) (listed_bits (λ place. at_place level place pairs) 0 32)

pointers_are : (pointer : Pairs → Value) (below level : ℕ) (pairs : Pairs) → ((group : Pairs) → pointer_to below group ≡ pointer group) → map (λ (g : ℕ × Pairs). pointer g.1) (groups level pairs) ≡ flat_map (pointers_of below) (by_place level pairs)
unfolding numbered pointers_of
pointers_are pointer below level pairs same =
    map_flat (λ (g : ℕ × Pairs). pointer g.1) (groups level pairs)
    ∙ listed (λ group. pointer group ∷ []) (pointers_of below) (λ place. at_place level place pairs) (λ group. ap (λ (p : Value). cond (is_group group) (p ∷ []) []) (same group)) places

node_is_with : (pointer : Pairs → Value) (below level : ℕ) (pairs : Pairs) → ((group : Pairs) → pointer_to below group ≡ pointer group)
    → node_with pointer level pairs ≡ v.List (v.Blob (digits_of 256 (bits_from 0 (by_place level pairs))) ∷ (v.List (flat_map (pointers_of below) (by_place level pairs)) ∷ []))
node_is_with pointer below level pairs same = λ i. v.List (v.Blob (bits_are level pairs i) ∷ (v.List (pointers_are pointer below level pairs same i) ∷ []))

pub node_is : (below : ℕ) (pairs : Pairs) → node below pairs ≡ node_of (digits_of 256 (bits_from 0 (by_place (51 - below) pairs))) (flat_map (pointers_of below) (by_place (51 - below) pairs))
unfolding node pointer_to
node_is zero pairs = node_is_with bucket zero 51 pairs (λ group. refl)
node_is (suc below) pairs =
    let level : 50 - below ≡ 51 - suc below = omega arith in
    node_is_with (λ group. cond (is_small group) (bucket group) (v.Link (node_block below group).cid)) (suc below) (50 - below) pairs (λ group. refl)
    ∙ ap (λ (k : ℕ). node_of (digits_of 256 (bits_from 0 (by_place k pairs))) (flat_map (pointers_of (suc below)) (by_place k pairs))) level

nothing_under : (groups : List Pairs) → flat_map (nodes_of zero) groups ≡ []
unfolding nodes_of
nothing_under [] = refl
nothing_under (g ∷ groups) = nothing_under groups

no_group_no_nodes : (below : ℕ) (group : Pairs) → nodes_of (suc below) group ≡ cond (is_group group) (nodes_of (suc below) group) []
unfolding nodes_of
no_group_no_nodes below [] = refl
no_group_no_nodes below (p ∷ group) = ap (λ b. cond b (nodes_of (suc below) (p ∷ group)) []) (sym (some_test (length (p ∷ group)) (omega arith)))

pub nodes_are : (below : ℕ) (pairs : Pairs) → nodes below pairs ≡ nodes_under below pairs ++ (node_block below pairs ∷ [])
unfolding nodes nodes_of nodes_under numbered
nodes_are zero pairs = ap (λ bs. bs ++ (node_block zero pairs ∷ [])) (sym (nothing_under (by_place 51 pairs)))
nodes_are (suc below) pairs =
    let level : 50 - below ≡ 51 - suc below = omega arith in
    ap (λ bs. bs ++ (node_block (suc below) pairs ∷ []))
    (listed (nodes_of (suc below)) (nodes_of (suc below)) (λ place. at_place (50 - below) place pairs) (no_group_no_nodes below) places
    ∙ ap (λ (k : ℕ). flat_map (nodes_of (suc below)) (by_place k pairs)) level)

-- a group's blocks are those under its node, and its node's
pub great_nodes_are : (below : ℕ) (group : Pairs) → 0 < below → 3 < length group → nodes_of below group ≡ nodes_under (below - 1) group ++ (node_block (below - 1) group ∷ [])
great_nodes_are below group some great = great_nodes below group some great ∙ nodes_are (below - 1) group

-- what is put for the groups of a node are the blocks under it
pub put_below : (below : ℕ) (pairs : Pairs) (start now : List BlockParts) → now ≡ start ++ flat_map (nodes_of below) (by_place (51 - below) pairs) → now ≡ start ++ nodes_under below pairs
unfolding nodes_under
put_below below pairs start now is = is
