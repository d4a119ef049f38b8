-- The pointer to a group, as it is written.
use Rattle.std.proofs.Common.{◌≡◌, ℕ, ◌+◌, ◌-◌, ◌*◌, ◌^◌, ◌<◌, ◌≤◌, ◌⊎◌, inl, inr, ◌||◌, Bool, true, false, cond, eqb, List, [], ◌∷◌, ◌++◌, length, map, refl, sym, ap, subst, ◌∙◌, append_assoc, arith}
use Rattle.std.proofs.lemmas.Bool.{eqb-true, eqb-false, leb-false, leb-true}
use Rattle.std.proofs.lemmas.List.{append-nil, length-map}
use Rattle.std.proofs.lemmas.Nat.{pow-add}
use Rattle.std.specs.FinMap.{entries}
use Rattle.std.specs.Prelude.{T, nat_le}
use Rattle.cid_core.specs.BlockParts.{BlockParts}
use Rattle.dag_cbor.specs.Spelling.{joined, spelled}
use Rattle.dag_cbor.specs.declared.value.Value.TheVariants as v
use Rattle.hamt_map.specs.Canonical.{map_of}
use Rattle.hamt_map.specs.Groups.{nodes_of, nodes_under, pointer_to, pointers_of}
use Rattle.hamt_map.specs.HashOrder.{AreLent, low_bits}
use Rattle.hamt_map.specs.Lent.{lent_of}
use Rattle.hamt_map.specs.Node.{bucket, node_block}
use Rattle.hamt_map.specs.Pairs.{Pairs}
use Rattle.hamt_map.specs.declared.hashed.Hashed.{Hashed}
use Rattle.hamt_map.proofs.AnyOrder.{count_again}
use Rattle.hamt_map.proofs.NodeParts.{great_nodes_are, great_pointer, no_nodes, no_pointer, one_pointer, small_nodes, small_pointer}

-- ---- which groups stand in a bucket

pub in_bucket : (below n : ℕ) → (eqb below 0 || nat_le n 3) ≡ true → (below ≡ 0) ⊎ (n ≤ 3)
in_bucket below n is = by (eqb below 0) refl is where
  by : (b : Bool) → eqb below 0 ≡ b → (b || nat_le n 3) ≡ true → (below ≡ 0) ⊎ (n ≤ 3)
  by true e small = inl (eqb-true below 0 e)
  by false e small = inr (leb-true n 3 small)

pub out_of_bucket : (below n : ℕ) → (eqb below 0 || nat_le n 3) ≡ false → (0 < below) × (3 < n)
out_of_bucket below n is = by (eqb below 0) refl is where
  by : (b : Bool) → eqb below 0 ≡ b → (b || nat_le n 3) ≡ false → (0 < below) × (3 < n)
  by true e great = absurd (subst T great tt)
  by false e great = let some = eqb-false below 0 e in (omega (arith, some), leb-false n 3 great)

-- a group has as many pairs as are lent
group_size : (below : ℕ) (es : List Hashed) (ps : Pairs) → AreLent below (map lent_of es) ps → length (entries (map_of ps)) ≡ length es
group_size below es ps are = count_again below ps are.order ∙ sym (length-map ps (λ p. (low_bits are.start p.0, (p.0, spelled p.1)))) ∙ ap length (sym are.same) ∙ length-map es lent_of

-- ---- a pointer

pub bucket_text : (below : ℕ) (es : List Hashed) (ps : Pairs) (old new : List ℕ) → AreLent (below - 1) (map lent_of es) ps → (eqb below 0 || nat_le (length es) 3) ≡ true
    → new ≡ old ++ spelled (bucket (entries (map_of ps))) → new ≡ old ++ spelled (pointer_to below (entries (map_of ps)))
bucket_text below es ps old new are small is =
    let why = in_bucket below (length (entries (map_of ps))) (ap (λ (n : ℕ). eqb below 0 || nat_le n 3) (group_size (below - 1) es ps are) ∙ small) in
    is ∙ ap (λ p. old ++ spelled p) (sym (small_pointer below (entries (map_of ps)) why))

pub bucket_under : (below : ℕ) (es : List Hashed) (ps : Pairs) (nodes : List BlockParts) → AreLent (below - 1) (map lent_of es) ps → (eqb below 0 || nat_le (length es) 3) ≡ true → nodes ≡ nodes ++ nodes_of below (entries (map_of ps))
bucket_under below es ps nodes are small =
    let why = in_bucket below (length (entries (map_of ps))) (ap (λ (n : ℕ). eqb below 0 || nat_le n 3) (group_size (below - 1) es ps are) ∙ small) in
    sym (ap (λ (bs : List BlockParts). nodes ++ bs) (small_nodes below (entries (map_of ps)) why) ∙ append-nil nodes)

pub link_text : (below : ℕ) (es : List Hashed) (ps : Pairs) (old new : List ℕ) (block : BlockParts) → AreLent (below - 1) (map lent_of es) ps → (eqb below 0 || nat_le (length es) 3) ≡ false → block ≡ node_block (below - 1) (entries (map_of ps))
    → new ≡ old ++ spelled (v.Link block.cid) → new ≡ old ++ spelled (pointer_to below (entries (map_of ps)))
link_text below es ps old new block are great block_is is =
    let why = out_of_bucket below (length (entries (map_of ps))) (ap (λ (n : ℕ). eqb below 0 || nat_le n 3) (group_size (below - 1) es ps are) ∙ great) in
    is ∙ ap (λ (b : BlockParts). old ++ spelled (v.Link b.cid)) block_is ∙ ap (λ p. old ++ spelled p) (sym (great_pointer below (entries (map_of ps)) why.0 why.1))

pub link_under : (below : ℕ) (es : List Hashed) (ps : Pairs) (old now new : List BlockParts) (block : BlockParts) → AreLent (below - 1) (map lent_of es) ps → (eqb below 0 || nat_le (length es) 3) ≡ false → block ≡ node_block (below - 1) (entries (map_of ps))
    → now ≡ old ++ nodes_under (below - 1) (entries (map_of ps)) → new ≡ now ++ block ∷ [] → new ≡ old ++ nodes_of below (entries (map_of ps))
link_under below es ps old now new block are great block_is under pushed =
    let why = out_of_bucket below (length (entries (map_of ps))) (ap (λ (n : ℕ). eqb below 0 || nat_le n 3) (group_size (below - 1) es ps are) ∙ great) in
    pushed ∙ (λ i. under i ++ block_is i ∷ []) ∙ append_assoc old (nodes_under (below - 1) (entries (map_of ps))) _
    ∙ ap (λ (bs : List BlockParts). old ++ bs) (sym (great_nodes_are below (entries (map_of ps)) why.0 why.1))

-- ---- the pointer of a group, if it has pairs

pub empty_text : (below : ℕ) (es : List Hashed) (ps : Pairs) (old : List ℕ) → AreLent (below - 1) (map lent_of es) ps → length es ≡ 0 → old ≡ old ++ joined (map spelled (pointers_of below (entries (map_of ps))))
empty_text below es ps old are none = sym (ap (λ vs. old ++ joined (map spelled vs)) (no_pointer below (entries (map_of ps)) (group_size (below - 1) es ps are ∙ none)) ∙ append-nil old)

pub empty_under : (below : ℕ) (es : List Hashed) (ps : Pairs) (old : List BlockParts) → AreLent (below - 1) (map lent_of es) ps → length es ≡ 0 → old ≡ old ++ nodes_of below (entries (map_of ps))
empty_under below es ps old are none = sym (ap (λ (bs : List BlockParts). old ++ bs) (no_nodes below (entries (map_of ps)) (group_size (below - 1) es ps are ∙ none)) ∙ append-nil old)

pub one_text : (below : ℕ) (es : List Hashed) (ps : Pairs) (old new : List ℕ) → AreLent (below - 1) (map lent_of es) ps → 0 < length es → new ≡ old ++ spelled (pointer_to below (entries (map_of ps))) → new ≡ old ++ joined (map spelled (pointers_of below (entries (map_of ps))))
one_text below es ps old new are some is =
    let size = group_size (below - 1) es ps are in
    is ∙ ap (λ (t : List ℕ). old ++ t) (sym (ap (λ vs. joined (map spelled vs)) (one_pointer below (entries (map_of ps)) (omega (arith, size, some))) ∙ append-nil (spelled (pointer_to below (entries (map_of ps))))))

-- ---- numbers of a node's pointers

pub bits_fit : (place old new : ℕ) (full : Bool) → old < 2 ^ place → new ≡ old + cond full (2 ^ place) 0 → new < 2 ^ (place + 1)
bits_fit place old new true small is = let two : 2 ^ (place + 1) ≡ 2 ^ place * 2 = pow-add 2 place 1 in omega (arith, small, is, two)
bits_fit place old new false small is = let two : 2 ^ (place + 1) ≡ 2 ^ place * 2 = pow-add 2 place 1 in omega (arith, small, is, two)

pub count_fits : (place old new : ℕ) (full : Bool) → old ≤ place → new ≡ old + cond full 1 0 → new ≤ place + 1
count_fits place old new true small is = omega (arith, small, is)
count_fits place old new false small is = omega (arith, small, is)
