-- The node of pairs that fit has a spelling.
use Rattle.std.proofs.Common.{◌≡◌, ℕ, zero, suc, ◌+◌, ◌-◌, ◌<◌, ◌≤◌, ◌^◌, Bool, true, false, cond, eqb, List, [], ◌∷◌, ◌++◌, length, map, sym, ap, subst, arith, All}
use Rattle.std.proofs.lemmas.List.{length-map}
use Rattle.std.proofs.lemmas.List.Elements.{All-append, All-cons, All-filter, All-head, All-nil, All-tail}
use Rattle.std.specs.List.{filter, flat_map}
use Rattle.std.specs.Int.Digits.{digits_of}
use Rattle.cid_core.proofs.Digests.{IsCid-cid_of}
use Rattle.dag_cbor.specs.Plain.{IsPlain}
use Rattle.dag_cbor.specs.Spelling.{spelled}
use Rattle.dag_cbor.specs.declared.value.Value.{Value}
use Rattle.dag_cbor.specs.declared.value.Value.TheVariants as v
use Rattle.hamt_map.specs.Pairs.{Pairs, at_place, place_on}
use Rattle.hamt_map.specs.Holds.{FitNodes}
use Rattle.hamt_map.specs.Node.{bucket, is_small, node, node_block, pair_value, places}
use Rattle.hamt_map.specs.Groups.{bits_from, by_place, is_group, pointer_to, pointers_of}
use Rattle.hamt_map.proofs.BitFields.{four_bytes}
use Rattle.hamt_map.proofs.NodeParts.{node_is}
use Rattle.hamt_map.proofs.PlainNodes.{plain_bucket, plain_link, plain_node, plain_pair}

-- pairs whose nodes have spellings
pub record Fits (pairs : Pairs) : Type 0 where
  pub values : FitNodes pairs
  pub keys : All (λ p. length p.0 < 2 ^ 64) pairs
  pub count : length pairs < 2 ^ 64

filter_short : {X : Type 0} (test : X → Bool) (xs : List X) → length (filter test xs) ≤ length xs
filter_short test [] = omega arith
filter_short test (x ∷ xs) =
    let rest = filter_short test xs in
    elim (test x) as (λ b. length (cond b (x ∷ filter test xs) (filter test xs)) ≤ suc (length xs)) [ true ↦ omega (arith, rest) | false ↦ omega (arith, rest) ]

pub fits_at : (level place : ℕ) (pairs : Pairs) → Fits pairs → Fits (at_place level place pairs)
fits_at level place pairs fits = record {
  values = All-filter _ (λ p. IsPlain 124 p.1) pairs fits.values;
  keys = All-filter _ (λ p. length p.0 < 2 ^ 64) pairs fits.keys;
  count = let less = filter_short (λ p. eqb (place_on level p.0) place) pairs in let few = fits.count in omega (arith, less, few);
}

pairs_plain : (pairs : Pairs) → FitNodes pairs → All (λ p. length p.0 < 2 ^ 64) pairs → All (IsPlain 125) (map pair_value pairs)
pairs_plain [] values keys = All-nil (IsPlain 125)
pairs_plain (p ∷ pairs) values keys =
    All-cons (IsPlain 125) (pair_value p) (map pair_value pairs) (plain_pair p.0 p.1 (All-head (λ q. length q.0 < 2 ^ 64) p pairs keys) (All-head (λ q. IsPlain 124 q.1) p pairs values))
    (pairs_plain pairs (All-tail (λ q. IsPlain 124 q.1) p pairs values) (All-tail (λ q. length q.0 < 2 ^ 64) p pairs keys))

pub bucket_plain : (pairs : Pairs) → Fits pairs → IsPlain 126 (bucket pairs)
bucket_plain pairs fits = plain_bucket (map pair_value pairs) (let few = fits.count in omega (arith, length-map pairs pair_value, few)) (pairs_plain pairs fits.values fits.keys)

pointer_plain : (below : ℕ) (group : Pairs) → Fits group → IsPlain 126 (pointer_to below group)
unfolding pointer_to
pointer_plain zero group fits = bucket_plain group fits
pointer_plain (suc below) group fits =
    elim (is_small group) as (λ b. IsPlain 126 (cond b (bucket group) (v.Link (node_block below group).cid))) [
      | true ↦ bucket_plain group fits
      | false ↦ plain_link 125 (node_block below group).cid (IsCid-cid_of 0x71 (spelled (node below group)) (omega arith))
    ]

group_plain : (below : ℕ) (group : Pairs) → Fits group → All (IsPlain 126) (pointers_of below group)
unfolding pointers_of
group_plain below group fits =
    elim (is_group group) as (λ b. All (IsPlain 126) (cond b (pointer_to below group ∷ []) [])) [
      | true ↦ All-cons (IsPlain 126) (pointer_to below group) [] (pointer_plain below group fits) (All-nil (IsPlain 126))
      | false ↦ All-nil (IsPlain 126)
    ]

pointers_plain : (below level : ℕ) (pairs : Pairs) → Fits pairs → (ks : List ℕ) → All (IsPlain 126) (flat_map (pointers_of below) (map (λ k. at_place level k pairs) ks))
pointers_plain below level pairs fits [] = All-nil (IsPlain 126)
pointers_plain below level pairs fits (k ∷ ks) =
    All-append (IsPlain 126) (pointers_of below (at_place level k pairs)) (flat_map (pointers_of below) (map (λ k. at_place level k pairs) ks)) (group_plain below (at_place level k pairs) (fits_at level k pairs fits))
    (pointers_plain below level pairs fits ks)

length_both : {A : Type 0} (xs ys : List A) → length (xs ++ ys) ≡ length xs + length ys
length_both [] ys = omega arith
length_both (x ∷ xs) ys = let rest = length_both xs ys in omega (arith, rest)

one_at_most : (below : ℕ) (group : Pairs) → length (pointers_of below group) ≤ 1
unfolding pointers_of
one_at_most below group = elim (is_group group) as (λ b. length (cond b (pointer_to below group ∷ []) []) ≤ 1) [ true ↦ omega arith | false ↦ omega arith ]

pub few_pointers : (below : ℕ) (groups : List Pairs) → length (flat_map (pointers_of below) groups) ≤ length groups
few_pointers below [] = omega arith
few_pointers below (g ∷ groups) =
    let rest = few_pointers below groups in
    let both = length_both (pointers_of below g) (flat_map (pointers_of below) groups) in
    omega (arith, rest, both, one_at_most below g)

pub node_plain : (below : ℕ) (pairs : Pairs) → Fits pairs → IsPlain 128 (node below pairs)
node_plain below pairs fits =
    let groups = by_place (51 - below) pairs in
    let few = four_bytes (51 - below) pairs in
    let count : length (flat_map (pointers_of below) groups) ≤ 32 = few_pointers below groups in
    subst (IsPlain 128) (sym (node_is below pairs))
    (plain_node (digits_of 256 (bits_from 0 groups)) (flat_map (pointers_of below) groups) (omega (arith, few)) (omega (arith, count)) (pointers_plain below (51 - below) pairs fits places))
