-- The pointers of a node are read of its value again.
use Rattle.std.proofs.Common.{◌≡◌, ℕ, zero, suc, ◌+◌, ◌*◌, ◌-◌, ◌<◌, ◌≤◌, ◌^◌, ◌&&◌, Bool, true, false, cond, leb, eqb, List, [], ◌∷◌, ◌++◌, length, map, Option, Some, None, refl, sym, ap, subst, ◌∙◌, arith, rules}
use Rattle.std.proofs.Math.Dec.{eqb-suc-zero}
use Rattle.std.specs.List.{flat_map}
use Rattle.std.specs.Prelude.{nat_le, if◌then◌else◌}
use Rattle.std.specs.Int.Digits.{digits_of}
use Rattle.fil_base.specs.CidParts.{CidParts}
use Rattle.dag_cbor.specs.declared.value.Value.{Value, Value-F, out-Value}
use Rattle.dag_cbor.specs.declared.value.Value.TheOpen as layer
use Rattle.dag_cbor.specs.declared.value.Value.TheVariants as v
use Rattle.tree_blocks.specs.Forms.{bytes_in, for_each, if_some, items_in, set_bits}
use Rattle.tree_blocks.proofs.ForEach.{if_some_gives}
use Rattle.hamt_map.specs.Pairs.{Pairs}
use Rattle.hamt_map.specs.Node.{bucket, is_small, node, node_block, pair_value}
use Rattle.hamt_map.specs.Groups.{bits_from, by_place, is_group, pointer_to, pointers_of}
use Rattle.hamt_map.specs.Walk.{Pointer, Bucket, Child, behind_bits, pair_in, pointer_of, pointer_values, pointers_in, two_in, two_of, with_bits}
use Rattle.hamt_map.proofs.BitFields.{four_bytes, set_bits_by_place}
use Rattle.hamt_map.proofs.NodeParts.{node_is}
use Rattle.hamt_map.specs.Canonical.{node_of}

-- ---- each of many

read_first : {A B : Type 0} (f : A → Option B) (x : A) (xs ys : List A) (front back : List B) → ((zs : List B) → for_each f xs ≡ Some zs → for_each f (xs ++ ys) ≡ Some (zs ++ back)) → (z : B)
    → if_some (for_each f xs) (λ zs. Some (z ∷ zs)) ≡ Some front → if_some (for_each f (xs ++ ys)) (λ zs. Some (z ∷ zs)) ≡ Some (front ++ back)
read_first {B = B} f x xs ys front back rest z e =
    let zs = if_some_gives (for_each f xs) (λ zs. Some (z ∷ zs)) front e in
    let whole : z ∷ zs.0 ≡ front = cc zs.2 in
    ap (λ (r : Option (List B)). if_some r (λ zs. Some (z ∷ zs))) (rest zs.0 zs.1) ∙ ap (λ (ws : List B). Some (ws ++ back)) whole

both_read : {A B : Type 0} (f : A → Option B) (xs ys : List A) (front back : List B) → for_each f xs ≡ Some front → for_each f ys ≡ Some back → for_each f (xs ++ ys) ≡ Some (front ++ back)
both_read f [] ys front back ex ey = let nothing : [] ≡ front = cc ex in ey ∙ ap (λ zs. Some (zs ++ back)) nothing
both_read {B = B} f (x ∷ xs) ys front back ex ey =
    let z = if_some_gives (f x) (λ z. if_some (for_each f xs) (λ zs. Some (z ∷ zs))) front ex in
    ap (λ (r : Option B). if_some r (λ z. if_some (for_each f (xs ++ ys)) (λ zs. Some (z ∷ zs)))) z.1
    ∙ read_first f x xs ys front back (λ zs e. both_read f xs ys zs back e ey) z.0 z.2

-- ---- one pointer

both_again : (x y : Value) → two_in (v.List (x ∷ y ∷ [])) ≡ Some (x, y)
both_again x y = ap (λ (l : Value-F Value). if_some (items_in l) two_of) (v.outs-List (x ∷ y ∷ []))

pair_again : (p : List ℕ × Value) → pair_in (pair_value p) ≡ Some p
pair_again p =
    ap (λ (r : Option (Value × Value)). if_some r (λ both. if_some (bytes_in (out-Value both.0)) (λ key. Some (key, both.1)))) (both_again (v.Blob p.0) p.1)
    ∙ ap (λ (l : Value-F Value). if_some (bytes_in l) (λ key. Some (key, p.1))) (v.outs-Blob p.0)

pairs_again : (group : Pairs) → for_each pair_in (map pair_value group) ≡ Some group
pairs_again [] = refl
pairs_again (p ∷ group) =
    ap (λ (r : Option (List ℕ × Value)). if_some r (λ y. if_some (for_each pair_in (map pair_value group)) (λ ys. Some (y ∷ ys)))) (pair_again p)
    ∙ ap (λ (r : Option Pairs). if_some r (λ ys. Some (p ∷ ys))) (pairs_again group)

-- what the pointer to a group is read as
abbrev pub one_read : ℕ → Pairs → Pointer
one_read zero group = Bucket group
one_read (suc below) group = if is_small group then Bucket group else Child (node_block below group).cid

bucket_again : (below : ℕ) (group : Pairs) → pointer_of below (out-Value (bucket group)) ≡ Some (Bucket group)
bucket_again below group = ap (pointer_of below) (v.outs-List (map pair_value group)) ∙ ap (λ (r : Option Pairs). if_some r (λ pairs. Some (Bucket pairs))) (pairs_again group)

link_again : (below : ℕ) (cid : CidParts) → pointer_of (suc below) (out-Value (v.Link cid)) ≡ Some (Child cid)
link_again below cid = ap (pointer_of (suc below)) (v.outs-Link cid) ∙ ap (λ b. cond b None (Some (Child cid))) (eqb-suc-zero below)

pointer_again : (below : ℕ) (group : Pairs) → pointer_of below (out-Value (pointer_to below group)) ≡ Some (one_read below group)
unfolding pointer_to
pointer_again zero group = bucket_again zero group
pointer_again (suc below) group =
    elim (is_small group) as (λ b. pointer_of (suc below) (out-Value (cond b (bucket group) (v.Link (node_block below group).cid))) ≡ Some (cond b (Bucket group) (Child (node_block below group).cid))) [
      | true ↦ bucket_again (suc below) group
      | false ↦ link_again below (node_block below group).cid
    ]

-- what the pointer to the pairs of a place is read as, if there are any
unfoldable pub read_of : ℕ → Pairs → List Pointer
read_of below group = if is_group group then one_read below group ∷ [] else []

group_again : (below : ℕ) (group : Pairs) → for_each (λ pointer. pointer_of below (out-Value pointer)) (pointers_of below group) ≡ Some (read_of below group)
unfolding pointers_of read_of
group_again below group =
    elim (is_group group) as (λ b. for_each (λ pointer. pointer_of below (out-Value pointer)) (cond b (pointer_to below group ∷ []) []) ≡ Some (cond b (one_read below group ∷ []) [])) [
      | true ↦ ap (λ (r : Option Pointer). if_some r (λ y. Some (y ∷ []))) (pointer_again below group)
      | false ↦ refl
    ]

groups_again : (below : ℕ) (groups : List Pairs) → for_each (λ pointer. pointer_of below (out-Value pointer)) (flat_map (pointers_of below) groups) ≡ Some (flat_map (read_of below) groups)
groups_again below [] = refl
groups_again below (g ∷ groups) =
    both_read (λ pointer. pointer_of below (out-Value pointer)) (pointers_of below g) (flat_map (pointers_of below) groups) (read_of below g) (flat_map (read_of below) groups) (group_again below g) (groups_again below groups)

-- ---- a node

one_each : (below : ℕ) (group : Pairs) → length (pointers_of below group) ≡ cond (is_group group) 1 0
unfolding pointers_of
one_each below group = elim (is_group group) as (λ b. length (cond b (pointer_to below group ∷ []) []) ≡ cond b 1 0) [ true ↦ refl | false ↦ refl ]

le_test : (a b : ℕ) → a ≤ b → nat_le a b ≡ true
le_test a b le = search rules

pub same_test : (n : ℕ) → eqb n n ≡ true
same_test n = search rules

pub two_tests : (a b : Bool) → a ≡ true → b ≡ true → (a && b) ≡ true
two_tests true b ea eb = eb
two_tests false b ea eb = ea

bits_again : (bits : List ℕ) (pointers : List Value) → length bits ≤ 4 → length pointers ≡ set_bits bits → with_bits bits pointers ≡ Some pointers
bits_again bits pointers few same =
    ap (λ b. cond b (Some pointers) None) (two_tests (nat_le (length bits) 4) (eqb (length pointers) (set_bits bits)) (le_test (length bits) 4 few) (ap (λ (n : ℕ). eqb n (set_bits bits)) same ∙ same_test (set_bits bits)))

values_again : (bits : List ℕ) (pointers : List Value) → length bits ≤ 4 → length pointers ≡ set_bits bits → pointer_values (node_of bits pointers) ≡ Some pointers
values_again bits pointers few same =
    ap (λ (r : Option (Value × Value)). if_some r behind_bits) (both_again (v.Blob bits) (v.List pointers))
    ∙ ap (λ (l : Value-F Value). if_some (bytes_in l) (λ bits. if_some (items_in (out-Value (v.List pointers))) (with_bits bits))) (v.outs-Blob bits)
    ∙ ap (λ (l : Value-F Value). if_some (items_in l) (with_bits bits)) (v.outs-List pointers)
    ∙ bits_again bits pointers few same

-- the pointers of the node of pairs
pub node_again : (below : ℕ) (pairs : Pairs) → pointers_in below (node below pairs) ≡ Some (flat_map (read_of below) (by_place (51 - below) pairs))
node_again below pairs =
    let groups = by_place (51 - below) pairs in
    let bits = digits_of 256 (bits_from 0 groups) in
    let pointers = flat_map (pointers_of below) groups in
    ap (pointers_in below) (node_is below pairs)
    ∙ ap (λ (r : Option (List Value)). if_some r (for_each (λ pointer. pointer_of below (out-Value pointer)))) (values_again bits pointers (four_bytes (51 - below) pairs) (sym (set_bits_by_place (pointers_of below) (one_each below) groups)))
    ∙ groups_again below groups
