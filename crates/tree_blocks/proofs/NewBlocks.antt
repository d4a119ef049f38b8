-- Blocks that a list does not hold, each CID once.
use Rattle.std.proofs.Common.{◌≡◌, ℕ, List, [], ◌∷◌, ◌++◌, Bool, true, false, cond, ◌||◌, Option, Some, None, refl, sym, ap, subst, ◌∙◌, append_assoc, append-nil}
use Rattle.std.proofs.lemmas.List.Elements.{All-tail}
use Rattle.std.specs.Prelude.{All, is_some}
use Rattle.std.specs.List.{list_any}
use Rattle.std.specs.BTreeSet.{insert_key}
use Rattle.std.specs.Cmp.{alike_right, eq_by_cmp_equiv, unsigned_ties}
use Rattle.std.specs.Cmp.Lexicographic.{lists_ties, nat_list_cmp_total}
use Rattle.std.specs.Option.{option_map}
use Rattle.std.specs.Ordering.{is_eq, match_ordering, nat_cmp}
use Rattle.std.specs.declared.cmp.Ordering.TheVariants.{Less, Equal, Greater}
use Rattle.fil_base.specs.CidEquality.{same_parts}
use Rattle.fil_base.specs.CidParts.{CidParts}
use Rattle.cid_core.specs.BlockParts.{BlockParts, found}
use Rattle.tree_blocks.specs.NewBlocks.{AreDigests, IsNodeBlock, digest_cmp, new_blocks, node_cid}

-- ---- tests

or_assoc : (a b c : Bool) → ((a || b) || c) ≡ (a || (b || c))
or_assoc true b c = refl
or_assoc false b c = refl

or_false : (a : Bool) → (a || false) ≡ a
or_false true = refl
or_false false = refl

or_comm : (a b : Bool) → (a || b) ≡ (b || a)
or_comm true true = refl
or_comm true false = refl
or_comm false true = refl
or_comm false false = refl

or_twice : (a b : Bool) → (a || b) ≡ (a || (a || b))
or_twice true b = refl
or_twice false b = refl

or_swap : (a b c : Bool) → (a || (b || c)) ≡ (b || (a || c))
or_swap true true c = refl
or_swap true false c = refl
or_swap false b c = refl

-- ---- finding blocks

found_here : (b : BlockParts) (bs : List BlockParts) (cid : CidParts) → is_some (found (b ∷ bs) cid) ≡ (same_parts b.cid cid || is_some (found bs cid))
found_here b bs cid = elim (same_parts b.cid cid) as (λ t. is_some (cond t (Some b) (found bs cid)) ≡ (t || is_some (found bs cid))) [ true ↦ refl | false ↦ refl ]

pub found_both : (xs ys : List BlockParts) (cid : CidParts) → is_some (found (xs ++ ys) cid) ≡ (is_some (found xs cid) || is_some (found ys cid))
found_both [] ys cid = refl
found_both (x ∷ xs) ys cid =
    found_here x (xs ++ ys) cid ∙ ap (λ t. same_parts x.cid cid || t) (found_both xs ys cid) ∙ sym (or_assoc (same_parts x.cid cid) (is_some (found xs cid)) (is_some (found ys cid)))
    ∙ ap (λ t. t || is_some (found ys cid)) (sym (found_here x xs cid))

-- ---- digests

any_insert : (digest : List ℕ) (keys : List (List ℕ)) (k : List ℕ) → list_any (λ d. is_eq (digest_cmp digest d)) (insert_key digest_cmp keys k)
    ≡ (is_eq (digest_cmp digest k) || list_any (λ d. is_eq (digest_cmp digest d)) keys)
any_insert digest [] k = refl
any_insert digest (x ∷ keys) k =
    let rest = any_insert digest keys k in
    elim (digest_cmp k x) as (λ o. digest_cmp k x ≡ o → list_any (λ d. is_eq (digest_cmp digest d)) (match_ordering o (k ∷ x ∷ keys) (x ∷ keys) (x ∷ insert_key digest_cmp keys k))
    ≡ (is_eq (digest_cmp digest k) || (is_eq (digest_cmp digest x) || list_any (λ d. is_eq (digest_cmp digest d)) keys))) [
      | Less ↦ λ is. refl
      | Equal ↦ λ is. or_twice (is_eq (digest_cmp digest x)) _ ∙ ap (λ o. is_eq o || (is_eq (digest_cmp digest x) || list_any (λ d. is_eq (digest_cmp digest d)) keys)) (sym (alike_right nat_list_cmp_total k x digest is))
      | Greater ↦ λ is. ap (λ t. is_eq (digest_cmp digest x) || t) rest ∙ or_swap (is_eq (digest_cmp digest x)) (is_eq (digest_cmp digest k)) _
    ] refl

same_digest : (d digest : List ℕ) → same_parts (node_cid d) (node_cid digest) ≡ is_eq (digest_cmp digest d)
same_digest d digest = lists_ties nat_cmp unsigned_ties d digest ∙ (eq_by_cmp_equiv nat_list_cmp_total).symm d digest

pub digests_begin : (digests : List (List ℕ)) (nodes : List BlockParts) → digests ≡ [] → nodes ≡ [] → AreDigests digests nodes
digests_begin digests nodes none-d none-n = record { same = λ digest. ap (list_any (λ d. is_eq (digest_cmp digest d))) none-d ∙ sym (ap (λ bs. is_some (found bs (node_cid digest))) none-n) }

pub digests_more : (digests after : List (List ℕ)) (nodes now : List BlockParts) (k : List ℕ) (b : BlockParts) → AreDigests digests nodes → IsNodeBlock b → k ≡ b.cid.digest
    → after ≡ insert_key digest_cmp digests k → now ≡ nodes ++ b ∷ [] → AreDigests after now
digests_more digests after nodes now k b seen node is inserted pushed = record {
  same = λ digest.
      ap (list_any (λ d. is_eq (digest_cmp digest d))) inserted ∙ any_insert digest digests k
      ∙ (λ i. is_eq (digest_cmp digest (is i)) || seen.same digest i)
      ∙ ap (λ t. t || is_some (found nodes (node_cid digest))) (sym (same_digest b.cid.digest digest) ∙ ap (λ c. same_parts c (node_cid digest)) (sym node.cid))
      ∙ or_comm (same_parts b.cid (node_cid digest)) (is_some (found nodes (node_cid digest)))
      ∙ sym (found_both nodes (b ∷ []) (node_cid digest) ∙ ap (λ t. is_some (found nodes (node_cid digest)) || t) (found_here b [] (node_cid digest) ∙ or_false (same_parts b.cid (node_cid digest))))
      ∙ ap (λ bs. is_some (found bs (node_cid digest))) (sym pushed);
}

-- ---- what is held

pub held_by_base : (blocks nodes : List BlockParts) (cid : CidParts) (b : Bool) → b ≡ is_some (found blocks cid) → b ≡ true → true ≡ is_some (found (blocks ++ nodes) cid)
held_by_base blocks nodes cid b is there = sym (found_both blocks nodes cid ∙ ap (λ t. t || is_some (found nodes cid)) (sym is ∙ there))

pub held_by_nodes : (blocks nodes : List BlockParts) (digests : List (List ℕ)) (cid : CidParts) (b seen : Bool) → AreDigests digests nodes → cid ≡ node_cid cid.digest → b ≡ is_some (found blocks cid) → b ≡ false
    → seen ≡ list_any (λ d. is_eq (digest_cmp cid.digest d)) digests → seen ≡ is_some (found (blocks ++ nodes) cid)
held_by_nodes blocks nodes digests cid b seen are node is none here =
    here ∙ are.same cid.digest ∙ ap (λ c. is_some (found nodes c)) (sym node)
    ∙ ap (λ t. t || is_some (found nodes cid)) (sym none ∙ is) ∙ sym (found_both blocks nodes cid)

-- ---- going over nodes

-- the new ones of a whole are those that are there and those of the rest
pub record NewSoFar (blocks whole rest new : List BlockParts) : Type 0 where
  pub all : new_blocks blocks whole ≡ new ++ new_blocks (blocks ++ new) rest
  pub nodes : All IsNodeBlock rest

pub new_begin : (blocks whole rest new : List BlockParts) → rest ≡ whole → new ≡ [] → All IsNodeBlock whole → NewSoFar blocks whole rest new
new_begin blocks whole rest new is none nodes = record {
  all = sym ((λ i. none i ++ new_blocks (blocks ++ none i) (is i)) ∙ ap (λ bs. new_blocks bs whole) (append-nil blocks));
  nodes = subst (All IsNodeBlock) (sym is) nodes;
}

pub new_more : (blocks whole rest new after : List BlockParts) (b : BlockParts) → NewSoFar blocks whole (b ∷ rest) new
    → after ≡ cond (is_some (found (blocks ++ new) b.cid)) new (new ++ b ∷ []) → NewSoFar blocks whole rest after
new_more blocks whole rest new after b so_far is = record {
  all = so_far.all ∙ elim (is_some (found (blocks ++ new) b.cid)) as (λ t. after ≡ cond t new (new ++ b ∷ []) → new ++ cond t (new_blocks (blocks ++ new) rest) (b ∷ new_blocks ((blocks ++ new) ++ (b ∷ [])) rest) ≡ after ++ new_blocks (blocks ++ after) rest) [
    | true ↦ λ same. λ i. sym same i ++ new_blocks (blocks ++ sym same i) rest
    | false ↦ λ same. sym (append_assoc new (b ∷ []) (new_blocks ((blocks ++ new) ++ (b ∷ [])) rest))
        ∙ ap (λ bs. (new ++ b ∷ []) ++ new_blocks bs rest) (append_assoc blocks new (b ∷ []))
        ∙ (λ i. sym same i ++ new_blocks (blocks ++ sym same i) rest)
  ] is;
  nodes = All-tail IsNodeBlock b rest so_far.nodes;
}

pub new_end : (blocks whole rest new : List BlockParts) → NewSoFar blocks whole rest new → rest ≡ [] → new ≡ new_blocks blocks whole
new_end blocks whole rest new so_far none = sym (so_far.all ∙ ap (λ bs. new ++ new_blocks (blocks ++ new) bs) none ∙ append-nil new)

-- ---- options

pub is_some-map : {A B : Type 0} (f : A → B) (o : Option A) → is_some (option_map f o) ≡ is_some o
is_some-map f None = refl
is_some-map f (Some x) = refl
