-- The block of a child that was read.
use Rattle.std.proofs.Common.{◌≡◌, ℕ, Bool, true, false, cond, List, [], ◌∷◌, nat_eq, Option, Some, None, Ok, Err, refl, sym, ap, ◌∙◌, arith}
use Rattle.std.proofs.lemmas.Bool.Decides.{nat_tests}
use Rattle.std.specs.Cmp.{first_so, second_so}
use Rattle.std.specs.Cmp.Lexicographic.{same_text}
use Rattle.fil_base.specs.CidEquality.{same_parts}
use Rattle.fil_base.specs.CidParts.{CidParts}
use Rattle.cid_core.specs.BlockParts.{BlockParts, found}
use Rattle.dag_cbor.specs.declared.value.Value.{Value}
use Rattle.tree_blocks.specs.Judging.{if_ok, same_block}
use Rattle.tree_blocks.specs.declared.fault.TreeFault.TheVariants.{Form, Missing, NotCanonical}
use Rattle.amt_map.specs.Loading.{block_value, child_pairs}
use Rattle.amt_map.specs.Node.{node_block}
use Rattle.amt_map.specs.Pairs.{Pairs}
use Rattle.amt_map.specs.Walk.{judged, node_pairs, value_in}
use Rattle.amt_map.proofs.ReadOneNode.{ok_gives}
use Rattle.amt_map.proofs.WalkSteps.{block_step}

same_number : (x y : ℕ) → nat_eq x y ≡ true → x ≡ y
same_number x y same = grind (arith, nat_tests)

same_cid : (a b : CidParts) → same_parts a b ≡ true → a ≡ b
same_cid a b same =
    let codecs = second_so (nat_eq a.version b.version) _ same in
    let hashes = second_so (nat_eq a.codec b.codec) _ codecs in
    let version = same_number a.version b.version (first_so _ _ same) in
    let codec = same_number a.codec b.codec (first_so _ _ codecs) in
    let hash = same_number a.hash b.hash (first_so _ _ hashes) in
    let digest = same_text a.digest b.digest (sym (second_so (nat_eq a.hash b.hash) _ hashes)) in
    λ i. record { version = version i; codec = codec i; hash = hash i; digest = digest i }

found_named : (blocks : List BlockParts) (cid : CidParts) (b : BlockParts) → found blocks cid ≡ Some b → b.cid ≡ cid
found_named [] cid b e = absurd (cc e)
found_named (x ∷ blocks) cid b e =
    elim (same_parts x.cid cid) as (λ t. same_parts x.cid cid ≡ t → cond t (Some x) (found blocks cid) ≡ Some b → b.cid ≡ cid) [
      | true ↦ λ same e. let here : x ≡ b = cc e in ap (λ (c : BlockParts). c.cid) (sym here) ∙ same_cid x.cid cid same
      | false ↦ λ other e. found_named blocks cid b e
    ] refl e

-- the block whose value was read is the one under the CID
block_found : (blocks : List BlockParts) (cid : CidParts) (p : BlockParts × Value) → block_value blocks cid ≡ Ok p → found blocks cid ≡ Some p.0
block_found blocks cid p e = by (found blocks cid) refl where
  by_value : (b : BlockParts) → found blocks cid ≡ Some b → (o : Option Value) → value_in b.bytes ≡ o → found blocks cid ≡ Some p.0
  by_value b there None read = let bad : Err (Form cid) ≡ Ok p = rw (there, read) at e in absurd (cc bad)
  by_value b there (Some x) read =
      let good : Ok (b, x) ≡ Ok p = rw (there, read) at e in
      let same : (b, x) ≡ p = cc good in
      there ∙ ap (λ (q : BlockParts × Value). Some q.0) same

  by : (o : Option BlockParts) → found blocks cid ≡ o → found blocks cid ≡ Some p.0
  by None there = let bad : Err (Missing cid) ≡ Ok p = rw there at e in absurd (cc bad)
  by (Some b) there = by_value b there (value_in b.bytes) refl

-- a node that was judged has the CID of the canonical one
judged_named : (height : ℕ) (b : BlockParts) (pairs those : Pairs) → judged height b pairs ≡ Ok those → (node_block height those).cid ≡ b.cid
judged_named height b pairs those e = by (same_block (node_block height pairs) b) refl e where
  by : (t : Bool) → same_block (node_block height pairs) b ≡ t → cond t (Ok pairs) (Err (NotCanonical b.cid (node_block height pairs).cid)) ≡ Ok those → (node_block height those).cid ≡ b.cid
  by true same good =
      let is : pairs ≡ those = cc good in
      ap (λ (ps : Pairs). (node_block height ps).cid) (sym is) ∙ same_cid (node_block height pairs).cid b.cid (first_so (same_parts (node_block height pairs).cid b.cid) _ same)
  by false same good = absurd (cc good)

-- the CID of a child that gives pairs is that of their node
pub child_named : (blocks : List BlockParts) (height from : ℕ) (cid : CidParts) (pairs : Pairs) → child_pairs blocks height from cid ≡ Ok pairs → (node_block height pairs).cid ≡ cid
child_named blocks height from cid pairs e =
    let block = ok_gives (block_value blocks cid) (λ p. if_ok (node_pairs blocks height cid from p.1) (judged height p.0)) pairs (sym (block_step blocks cid (λ b value. if_ok (node_pairs blocks height cid from value) (judged height b))) ∙ e) in
    let node = ok_gives (node_pairs blocks height cid from block.0.1) (judged height block.0.0) pairs block.2 in
    judged_named height block.0.0 node.0 pairs node.2 ∙ found_named blocks cid block.0.0 (block_found blocks cid block.0 block.1)
