-- Steps of walking a tree.
use Rattle.std.proofs.Common.{◌≡◌, ℕ, zero, suc, ◌+◌, ◌-◌, ◌^◌, ◌≤◌, List, [], ◌∷◌, ◌++◌, length, take, drop, Some, None, Option, Ok, Err, Result, IfOk, IfErr, OnOk, Vec, Global, arith, refl, sym, ap, ◌∙◌, length-drop, take_all}
use Rattle.std.proofs.lemmas.List.{drop-append-le, drop-map}
use Rattle.std.specs.FinMap.{from_entries}
use Rattle.fil_base.specs.CidParts.{CidParts}
use Rattle.fil_base.specs.Failure.{IfFault}
use Rattle.fil_base.specs.declared.failure.Failure.{Failure}
use Rattle.fil_base.specs.declared.failure.Failure.TheVariants as failures
use Rattle.cid_core.specs.BlockParts.{BlockParts, found}
use Rattle.dag_cbor.specs.declared.value.Value.{Value}
use Rattle.tree_blocks.specs.Forms.{if_some}
use Rattle.tree_blocks.specs.Judging.{if_ok}
use Rattle.tree_blocks.specs.declared.fault.TreeFault.{TreeFault}
use Rattle.amt_map.specs.Holds.{Holds, spellings}
use Rattle.amt_map.specs.Loading.{ArePut, IsFaultOf, block_value, child_pairs}
use Rattle.amt_map.specs.Pairs.{Map, Pairs}
use Rattle.amt_map.specs.Reading.{AreSpelled, shown}
use Rattle.amt_map.specs.Walk.{amt_at, inner_of, inner_pairs, judged, judged_root, leaf_of, leaf_pairs, node_pairs, parts_in, root_pairs, root_parts, value_in, with_value}

-- ---- the value of a block

pub block_step : {A : Type 0} (blocks : List BlockParts) (cid : CidParts) (f : BlockParts → Value → Result A TreeFault) → with_value blocks cid f ≡ if_ok (block_value blocks cid) (λ p. f p.0 p.1)
block_step {A} blocks cid f = by (found blocks cid) refl where
  by_value : (b : BlockParts) → found blocks cid ≡ Some b → (o : Option Value) → value_in b.bytes ≡ o → with_value blocks cid f ≡ if_ok (block_value blocks cid) (λ p. f p.0 p.1)
  by_value b e None v = rw (e, v)
  by_value b e (Some x) v = rw (e, v)

  by : (o : Option BlockParts) → found blocks cid ≡ o → with_value blocks cid f ≡ if_ok (block_value blocks cid) (λ p. f p.0 p.1)
  by None e = rw e
  by (Some b) e = by_value b e (value_in b.bytes) refl

-- what the value of the block gives
pub block_gives : {A : Type 0} (blocks : List BlockParts) (cid : CidParts) (b : BlockParts) (value : Value) (f : BlockParts → Value → Result A TreeFault) → block_value blocks cid ≡ Ok (b, value) → with_value blocks cid f ≡ f b value
block_gives {A} blocks cid b value f e = block_step blocks cid f ∙ ap (λ (r : Result (BlockParts × Value) TreeFault). if_ok r (λ p. f p.0 p.1)) e

pub no_block : {A : Type 0} (blocks : List BlockParts) (cid : CidParts) (fault : TreeFault) (f : BlockParts → Value → Result A TreeFault) → block_value blocks cid ≡ Err fault → with_value blocks cid f ≡ Err fault
no_block {A} blocks cid fault f e = block_step blocks cid f ∙ ap (λ (r : Result (BlockParts × Value) TreeFault). if_ok r (λ p. f p.0 p.1)) e

-- the block that was found, with the value that it spells
pub block_read : (blocks : List BlockParts) (cid : CidParts) (b : BlockParts) (value : Value) → found blocks cid ≡ Some b → Some value ≡ value_in b.bytes → block_value blocks cid ≡ Ok (b, value)
block_read blocks cid b value there read = rw (there, ← read)

-- ---- the pairs under a node

pub at_zero : (blocks : List BlockParts) (height : ℕ) (cid : CidParts) (from : ℕ) (value : Value) → height ≡ 0 → leaf_pairs cid from (if_some (parts_in value) leaf_of) ≡ node_pairs blocks height cid from value
unfolding node_pairs
at_zero blocks zero cid from value none = refl
at_zero blocks (suc height) cid from value none = absurd (omega (arith, none))

pub above_zero : (blocks : List BlockParts) (height : ℕ) (cid : CidParts) (from : ℕ) (value : Value) → (height ≡ 0 → ⊥)
    → inner_pairs (child_pairs blocks (height - 1)) (8 ^ suc (height - 1)) cid from (if_some (parts_in value) inner_of) ≡ node_pairs blocks height cid from value
unfolding node_pairs
above_zero blocks zero cid from value some = absurd (some refl)
above_zero blocks (suc height) cid from value some =
    let same : suc height - 1 ≡ height = omega arith in
    ap (λ (h : ℕ). inner_pairs (child_pairs blocks h) (8 ^ suc h) cid from (if_some (parts_in value) inner_of)) same

-- ---- a child

-- the pairs behind those that were there
pub behind_old : (old : List (ℕ × List ℕ)) (count : ℕ) (now : List (ℕ × Vec ℕ Global)) (pairs : Pairs) → count ≡ length old → shown now ≡ old ++ spellings pairs → shown (take (length now - count) (drop count now)) ≡ spellings pairs
behind_old old count now pairs is put =
    let all : length (drop count now) ≡ length now - count = length-drop count now in
    let none : drop count old ≡ [] = drop_whole old count (omega (arith, is)) in
    ap shown (take_all (length now - count) (drop count now) (omega (arith, all))) ∙ sym (drop-map (λ p. (p.0, p.1.items)) count now) ∙ ap (drop count) put ∙ drop-append-le count old (spellings pairs) (omega (arith, is))
    ∙ ap (λ (xs : List (ℕ × List ℕ)). xs ++ spellings pairs) none where
      drop_whole : (xs : List (ℕ × List ℕ)) (n : ℕ) → length xs ≤ n → drop n xs ≡ []
      drop_whole [] zero le = refl
      drop_whole [] (suc n) le = refl
      drop_whole (x ∷ xs) zero le = absurd (omega (arith, le))
      drop_whole (x ∷ xs) (suc n) le = drop_whole xs n (omega (arith, le))

child_judged : (blocks : List BlockParts) (height from : ℕ) (cid : CidParts) (b : BlockParts) (value : Value) (pairs : Pairs) → block_value blocks cid ≡ Ok (b, value) → node_pairs blocks height cid from value ≡ Ok pairs
    → child_pairs blocks height from cid ≡ judged height b pairs
child_judged blocks height from cid b value pairs block node =
    block_gives blocks cid b value (λ b value. if_ok (node_pairs blocks height cid from value) (judged height b)) block ∙ ap (λ (r : Result Pairs TreeFault). if_ok r (judged height b)) node

pub child_found : {X E : Type 0} (blocks : List BlockParts) (height from : ℕ) (cid : CidParts) (b : BlockParts) (value : Value) (old now : List (ℕ × List ℕ)) (r : Result X E) → block_value blocks cid ≡ Ok (b, value)
    → (put : ArePut (node_pairs blocks height cid from value) old now) → IfOk r (λ u. judged height b put.pairs ≡ Ok put.pairs) → OnOk r (ArePut (child_pairs blocks height from cid) old now)
child_found blocks height from cid b value old now (Ok x) block put judges =
    record { pairs = put.pairs; walk = child_judged blocks height from cid b value put.pairs block put.walk ∙ judges; same = put.same; fit = put.fit }
child_found blocks height from cid b value old now (Err e) block put judges = tt

pub child_fault : {X : Type 0} (blocks : List BlockParts) (height from : ℕ) (cid : CidParts) (b : BlockParts) (value : Value) (old now slice : List (ℕ × List ℕ)) (r : Result X (Failure TreeFault)) → block_value blocks cid ≡ Ok (b, value)
    → (put : ArePut (node_pairs blocks height cid from value) old now) → slice ≡ spellings put.pairs
    → ((those : Pairs) → slice ≡ spellings those → IfErr r (IsFaultOf (judged height b those))) → IfErr r (IsFaultOf (child_pairs blocks height from cid))
child_fault blocks height from cid b value old now slice (Ok x) block put are judges = tt
child_fault blocks height from cid b value old now slice (Err failures.NoMemory) block put are judges = tt
child_fault blocks height from cid b value old now slice (Err (failures.Fault f)) block put are judges = child_judged blocks height from cid b value put.pairs block put.walk ∙ judges put.pairs are

-- ---- the root

root_judged : (blocks : List BlockParts) (root : CidParts) (b : BlockParts) (value : Value) (height : ℕ) (node : Value) (pairs : Pairs) → block_value blocks root ≡ Ok (b, value) → Some (height, node) ≡ root_parts value
    → node_pairs blocks height root 0 node ≡ Ok pairs → amt_at blocks root ≡ judged_root b (from_entries pairs)
root_judged blocks root b value height node pairs block parts walk =
    block_gives blocks root b value (λ b value. if_ok (root_pairs blocks root (root_parts value)) (λ pairs. judged_root b (from_entries pairs))) block
    ∙ ap (λ (o : Option (ℕ × Value)). if_ok (root_pairs blocks root o) (λ pairs. judged_root b (from_entries pairs))) (sym parts)
    ∙ ap (λ (r : Result Pairs TreeFault). if_ok r (λ pairs. judged_root b (from_entries pairs))) walk

-- the pairs of a walk that began with none
pub are_spelled : (walked : Result Pairs TreeFault) (old now : List (ℕ × List ℕ)) → old ≡ [] → (put : ArePut walked old now) → AreSpelled now put.pairs
are_spelled walked old now none put = record { same = put.same ∙ ap (λ (ps : List (ℕ × List ℕ)). ps ++ spellings put.pairs) none; fit = put.fit }

pub root_found : {E : Type 0} (blocks : List BlockParts) (root : CidParts) (b : BlockParts) (value : Value) (height : ℕ) (node : Value) (pairs : Pairs) (r : Result (List (ℕ × List ℕ)) E) → block_value blocks root ≡ Ok (b, value)
    → Some (height, node) ≡ root_parts value → node_pairs blocks height root 0 node ≡ Ok pairs → IfOk r (λ same. (judged_root b (from_entries pairs) ≡ Ok (from_entries pairs)) × Holds same (from_entries pairs))
    → IfOk r (λ pairs. (m : Map) × (amt_at blocks root ≡ Ok m) × Holds pairs m)
root_found blocks root b value height node pairs (Ok same) block parts walk good = (from_entries pairs, root_judged blocks root b value height node pairs block parts walk ∙ good.0, good.1)
root_found blocks root b value height node pairs (Err e) block parts walk good = tt

pub root_fault : {X : Type 0} (blocks : List BlockParts) (root : CidParts) (b : BlockParts) (value : Value) (height : ℕ) (node : Value) (pairs : Pairs) (r : Result X (Failure TreeFault)) → block_value blocks root ≡ Ok (b, value)
    → Some (height, node) ≡ root_parts value → node_pairs blocks height root 0 node ≡ Ok pairs → IfErr r (IsFaultOf (judged_root b (from_entries pairs)))
    → IfErr r (λ failure. IfFault failure (λ fault. amt_at blocks root ≡ Err fault))
root_fault blocks root b value height node pairs (Ok x) block parts walk bad = tt
root_fault blocks root b value height node pairs (Err failures.NoMemory) block parts walk bad = tt
root_fault blocks root b value height node pairs (Err (failures.Fault f)) block parts walk bad = root_judged blocks root b value height node pairs block parts walk ∙ bad
