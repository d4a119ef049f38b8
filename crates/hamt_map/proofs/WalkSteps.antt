-- Steps of walking a tree.
use Rattle.std.proofs.Common.{◌≡◌, ℕ, zero, suc, ◌-◌, true, false, cond, List, [], ◌∷◌, ◌++◌, length, map, take, drop, Option, Some, None, Ok, Err, Result, Bool, IfErr, IfOk, IsErrAnd, arith, subst, refl, sym, ap, ◌∙◌}
use Rattle.std.proofs.Math.Seq.{drop-append_seam, take-append_seam}
use Rattle.std.proofs.lemmas.Bool.Decides.{nat_tests}
use Rattle.std.proofs.lemmas.Result.{IfOk-weaker}
use Rattle.std.specs.Prelude.{IfSome, T, nat_eq}
use Rattle.std.specs.Cmp.Lexicographic.{same_text}
use Rattle.std.proofs.lemmas.List.Elements.{All-head, All-tail}
use Rattle.std.specs.FinMap.{entries, from_entries}
use Rattle.std.specs.FinMap.Entries.{put}
use Rattle.fil_base.specs.CidEquality.{same_parts}
use Rattle.fil_base.specs.CidParts.{CidParts}
use Rattle.fil_base.specs.Failure.{IfFault}
use Rattle.fil_base.specs.declared.failure.Failure.{Failure}
use Rattle.fil_base.specs.declared.failure.Failure.TheVariants as failures
use Rattle.cid_core.specs.BlockParts.{BlockParts, found}
use Rattle.dag_cbor.specs.Plain.{IsPlain}
use Rattle.dag_cbor.specs.Spelling.{spelled}
use Rattle.dag_cbor.specs.declared.value.Value.TheVariants as v
use Rattle.hamt_map.specs.Pairs.{Map, Pairs, key_cmp}
use Rattle.hamt_map.specs.Canonical.{ArePut, child_place, map_of, node_of, pointer_value}
use Rattle.hamt_map.specs.Kept.{IsJudged}
use Rattle.hamt_map.specs.Loading.{AreFound, IsFaultOf, gathered_map, walk_child}
use Rattle.hamt_map.specs.Holds.{FitNodes, Holds, spellings}
use Rattle.hamt_map.specs.Node.{node_block}
use Rattle.hamt_map.specs.ReadPointers.{IsNodeIn}
use Rattle.tree_blocks.specs.Judging.{if_ok, same_block}
use Rattle.hamt_map.specs.Walk.{Pointer, Child, gathered, judged, node_in, walk, walked}
use Rattle.hamt_map.specs.WalkedPairs.{ArePointersPut, IsPointerPut, IsRead, IsTreePut, PointsTo}
use Rattle.hamt_map.specs.declared.node_form.ReadNode.{ReadNode}
use Rattle.tree_blocks.specs.declared.fault.TreeFault.{TreeFault}
use Rattle.tree_blocks.specs.declared.fault.TreeFault.TheVariants.{Missing, Form, NotCanonical}
use Rattle.hamt_map.proofs.Held.{Holds-empty, Holds-insert}
use Rattle.hamt_map.proofs.LeafLists.{first_true, second_true}
use Rattle.hamt_map.proofs.Putting.{child_points}

-- ---- what a walk is

walk_steps : (blocks : List BlockParts) (below : ℕ) (cid : CidParts) → walk blocks below cid ≡ walked blocks below (walk_child blocks below) cid
unfolding walk
walk_steps blocks zero cid = refl
walk_steps blocks (suc below) cid = refl

pub no_block : (blocks : List BlockParts) (below : ℕ) (cid : CidParts) → None ≡ found blocks cid → walk blocks below cid ≡ Err (Missing cid)
no_block blocks below cid none = rw (walk_steps, ← none)

pub no_form : (blocks : List BlockParts) (below : ℕ) (cid : CidParts) (b : BlockParts) → Some b ≡ found blocks cid → node_in below b.bytes ≡ None → walk blocks below cid ≡ Err (Form cid)
no_form blocks below cid b block none = rw (walk_steps, ← block, none)

-- under the CID is the node of these pointers
pub record IsNodeAt (blocks : List BlockParts) (below : ℕ) (cid : CidParts) (b : BlockParts) (those : List Pointer) : Type 0 where
  pub block : Some b ≡ found blocks cid
  pub pointers : node_in below b.bytes ≡ Some those

judged_map : (below : ℕ) (b : BlockParts) (all : Result Pairs TreeFault)
    → if_ok all (λ pairs. judged below b (from_entries pairs)) ≡ if_ok (if_ok all (λ pairs. Ok (from_entries pairs))) (judged below b)
judged_map below b (Ok pairs) = refl
judged_map below b (Err fault) = refl

pub is_judged : (blocks : List BlockParts) (below : ℕ) (cid : CidParts) (b : BlockParts) (those : List Pointer) → IsNodeAt blocks below cid b those
    → walk blocks below cid ≡ if_ok (gathered_map (walk_child blocks below) those) (judged below b)
is_judged blocks below cid b those node = rw (walk_steps, ← node.block, node.pointers) (judged_map below b (gathered (walk_child blocks below) those))

pub child_is_walked : (blocks : List BlockParts) (below : ℕ) (cid : CidParts) → (below ≡ 0 → ⊥) → walk_child blocks below cid ≡ walk blocks (below - 1) cid
child_is_walked blocks zero cid some = absurd (some refl)
child_is_walked blocks (suc below) cid some = let same : below ≡ suc below - 1 = omega arith in ap (λ (n : ℕ). walk blocks n cid) same

-- ---- what a call answers

pub fault_as : (failure : Failure TreeFault) (fault : TreeFault) (walked : Result Map TreeFault) → walked ≡ Err fault → IfFault failure (λ f. f ≡ fault) → IsFaultOf walked failure
fault_as failures.NoMemory fault walked is same = tt
fault_as (failures.Fault f) fault walked is same = is ∙ ap Err (sym same)

-- a fault below a node
pub fault_below : {X : Type 0} (blocks : List BlockParts) (below : ℕ) (cid : CidParts) (b : BlockParts) (those : List Pointer) (part : Failure TreeFault) (r : Result X (Failure TreeFault))
    → IsNodeAt blocks below cid b those → IsErrAnd r (λ failure. failure ≡ part) → IsFaultOf (gathered_map (walk_child blocks below) those) part → IfErr r (IsFaultOf (walk blocks below cid))
fault_below blocks below cid b those part (Ok x) node same h = tt
fault_below blocks below cid b those failures.NoMemory (Err failure) node same h = subst (IsFaultOf (walk blocks below cid)) (sym same) tt
fault_below blocks below cid b those (failures.Fault f) (Err failure) node same h =
    subst (IsFaultOf (walk blocks below cid)) (sym same) (is_judged blocks below cid b those node ∙ ap (λ (r : Result Map TreeFault). if_ok r (judged below b)) h)

-- the map under a node is judged
judged_below : (blocks : List BlockParts) (below : ℕ) (cid : CidParts) (b : BlockParts) (those : List Pointer) (m : Map) → IsNodeAt blocks below cid b those
    → gathered_map (walk_child blocks below) those ≡ Ok m → walk blocks below cid ≡ judged below b m
judged_below blocks below cid b those m node gather = is_judged blocks below cid b those node ∙ ap (λ (r : Result Map TreeFault). if_ok r (judged below b)) gather

-- ---- the CID of a node that was walked

same_number : (x y : ℕ) → nat_eq x y ≡ true → x ≡ y
same_number x y same = grind (arith, nat_tests)

same_cid : (a b : CidParts) → same_parts a b ≡ true → a ≡ b
same_cid a b same =
    let codecs = second_true (nat_eq a.version b.version) _ same in
    let hashes = second_true (nat_eq a.codec b.codec) _ codecs in
    let version = same_number a.version b.version (first_true (nat_eq a.version b.version) _ same) in
    let codec = same_number a.codec b.codec (first_true (nat_eq a.codec b.codec) _ codecs) in
    let hash = same_number a.hash b.hash (first_true (nat_eq a.hash b.hash) _ hashes) in
    let digest = same_text a.digest b.digest (sym (second_true (nat_eq a.hash b.hash) _ hashes)) in
    λ i. record { version = version i; codec = codec i; hash = hash i; digest = digest i }

found_named : (blocks : List BlockParts) (cid : CidParts) (b : BlockParts) → found blocks cid ≡ Some b → b.cid ≡ cid
found_named [] cid b e = absurd (cc e)
found_named (x ∷ blocks) cid b e =
    elim (same_parts x.cid cid) as (λ t. same_parts x.cid cid ≡ t → cond t (Some x) (found blocks cid) ≡ Some b → b.cid ≡ cid) [
      | true ↦ λ same e. let here : x ≡ b = cc e in ap (λ (c : BlockParts). c.cid) (sym here) ∙ same_cid x.cid cid same
      | false ↦ λ other e. found_named blocks cid b e
    ] refl e

-- the CID of a walk that gives a map is that of the map's node
pub walk_named : (blocks : List BlockParts) (below : ℕ) (cid : CidParts) (m : Map) → walk blocks below cid ≡ Ok m → (node_block below (entries m)).cid ≡ cid
walk_named blocks below cid m e = by_block (found blocks cid) refl where
  by_judged : (b : BlockParts) (n : Map) → found blocks cid ≡ Some b → judged below b n ≡ Ok m → (node_block below (entries m)).cid ≡ cid
  by_judged b n block good =
      elim (same_block (node_block below (entries n)) b) as (λ t. same_block (node_block below (entries n)) b ≡ t → cond t (Ok n) (Err (NotCanonical b.cid (node_block below (entries n)).cid)) ≡ Ok m → (node_block below (entries m)).cid ≡ cid) [
        | true ↦ λ same good.
            let maps : n ≡ m = cc good in
            ap (λ (k : Map). (node_block below (entries k)).cid) (sym maps)
            ∙ same_cid (node_block below (entries n)).cid b.cid (first_true (same_parts (node_block below (entries n)).cid b.cid) _ same) ∙ found_named blocks cid b block
        | false ↦ λ other good. absurd (cc good)
      ] refl good

  by_gathered : (b : BlockParts) (all : Result Map TreeFault) → found blocks cid ≡ Some b → if_ok all (judged below b) ≡ Ok m → (node_block below (entries m)).cid ≡ cid
  by_gathered b (Ok n) block good = by_judged b n block good
  by_gathered b (Err fault) block good = absurd (cc good)

  by_pointers : (b : BlockParts) (read : Option (List Pointer)) → found blocks cid ≡ Some b → node_in below b.bytes ≡ read → (node_block below (entries m)).cid ≡ cid
  by_pointers b None block read = let bad : Err (Form cid) ≡ Ok m = sym (no_form blocks below cid b (sym block) read) ∙ e in absurd (cc bad)
  by_pointers b (Some those) block read = by_gathered b (gathered_map (walk_child blocks below) those) block (sym (is_judged blocks below cid b those (record { block = sym block; pointers = read })) ∙ e)

  by_block : (o : Option BlockParts) → found blocks cid ≡ o → (node_block below (entries m)).cid ≡ cid
  by_block None none = let bad : Err (Missing cid) ≡ Ok m = sym (no_block blocks below cid (sym none)) ∙ e in absurd (cc bad)
  by_block (Some b) block = by_pointers b (node_in below b.bytes) block refl

-- ---- what was read and judged

-- what was put under a node was read under it
was_read : (blocks : List BlockParts) (below : ℕ) (cid : CidParts) (child : CidParts → Result Map TreeFault) (b : BlockParts) (node : ReadNode) (those : List Pointer) (old new : List (List ℕ × List ℕ)) (start : ℕ) (places : Option ℕ)
    → Some b ≡ found blocks cid → b.bytes ≡ spelled (node_of node.bits.now (map pointer_value those)) → (put : ArePointersPut blocks child below those old new places) → start ≡ length old
    → IsRead blocks below b node.bits.now places (drop start new) (map_of put.pairs)
was_read blocks below cid child b node those old new start places block spells put at = record {
  pairs = put.pairs;
  pointers = map pointer_value those;
  same = (λ i. drop (at i) (put.put i)) ∙ drop-append_seam old (spellings put.pairs);
  fit = put.fit;
  map = refl;
  first = ap (found blocks) (found_named blocks cid b (sym block)) ∙ sym block;
  bytes = spells;
  canonical = put.canonical;
}

front_kept : (old new more : List (List ℕ × List ℕ)) (start : ℕ) → new ≡ old ++ more → start ≡ length old → take start new ≡ old
front_kept old new more start put at = (λ i. take (at i) (put i)) ∙ take-append_seam old more

pub judged_found : {E : Type 0} (blocks : List BlockParts) (below : ℕ) (cid : CidParts) (b : BlockParts) (node : ReadNode) (those : List Pointer) (old new after : List (List ℕ × List ℕ)) (start : ℕ) (places : Option ℕ) (r : Result Bool E)
    → Some b ≡ found blocks cid → node_in below b.bytes ≡ Some those → IsNodeIn b.bytes node those → ArePointersPut blocks (walk_child blocks below) below those old new places → start ≡ length old
    → ((m : Map) → IsRead blocks below b node.bits.now places (drop start new) m → IfOk r (IsTreePut blocks below (judged below b m) (take start new) after)) → IfOk r (IsTreePut blocks below (walk blocks below cid) old after)
judged_found blocks below cid b node those old new after start places r block reads is put at judges =
    IfOk-weaker r (IsTreePut blocks below (judged below b (map_of put.pairs)) (take start new) after) (IsTreePut blocks below (walk blocks below cid) old after) (λ by_form good.
    subst (λ (w : Result Map TreeFault). IsTreePut blocks below w old after by_form) (sym (judged_below blocks below cid b those (map_of put.pairs) (record { block = block; pointers = reads }) put.walk))
    (subst (λ (front : List (List ℕ × List ℕ)). IsTreePut blocks below (judged below b (map_of put.pairs)) front after by_form) (front_kept old new (spellings put.pairs) start put.put at) good))
    (judges (map_of put.pairs) (was_read blocks below cid (walk_child blocks below) b node those old new start places block is.whole put at))

pub judged_fault : {X : Type 0} (blocks : List BlockParts) (below : ℕ) (cid : CidParts) (b : BlockParts) (node : ReadNode) (those : List Pointer) (old new : List (List ℕ × List ℕ)) (start : ℕ) (places : Option ℕ) (r : Result X (Failure TreeFault))
    → Some b ≡ found blocks cid → node_in below b.bytes ≡ Some those → IsNodeIn b.bytes node those → ArePointersPut blocks (walk_child blocks below) below those old new places → start ≡ length old
    → ((m : Map) → IsRead blocks below b node.bits.now places (drop start new) m → IfErr r (IsFaultOf (judged below b m))) → IfErr r (IsFaultOf (walk blocks below cid))
judged_fault blocks below cid b node those old new start places (Ok x) block reads is put at judges = tt
judged_fault blocks below cid b node those old new start places (Err failures.NoMemory) block reads is put at judges = tt
judged_fault blocks below cid b node those old new start places (Err (failures.Fault f)) block reads is put at judges =
    judged_below blocks below cid b those (map_of put.pairs) (record { block = block; pointers = reads }) put.walk
    ∙ judges (map_of put.pairs) (was_read blocks below cid (walk_child blocks below) b node those old new start places block is.whole put at)

-- what a child gives is put, with its place where its nodes all have the form of canonical ones
pub child_put : (blocks : List BlockParts) (below : ℕ) (cid : CidParts) (old new : List (List ℕ × List ℕ)) (start : ℕ) (place : Option ℕ) (by_form : Bool) → (below ≡ 0 → ⊥) → IsTreePut blocks (below - 1) (walk blocks (below - 1) cid) old new by_form
    → by_form ≡ true → start ≡ length old → place ≡ child_place below (drop start new) → IsPointerPut blocks (walk_child blocks below) below (Child cid) old new place
child_put blocks below cid old new start place by_form some tree form at is = record {
  pairs = tree.put.pairs;
  walk = child_is_walked blocks below cid some ∙ tree.put.walk;
  put = tree.put.put;
  fit = tree.put.fit;
  canonical = subst (λ (o : Option ℕ). IfSome o (PointsTo blocks below tree.put.pairs (v.Link cid))) (sym (is ∙ ap (child_place below) ((λ i. drop (at i) (tree.put.put i)) ∙ drop-append_seam old (spellings tree.put.pairs))))
      (child_points blocks below cid tree.put.pairs (omega (arith, some)) (walk_named blocks (below - 1) cid (map_of tree.put.pairs) tree.put.walk) tree.put.once (tree.kept (subst T (sym form) tt)));
}

-- or else with none
pub child_put_only : (blocks : List BlockParts) (below : ℕ) (cid : CidParts) (old new : List (List ℕ × List ℕ)) (by_form : Bool) → (below ≡ 0 → ⊥) → IsTreePut blocks (below - 1) (walk blocks (below - 1) cid) old new by_form
    → IsPointerPut blocks (walk_child blocks below) below (Child cid) old new None
child_put_only blocks below cid old new by_form some tree = record {
  pairs = tree.put.pairs;
  walk = child_is_walked blocks below cid some ∙ tree.put.walk;
  put = tree.put.put;
  fit = tree.put.fit;
  canonical = tt;
}

-- ---- the whole tree

-- the pairs that were put behind nothing are those of a walk
pub put_found : (walked : Result Map TreeFault) (old new pairs : List (List ℕ × List ℕ)) → old ≡ [] → ArePut walked old new → ((all : Pairs) → new ≡ spellings all → FitNodes all → Holds pairs (from_entries all)) → AreFound walked pairs
put_found walked old new pairs none put made = (map_of put.pairs, put.walk, made put.pairs (put.put ∙ ap (λ xs. xs ++ spellings put.pairs) none) put.fit)

-- what fits into a node fits as the pairs of a map
map_fits : (pairs : Pairs) → FitNodes pairs → FitNodes (entries (map_of pairs))
map_fits [] fit = (Holds-empty [] refl).fit
map_fits (p ∷ pairs) fit =
    let rest : Holds (spellings (entries (map_of pairs))) (map_of pairs) = record { same = refl; fit = map_fits pairs (All-tail (λ p. IsPlain 124 p.1) p pairs fit) } in
    (Holds-insert (spellings (entries (map_of pairs))) (put key_cmp p.0 (spelled p.1) (spellings (entries (map_of pairs)))) (map_of pairs) p.0 p.1 rest (All-head (λ p. IsPlain 124 p.1) p pairs fit) refl).fit

-- a tree whose nodes all have the form of canonical ones can be kept by its root
pub tree_kept : (held : List BlockParts) (root : CidParts) (old new : List (List ℕ × List ℕ)) (by_form : Bool) → IsTreePut held 50 (walk held 50 root) old new by_form → by_form ≡ true → IsJudged held root None
tree_kept held root old new by_form tree form = (
  map_of tree.put.pairs,
  record {
    walk = tree.put.walk;
    top = sym (walk_named held 50 root (map_of tree.put.pairs) tree.put.walk);
    nodes = tree.kept (subst T (sym form) tt);
    fit = map_fits tree.put.pairs tree.put.fit;
  },
)
