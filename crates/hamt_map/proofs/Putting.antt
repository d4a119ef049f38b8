-- Putting the pairs under the pointers of a node one behind another.
use Rattle.std.proofs.Common.{◌≡◌, ℕ, zero, suc, ◌-◌, ◌<◌, ◌≤◌, ◌⊎◌, ◌&&◌, ◌||◌, inl, inr, Bool, true, false, cond, eqb, List, [], ◌∷◌, ◌++◌, length, map, Option, Some, None, Ok, Err, Result, refl, sym, ap, subst, ◌∙◌, append_assoc, append-nil, arith}
use Rattle.std.proofs.lemmas.Bool.{eqb-true}
use Rattle.std.proofs.lemmas.Bool.Decides.{nat_tests}
use Rattle.std.proofs.lemmas.List.{map-append}
use Rattle.std.proofs.lemmas.List.Elements.{All-append, All-nil}
use Rattle.std.specs.Prelude.{IfSome, T, nat_le, nat_lt}
use Rattle.std.specs.List.{AllByRecursion, AllZip, list_all}
use Rattle.std.specs.FinMap.{entries, from_entries}
use Rattle.std.specs.FinMap.Entries.{is_sorted}
use Rattle.fil_base.specs.CidParts.{CidParts}
use Rattle.cid_core.specs.BlockParts.{BlockParts, found}
use Rattle.dag_cbor.specs.Spelling.{spelled}
use Rattle.dag_cbor.specs.Plain.{IsPlain}
use Rattle.dag_cbor.specs.declared.value.Value.{Value}
use Rattle.dag_cbor.specs.declared.value.Value.TheVariants as v
use Rattle.tree_blocks.specs.Judging.{if_ok}
use Rattle.tree_blocks.specs.declared.fault.TreeFault.{TreeFault}
use Rattle.hamt_map.specs.Canonical.{bucket_place, child_place, common_place, map_of, pointer_value, with_place}
use Rattle.hamt_map.specs.Groups.{nodes_of, pointer_to}
use Rattle.hamt_map.specs.Holds.{FitNodes, spellings}
use Rattle.hamt_map.specs.Kept.{AreHeld}
use Rattle.hamt_map.specs.Loading.{gathered_map, map_under}
use Rattle.hamt_map.specs.Node.{bucket, node_block, nodes}
use Rattle.hamt_map.specs.Pairs.{Map, Pairs, key_cmp, place_on}
use Rattle.hamt_map.specs.ReadPointers.{AreSpelled, IsPointer}
use Rattle.hamt_map.specs.Walk.{Pointer, Bucket, Child, gathered}
use Rattle.hamt_map.specs.WalkedPairs.{ArePointersPut, IsPointerPut, PointsTo, StandIn}
use Rattle.hamt_map.specs.declared.node_form.ReadPointer.{ReadPointer}
use Rattle.hamt_map.specs.declared.node_form.ReadPointer.TheVariants as was_read
use Rattle.hamt_map.proofs.CanonicalParts.{AreAt, nat_lt_true, place_below, stand_begin, stand_with}
use Rattle.hamt_map.proofs.LeafLists.{first_true, second_true}
use Rattle.hamt_map.proofs.MapParts.{both_maps, entries_again, sorted_again, sorted_spelled}
use Rattle.hamt_map.proofs.NodeParts.{great_nodes_are, great_pointer, nodes_are, small_nodes, small_pointer}

-- ---- tests

one_true : (a b : Bool) → (a || b) ≡ true → (a ≡ true) ⊎ (b ≡ true)
one_true true b e = inl refl
one_true false b e = inr e

nat_le_true : (a b : ℕ) → nat_le a b ≡ true → a ≤ b
nat_le_true a b e = grind (arith, nat_tests)

length_spelled : (pairs : Pairs) → length (spellings pairs) ≡ length pairs
length_spelled [] = refl
length_spelled (p ∷ pairs) = ap suc (length_spelled pairs)

-- ---- the place of pairs

all_at : (level place : ℕ) (pairs : Pairs) → list_all (λ q. eqb (place_on level q.0) place) (spellings pairs) ≡ true → AreAt level place pairs
all_at level place [] e = tt
all_at level place (p ∷ pairs) e =
    (eqb-true (place_on level p.0) place (first_true (eqb (place_on level p.0) place) _ e), all_at level place pairs (second_true (eqb (place_on level p.0) place) _ e))

common_gives : (level : ℕ) (pairs : Pairs) → IfSome (common_place level (spellings pairs)) (λ place. (place < 32) × (0 < length pairs) × AreAt level place pairs)
common_gives level [] = tt
common_gives level (p ∷ pairs) =
    elim (list_all (λ q. eqb (place_on level q.0) (place_on level p.0)) (spellings (p ∷ pairs)))
    as (λ b. list_all (λ q. eqb (place_on level q.0) (place_on level p.0)) (spellings (p ∷ pairs)) ≡ b → IfSome (cond b (Some (place_on level p.0)) None) (λ place. (place < 32) × (0 < length (p ∷ pairs)) × AreAt level place (p ∷ pairs))) [
      | true ↦ λ all. (place_below _, omega arith, all_at level (place_on level p.0) (p ∷ pairs) all)
      | false ↦ λ other. tt
    ] refl

if_some_then : {X : Type 0} (o : Option X) {P Q : X → Type 0} → ((x : X) → P x → Q x) → IfSome o P → IfSome o Q
if_some_then None h some = tt
if_some_then (Some x) h some = h x some

-- the place of any pairs is one of a node
pub common_small : {X : Type 0} (level : ℕ) (pairs : List (List ℕ × X)) → IfSome (common_place level pairs) (λ place. place < 32)
common_small level [] = tt
common_small level (p ∷ pairs) =
    elim (list_all (λ q. eqb (place_on level q.0) (place_on level p.0)) (p ∷ pairs)) as (λ b. IfSome (cond b (Some (place_on level p.0)) None) (λ place. place < 32)) [
      | true ↦ place_below _
      | false ↦ tt
    ]

pub bucket_small : {X : Type 0} (below : ℕ) (pairs : List (List ℕ × X)) → IfSome (bucket_place below pairs) (λ place. place < 32)
bucket_small below pairs =
    elim ((eqb below 0 || nat_le (length pairs) 3) && is_sorted key_cmp pairs) as (λ b. IfSome (cond b (common_place (51 - below) pairs) None) (λ place. place < 32)) [
      | true ↦ common_small (51 - below) pairs
      | false ↦ tt
    ]

pub child_small : {X : Type 0} (below : ℕ) (pairs : List (List ℕ × X)) → IfSome (child_place below pairs) (λ place. place < 32)
child_small below pairs =
    elim (nat_lt 3 (length pairs)) as (λ b. IfSome (cond b (common_place (51 - below) pairs) None) (λ place. place < 32)) [
      | true ↦ common_small (51 - below) pairs
      | false ↦ tt
    ]

-- a bucket of a canonical node
bucket_points : (held : List BlockParts) (below : ℕ) (pairs : Pairs) → IfSome (bucket_place below (spellings pairs)) (PointsTo held below pairs (bucket pairs))
bucket_points held below pairs =
    elim ((eqb below 0 || nat_le (length (spellings pairs)) 3) && is_sorted key_cmp (spellings pairs))
    as (λ b. ((eqb below 0 || nat_le (length (spellings pairs)) 3) && is_sorted key_cmp (spellings pairs)) ≡ b → IfSome (cond b (common_place (51 - below) (spellings pairs)) None) (PointsTo held below pairs (bucket pairs))) [
      | true ↦ λ tests. if_some_then (common_place (51 - below) (spellings pairs)) (λ place given. points tests place given) (common_gives (51 - below) pairs)
      | false ↦ λ tests. tt
    ] refl where
      why : (eqb below 0 || nat_le (length (spellings pairs)) 3) ≡ true → (below ≡ 0) ⊎ (length pairs ≤ 3)
      why e = elim (one_true (eqb below 0) (nat_le (length (spellings pairs)) 3) e) [
        | inl last ↦ inl (eqb-true below 0 last)
        | inr few ↦ inr (let le = nat_le_true (length (spellings pairs)) 3 few in let same = length_spelled pairs in omega (arith, le, same))
      ]

      points : ((eqb below 0 || nat_le (length (spellings pairs)) 3) && is_sorted key_cmp (spellings pairs)) ≡ true → (place : ℕ) → (place < 32) × (0 < length pairs) × AreAt (51 - below) place pairs → PointsTo held below pairs (bucket pairs) place
      points tests place given =
          let sorted : T (is_sorted key_cmp pairs) = subst T (sym (sym (sorted_spelled pairs) ∙ second_true (eqb below 0 || nat_le (length (spellings pairs)) 3) _ tests)) tt in
          let again = sorted_again pairs sorted in
          record {
            small = given.0;
            some = given.1;
            there = given.2;
            same = ap (pointer_to below) again ∙ small_pointer below pairs (why (first_true _ (is_sorted key_cmp (spellings pairs)) tests));
            once = ap length (sym again);
            nodes = subst (AreHeld held) (sym (ap (nodes_of below) again ∙ small_nodes below pairs (why (first_true _ (is_sorted key_cmp (spellings pairs)) tests)))) (All-nil (λ b. found held b.cid ≡ Some b));
          }

-- a link of a canonical node
pub child_points : (held : List BlockParts) (below : ℕ) (cid : CidParts) (pairs : Pairs) → 0 < below → (node_block (below - 1) (entries (map_of pairs))).cid ≡ cid → length pairs ≡ length (entries (map_of pairs))
    → AreHeld held (nodes (below - 1) (entries (map_of pairs))) → IfSome (child_place below (spellings pairs)) (PointsTo held below pairs (v.Link cid))
child_points held below cid pairs some named once all =
    elim (nat_lt 3 (length (spellings pairs))) as (λ b. nat_lt 3 (length (spellings pairs)) ≡ b → IfSome (cond b (common_place (51 - below) (spellings pairs)) None) (PointsTo held below pairs (v.Link cid))) [
      | true ↦ λ many. if_some_then (common_place (51 - below) (spellings pairs)) (λ place given. record {
        small = given.0;
        some = given.1;
        there = given.2;
        same = great_pointer below (entries (map_of pairs)) some (great many) ∙ ap v.Link named;
        once = once;
        nodes = subst (AreHeld held) (sym (great_nodes_are below (entries (map_of pairs)) some (great many) ∙ sym (nodes_are (below - 1) (entries (map_of pairs))))) all;
      }) (common_gives (51 - below) pairs)
      | false ↦ λ few. tt
    ] refl where
      great : nat_lt 3 (length (spellings pairs)) ≡ true → 3 < length (entries (map_of pairs))
      great many = let more = nat_lt_true 3 (length (spellings pairs)) many in let same = length_spelled pairs in omega (arith, more, same, once)

-- ---- one pointer

-- a bucket is put as it was read
pub bucket_is_put : (held : List BlockParts) (child : CidParts → Result Map TreeFault) (below : ℕ) (pointer : ReadPointer) (bucket : List (List ℕ × List ℕ)) (that : Pointer) (old new : List (List ℕ × List ℕ)) (place : Option ℕ)
    → pointer ≡ was_read.Bucket bucket → IsPointer pointer that → new ≡ old ++ bucket → place ≡ bucket_place below bucket → IsPointerPut held child below that old new place
bucket_is_put held child below pointer bucket that old new place is stand put at = by that (rw is at stand) where
  by : (other : Pointer) → IsPointer (was_read.Bucket bucket) other → IsPointerPut held child below other old new place
  by (Child cid) nothing = absurd nothing
  by (Bucket pairs) read = record {
    pairs = pairs;
    walk = refl;
    put = put ∙ ap (λ xs. old ++ xs) read.same;
    fit = read.fit;
    canonical = subst (λ (o : Option ℕ). IfSome o (PointsTo held below pairs (pointer_value (Bucket pairs)))) (sym (at ∙ ap (bucket_place below) read.same)) (bucket_points held below pairs);
  }

-- what is put of a link is what is put of the child
pub child_is_put : (held : List BlockParts) (child : CidParts → Result Map TreeFault) (below : ℕ) (pointer : ReadPointer) (cid : CidParts) (that : Pointer) (old new : List (List ℕ × List ℕ)) (place : Option ℕ)
    → pointer ≡ was_read.Child cid → IsPointer pointer that → IsPointerPut held child below (Child cid) old new place → IsPointerPut held child below that old new place
child_is_put held child below pointer cid that old new place is stand put = by that (rw is at stand) where
  by : (other : Pointer) → IsPointer (was_read.Child cid) other → IsPointerPut held child below other old new place
  by (Bucket bucket) nothing = absurd nothing
  by (Child other) same = subst (λ (c : CidParts). IsPointerPut held child below (Child c) old new place) same put

pub child_under : (child : CidParts → Result Map TreeFault) (pointer : ReadPointer) (cid : CidParts) (that : Pointer)
    → pointer ≡ was_read.Child cid → IsPointer pointer that → map_under child that ≡ child cid
child_under child pointer cid that is stand = by that (rw is at stand) where
  by : (other : Pointer) → IsPointer (was_read.Child cid) other → map_under child other ≡ child cid
  by (Bucket bucket) nothing = absurd nothing
  by (Child other) same = ap child (sym same)

-- ---- pointer after pointer

-- the pairs under the first of those pointers are put, and the others are left
pub record PutSoFar (held : List BlockParts) (child : CidParts → Result Map TreeFault) (below : ℕ) (those : List Pointer) (left : List ReadPointer) (old now : List (List ℕ × List ℕ)) (places : Option ℕ) : Type 0 where
  pub first : List Pointer
  pub rest : List Pointer
  pub split : those ≡ first ++ rest
  pub stand : AllZip IsPointer left rest
  pub done : Pairs
  pub whole : gathered child those ≡ if_ok (gathered child rest) (λ more. Ok (done ++ more))
  pub pairs : Pairs
  pub same : map_of done ≡ map_of pairs
  pub put : now ≡ old ++ spellings pairs
  pub fit : FitNodes pairs
  pub canonical : IfSome places (StandIn held below pairs (map pointer_value first))

nothing_before : (r : Result Pairs TreeFault) → r ≡ if_ok r (λ more. Ok more)
nothing_before (Ok more) = refl
nothing_before (Err fault) = refl

pub put_begin : (held : List BlockParts) (child : CidParts → Result Map TreeFault) (below : ℕ) (those : List Pointer) (left reads : List ReadPointer) (old : List (List ℕ × List ℕ)) → left ≡ reads → AllZip IsPointer reads those
    → PutSoFar held child below those left old old (Some 0)
put_begin held child below those left reads old all stand = record {
  first = [];
  rest = those;
  split = refl;
  stand = subst (λ (rs : List ReadPointer). AllZip IsPointer rs those) (sym all) stand;
  done = [];
  whole = nothing_before (gathered child those);
  pairs = [];
  same = refl;
  put = sym (append-nil old);
  fit = All-nil (λ p. IsPlain 124 p.1);
  canonical = stand_begin held below;
}

two_steps : (done more : Pairs) (r : Result Pairs TreeFault) → if_ok (if_ok r (λ rest. Ok (more ++ rest))) (λ rest. Ok (done ++ rest)) ≡ if_ok r (λ rest. Ok ((done ++ more) ++ rest))
two_steps done more (Ok rest) = ap Ok (sym (append_assoc done more rest))
two_steps done more (Err fault) = refl

same_Ok : (m n : Map) → ◌≡◌ {A = Result Map TreeFault} (Ok m) (Ok n) → m ≡ n
same_Ok m n e = cc

standing : (held : List BlockParts) (child : CidParts → Result Map TreeFault) (below : ℕ) (those : List Pointer) (before : List ReadPointer) (first : ReadPointer) (left : List ReadPointer) (old now : List (List ℕ × List ℕ)) (places : Option ℕ)
    → before ≡ first ∷ left → (so_far : PutSoFar held child below those before old now places) → AllZip IsPointer (first ∷ left) so_far.rest
standing held child below those before first left old now places next so_far = subst (λ (reads : List ReadPointer). AllZip IsPointer reads so_far.rest) next so_far.stand

-- one more pointer, whose pairs are put
pub put_more : (held : List BlockParts) (child : CidParts → Result Map TreeFault) (below : ℕ) (those : List Pointer) (before : List ReadPointer) (next : ReadPointer) (left : List ReadPointer) (old now after : List (List ℕ × List ℕ)) (places place : Option ℕ)
    → before ≡ next ∷ left → PutSoFar held child below those before old now places → ((that : Pointer) → IsPointer next that → IsPointerPut held child below that now after place)
    → PutSoFar held child below those left old after (with_place places place)
put_more held child below those before next left old now after places place is so_far one = by so_far.rest so_far.split (standing held child below those before next left old now places is so_far) so_far.whole where
  with_pairs : (that : Pointer) (rest : List Pointer) (more : Pairs) → those ≡ so_far.first ++ that ∷ rest → AllZip IsPointer left rest → gathered child those ≡ if_ok (gathered child rest) (λ rest. Ok ((so_far.done ++ more) ++ rest))
      → (put : IsPointerPut held child below that now after place) → map_of more ≡ map_of put.pairs → PutSoFar held child below those left old after (with_place places place)
  with_pairs that rest more split stand whole put same = record {
    first = so_far.first ++ that ∷ [];
    rest = rest;
    split = split ∙ sym (append_assoc so_far.first (that ∷ []) rest);
    stand = stand;
    done = so_far.done ++ more;
    whole = whole;
    pairs = so_far.pairs ++ put.pairs;
    same = both_maps so_far.done more so_far.pairs put.pairs so_far.same same;
    put = put.put ∙ ap (λ xs. xs ++ spellings put.pairs) so_far.put ∙ append_assoc old (spellings so_far.pairs) (spellings put.pairs)
        ∙ ap (λ xs. old ++ xs) (sym (map-append (λ (p : List ℕ × Value). (p.0, spelled p.1)) so_far.pairs put.pairs));
    fit = All-append (λ p. IsPlain 124 p.1) so_far.pairs put.pairs so_far.fit put.fit;
    canonical = subst (λ (vs : List Value). IfSome (with_place places place) (StandIn held below (so_far.pairs ++ put.pairs) vs)) (sym (map-append pointer_value so_far.first (that ∷ [])))
        (stand_with held below so_far.pairs put.pairs (map pointer_value so_far.first) (pointer_value that) places place so_far.canonical put.canonical);
  }

  by : (rest : List Pointer) → those ≡ so_far.first ++ rest → AllZip IsPointer (next ∷ left) rest → gathered child those ≡ if_ok (gathered child rest) (λ more. Ok (so_far.done ++ more)) → PutSoFar held child below those left old after (with_place places place)
  by [] split stand whole = absurd stand
  by (Bucket pairs ∷ rest) split stand whole =
      let put = one (Bucket pairs) stand.0 in
      with_pairs (Bucket pairs) rest pairs split stand.1 (whole ∙ two_steps so_far.done pairs (gathered child rest)) put (same_Ok (map_of pairs) (map_of put.pairs) put.walk)
  by (Child cid ∷ rest) split stand whole =
      let put = one (Child cid) stand.0 in
      with_pairs (Child cid) rest (entries (map_of put.pairs)) split stand.1
      (whole ∙ ap (λ (r : Result Map TreeFault). if_ok (if_ok r (λ m. if_ok (gathered child rest) (λ more. Ok (entries m ++ more)))) (λ more. Ok (so_far.done ++ more))) put.walk
      ∙ two_steps so_far.done (entries (map_of put.pairs)) (gathered child rest)) put (entries_again (map_of put.pairs))

-- no pointer is left
pub put_end : (held : List BlockParts) (child : CidParts → Result Map TreeFault) (below : ℕ) (those : List Pointer) (left : List ReadPointer) (old now : List (List ℕ × List ℕ)) (places : Option ℕ) → left ≡ [] → PutSoFar held child below those left old now places
    → ArePointersPut held child below those old now places
put_end held child below those left old now places none so_far = by so_far.rest so_far.split (subst (λ (reads : List ReadPointer). AllZip IsPointer reads so_far.rest) none so_far.stand) so_far.whole where
  by : (rest : List Pointer) → those ≡ so_far.first ++ rest → AllZip IsPointer [] rest → gathered child those ≡ if_ok (gathered child rest) (λ more. Ok (so_far.done ++ more)) → ArePointersPut held child below those old now places
  by [] split stand whole = record {
    pairs = so_far.pairs;
    walk = ap (λ (r : Result Pairs TreeFault). if_ok r (λ pairs. Ok (from_entries pairs))) (whole ∙ ap Ok (append-nil so_far.done)) ∙ ap Ok so_far.same;
    put = so_far.put;
    fit = so_far.fit;
    canonical = subst (λ (ps : List Pointer). IfSome places (StandIn held below so_far.pairs (map pointer_value ps))) (sym (split ∙ append-nil so_far.first)) so_far.canonical;
  }
  by (that ∷ rest) split stand whole = absurd stand
