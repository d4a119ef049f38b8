-- The records of actors fit into a tree, and are read as these actors.
use Rattle.std.proofs.Common.{◌≡◌, ℕ, zero, suc, ◌+◌, ◌/◌, ◌<◌, ◌≤◌, ◌^◌, List, [], ◌∷◌, true, false, cond, get_or, length, map, Option, Some, All, inl, inr, refl, sym, ap, subst, ◌∙◌, arith}
use Rattle.std.proofs.lemmas.Bool.{cases_lt}
use Rattle.std.proofs.lemmas.List.{length-map}
use Rattle.std.proofs.lemmas.List.Elements.{All-nil, All-cons, All-head, All-map, All-tail}
use Rattle.std.specs.Cmp.Lexicographic.{nat_list_cmp_total}
use Rattle.std.specs.FinMap as finmap
use Rattle.std.specs.FinMap.{contains_key, entries, from_entries, insert, len}
use Rattle.std.specs.FinMap.Entries.{by_order, put}
use Rattle.std.specs.declared.cmp.Ordering.TheVariants.{Less, Equal, Greater}
use Rattle.fil_base.specs.Varint.{varint}
use Rattle.fil_base.proofs.Varints.{varint-more, varint-small}
use Rattle.dag_cbor.specs.Plain.{IsPlain}
use Rattle.dag_cbor.specs.declared.value.Value.{Value}
use Rattle.tree_blocks.specs.Forms.{for_each, if_some}
use Rattle.hamt_map.specs.Pairs.{Pairs, key_cmp}
use Rattle.hamt_map.proofs.Depths.{four_deeper}
use Rattle.hamt_map.proofs.FitNode.{Fits}
use Rattle.hamt_map.proofs.Held.{entries-empty, key_cmp_same}
use Rattle.state_tree.specs.Actors.{Actors, AreActors, IsEntry, actor_record, id_key, record_pair, records}
use Rattle.state_tree.specs.Reading.{actors_in, pair_in}
use Rattle.state_tree.specs.declared.actor.Actor.{Actor}
use Rattle.state_tree.proofs.FindRecords.{AreActors-from_entries, map_of_records, pairs_of_actors}
use Rattle.state_tree.proofs.Keys.{id_of_key}
use Rattle.state_tree.proofs.OneState.{one_record}
use Rattle.state_tree.proofs.PlainRecord.{plain_record}
use Rattle.state_tree.proofs.RecordRead.{actor_of_record}

-- ---- one pair

short_within : (bound n : ℕ) → n ≤ bound → length (varint n) ≤ n + 1
short_within zero n within = let is = ap length (varint-small n (omega arith)) in omega (arith, is)
short_within (suc bound) n within =
    elim (cases_lt n 128) [
      | inl small ↦ let is = ap length (varint-small n small) in omega (arith, is)
      | inr great ↦
          let rest = short_within bound (n / 128) (omega arith) in
          let is = ap length (varint-more n great) in
          omega (arith, rest, is)
    ]

short_key : (id : ℕ) → id < 2 ^ 63 → length (id_key id) < 2 ^ 64
short_key id small = let few = short_within id id (omega arith) in omega (arith, few)

-- a pair is read as an actor in its ranges with its ID, and fits into a tree
record IsRead (p : List ℕ × Value) : Type 0 where
  entry : ℕ × Actor
  read : pair_in p ≡ Some entry
  is : IsEntry entry
  plain : IsPlain 124 p.1
  short : length p.0 < 2 ^ 64

one_read : (e : ℕ × Actor) → IsEntry e → IsRead (record_pair e)
one_read e is = record {
  entry = e;
  read = rw (id_of_key e.0 is.0, actor_of_record e.1 is.1) refl;
  is = is;
  plain = four_deeper 120 (actor_record e.1) (plain_record e.1 is.1);
  short = short_key e.0 is.0;
}

-- ---- the pairs of a map

put_all : (P : List ℕ × Value → Type 0) (k : List ℕ) (x : Value) (ps : Pairs) → P (k, x) → All P ps → All P (put key_cmp k x ps)
put_all P k x [] new all = All-cons P (k, x) [] new all
put_all P k x (p ∷ ps) new all =
    let here : P p = All-head P p ps all in
    let rest : All P ps = All-tail P p ps all in
    elim (key_cmp k p.0) as (λ o. key_cmp k p.0 ≡ o → All P (by_order o ((k, x) ∷ p ∷ ps) ((p.0, x) ∷ ps) (p ∷ put key_cmp k x ps))) [
      | Less ↦ λ is. All-cons P (k, x) (p ∷ ps) new all
      | Equal ↦ λ is. All-cons P (p.0, x) ps (subst (λ (key : List ℕ). P (key, x)) (key_cmp_same k p.0 is) new) rest
      | Greater ↦ λ is. All-cons P p (put key_cmp k x ps) here (put_all P k x ps new rest)
    ] refl

-- what holds of all pairs of a list holds of those of its map
from_all : (P : List ℕ × Value → Type 0) (ps : Pairs) → All P ps → All P (entries (from_entries {R = key_cmp} ps))
from_all P [] all = subst (All P) (sym entries-empty) (All-nil P)
from_all P (p ∷ ps) all =
    subst (All P) (sym (finmap.entries-insert nat_list_cmp_total (from_entries ps) p.0 p.1))
    (put_all P p.0 p.1 (entries (from_entries ps)) (All-head P p ps all) (from_all P ps (All-tail P p ps all)))

-- a map has no more pairs than the list that it is of
few_entries : (ps : Pairs) → length (entries (from_entries {R = key_cmp} ps)) ≤ length ps
few_entries [] = let none = ap length entries-empty in omega (arith, none)
few_entries (p ∷ ps) =
    let rest = few_entries ps in
    let before = finmap.len-entries (from_entries {R = key_cmp} ps) in
    let after = finmap.len-entries (insert (from_entries {R = key_cmp} ps) p.0 p.1) in
    elim (contains_key (from_entries {R = key_cmp} ps) p.0) as (λ t. len (insert (from_entries {R = key_cmp} ps) p.0 p.1) ≡ cond t (len (from_entries {R = key_cmp} ps)) (len (from_entries {R = key_cmp} ps) + 1)
    → length (entries (insert (from_entries {R = key_cmp} ps) p.0 p.1)) ≤ suc (length ps)) [
      | true ↦ λ grown. omega (arith, rest, before, after, grown)
      | false ↦ λ grown. omega (arith, rest, before, after, grown)
    ] (finmap.len-insert nat_list_cmp_total (from_entries ps) p.0 p.1)

-- ---- the records of actors

all_read : (actors : Actors) → AreActors actors → All IsRead (entries (records actors))
all_read actors are = from_all IsRead (map record_pair (entries actors)) (All-map IsRead record_pair (entries actors) (λ k d within. one_read (get_or (entries actors) k d) (are k d within)))

pub records_fit : (actors : Actors) → AreActors actors → length (entries actors) < 2 ^ 64 → Fits (entries (records actors))
records_fit actors are few =
    let all = all_read actors are in
    record {
      values = λ k d within. (all k d within).plain;
      keys = λ k d within. (all k d within).short;
      count = omega (arith, few_entries (map record_pair (entries actors)), length-map (entries actors) record_pair, few);
    }

each_read : (ps : Pairs) → All IsRead ps → (es : List (ℕ × Actor)) × (for_each pair_in ps ≡ Some es) × All IsEntry es
each_read [] all = ([], refl, All-nil IsEntry)
each_read (p ∷ ps) all =
    let here = All-head IsRead p ps all in
    let rest = each_read ps (All-tail IsRead p ps all) in
    (here.entry ∷ rest.0, rw (here.read, rest.1) refl, All-cons IsEntry here.entry rest.0 here.is rest.2)

pub records_read : (actors : Actors) → AreActors actors → actors_in (records actors) ≡ Some actors
records_read actors are =
    let read = each_read (entries (records actors)) (all_read actors are) in
    let same : records actors ≡ records (from_entries read.0) = map_of_records (records actors) read.0 read.2 (pairs_of_actors (entries (records actors)) read.0 read.1) in
    let back : from_entries read.0 ≡ actors = one_record (from_entries read.0) actors (AreActors-from_entries read.0 read.2) are (sym same) in
    ap (λ (o : Option (List (ℕ × Actor))). if_some o (λ pairs. Some (from_entries pairs))) read.1 ∙ ap Some back
