-- The parts of a node and of a pair, read at the front of their bytes.
use Rattle.std.proofs.Common.{◌≡◌, ℕ, suc, ◌^◌, ◌<◌, ◌≤◌, ◌&&◌, Bool, true, false, cond, eqb, leb, List, [], ◌∷◌, ◌++◌, length, map, Option, Some, None, Ok, Err, Result, IfOk, refl, sym, ap, subst, ◌∙◌, arith}
use Rattle.std.proofs.lemmas.Bool.{eq-eqb, eqb-true, le-leb, leb-true}
use Rattle.std.proofs.lemmas.List.{append-nil}
use Rattle.dag_cbor.specs.Plain.{IsPlain}
use Rattle.dag_cbor.specs.Spelling.{head, joined, spelled}
use Rattle.dag_cbor.specs.declared.value.Value.{Value, out-Value}
use Rattle.dag_cbor.specs.declared.value.Value.TheVariants as v
use Rattle.tree_blocks.specs.Forms.{bytes_in, for_each, if_some, items_in, set_bits}
use Rattle.hamt_map.specs.Canonical.{node_of}
use Rattle.fil_base.specs.CidParts.{CidParts}
use Rattle.dag_cbor.proofs.OneSpelling.{one_spelling_within}
use Rattle.hamt_map.specs.ReadPointers.{AreAt, AreParts, IsAt, IsFound, IsLeafAt, IsPointerAt, link_in}
use Rattle.hamt_map.specs.declared.node_form.ReadPointer.TheVariants as was_read
use Rattle.hamt_map.specs.Walk.{Pointer, Bucket, Child, behind_bits, pair_in, pointer_of, pointer_values, two_in, two_of, with_bits}
use Rattle.hamt_map.proofs.WholeValues.{two_are}
use Rattle.hamt_map.proofs.Depths.{two_deeper}
use Rattle.hamt_map.proofs.NodeForm.{child_is}
use Rattle.hamt_map.proofs.Fronts.{blob_found, blob_none, list_none, first_at, list_found, one_front, others_at}

-- ---- a list of two

items_are : (x : Value) (items : List Value) → x ≡ v.List items → items_in (out-Value x) ≡ Some items
items_are x items is = rw (is, v.outs-List items) refl

two_items : (items : List Value) → length items ≡ 2 → (both : Value × Value) × (two_of items ≡ Some both) × (items ≡ both.0 ∷ both.1 ∷ [])
two_items [] two = absurd (omega (arith, two))
two_items (x ∷ []) two = absurd (omega (arith, two))
two_items (x ∷ y ∷ []) two = ((x, y), refl, refl)
two_items (x ∷ y ∷ z ∷ more) two = absurd (omega (arith, two))

other_items : (items : List Value) → (length items ≡ 2 → ⊥) → two_of items ≡ None
other_items [] other = refl
other_items (x ∷ []) other = refl
other_items (x ∷ y ∷ []) other = absurd (other refl)
other_items (x ∷ y ∷ z ∷ more) other = refl

-- the two items of a list whose head was read
pub record TwoAt (d : ℕ) (x : Value) (behind rest : List ℕ) : Type 0 where
  pub both : Value × Value
  pub is : two_in x ≡ Some both
  pub at : AreAt d (both.0 ∷ both.1 ∷ []) behind rest
  pub whole : x ≡ v.List (both.0 ∷ both.1 ∷ [])

pub two_found : (d n : ℕ) (x : Value) (bytes behind rest : List ℕ) → n < 2 ^ 64 → bytes ≡ head 4 n ++ behind → n ≡ 2 → IsAt (suc d) x bytes rest → TwoAt d x behind rest
two_found d n x bytes behind rest fits here two at =
    let list = list_found d n x bytes behind rest fits here at in
    let both = two_items list.items (sym list.count ∙ two) in
    record {
      both = both.0;
      is = ap (λ (r : Option (List Value)). if_some r two_of) (items_are x list.items list.is) ∙ both.1;
      at = subst (λ (vs : List Value). AreAt d vs behind rest) both.2 list.at;
      whole = list.is ∙ ap v.List both.2;
    }

pub two_other : (d n : ℕ) (x : Value) (bytes behind rest : List ℕ) → n < 2 ^ 64 → bytes ≡ head 4 n ++ behind → (n ≡ 2 → ⊥) → IsAt (suc d) x bytes rest → two_in x ≡ None
two_other d n x bytes behind rest fits here other at =
    let list = list_found d n x bytes behind rest fits here at in
    ap (λ (r : Option (List Value)). if_some r two_of) (items_are x list.items list.is) ∙ other_items list.items (λ two. other (list.count ∙ two))

pub two_none : (x : Value) → items_in (out-Value x) ≡ None → two_in x ≡ None
two_none x none = ap (λ (r : Option (List Value)). if_some r two_of) none

-- ---- a pair

pair_of_two : (x : Value) (both : Value × Value) (r : Option (List ℕ)) → two_in x ≡ Some both → bytes_in (out-Value both.0) ≡ r → pair_in x ≡ if_some r (λ key. Some (key, both.1))
pair_of_two x both r two key =
    ap (λ (r : Option (Value × Value)). if_some r (λ both. if_some (bytes_in (out-Value both.0)) (λ key. Some (key, both.1)))) two
    ∙ ap (λ (r : Option (List ℕ)). if_some r (λ key. Some (key, both.1))) key

bytes_are : (x : Value) (content : List ℕ) → v.Blob content ≡ x → bytes_in (out-Value x) ≡ Some content
bytes_are x content is = rw (← is, v.outs-Blob content) refl

pair_no_key : (x : Value) (both : Value × Value) → two_in x ≡ Some both → bytes_in (out-Value both.0) ≡ None → pair_in x ≡ None
pair_no_key x both two none = pair_of_two x both None two none

pub pair_no_blob : (x : Value) (both : Value × Value) (bytes rest : List ℕ) → two_in x ≡ Some both → AreAt 124 (both.0 ∷ both.1 ∷ []) bytes rest
    → ((content behind : List ℕ) → length content < 2 ^ 64 → bytes ≡ head 2 (length content) ++ (content ++ behind) → ⊥) → pair_in x ≡ None
pair_no_blob x both bytes rest two at only = pair_no_key x both two (blob_none 123 both.0 bytes _ only (first_at 124 both.0 (both.1 ∷ []) bytes rest at))

-- the second of two items, behind a byte string
second_at : (d : ℕ) (both : Value × Value) (bytes behind content rest : List ℕ) → length content < 2 ^ 64 → AreAt (suc d) (both.0 ∷ both.1 ∷ []) bytes rest → bytes ≡ head 2 (length content) ++ (content ++ behind)
    → (v.Blob content ≡ both.0) × IsAt (suc d) both.1 behind rest
second_at d both bytes behind content rest fits at here =
    let first = first_at (suc d) both.0 (both.1 ∷ []) bytes rest at in
    let key = blob_found d content both.0 bytes behind (joined (map spelled (both.1 ∷ [])) ++ rest) fits here first in
    let second = first_at (suc d) both.1 [] behind rest (others_at (suc d) both.0 (both.1 ∷ []) bytes behind rest at key.1) in
    (key.0, record { plain = second.plain; parts = second.parts })

pub pair_found : (x : Value) (both : Value × Value) (bytes behind key spelling end rest : List ℕ) (leaf : List ℕ × List ℕ) → two_in x ≡ Some both → AreAt 124 (both.0 ∷ both.1 ∷ []) bytes rest → length key < 2 ^ 64
    → bytes ≡ head 2 (length key) ++ (key ++ behind) → (value : Value) → IsPlain 124 value → spelling ≡ spelled value → behind ≡ spelling ++ end → leaf ≡ (key, spelling)
    → (pair : List ℕ × Value) × (pair_in x ≡ Some pair) × IsLeafAt rest leaf end pair
pair_found x both bytes behind key spelling end rest leaf two at fits here value plain is parts same =
    let second = second_at 123 both bytes behind key rest fits at here in
    let one = one_front 124 value both.1 behind end rest (record { plain = plain; parts = parts ∙ ap (λ (t : List ℕ). t ++ end) is }) second.1 in (
      (key, both.1),
      pair_of_two x both (Some key) two (bytes_are both.0 key second.0),
      record { same = same ∙ ap (λ (t : List ℕ). (key, t)) (is ∙ ap spelled one.0); plain = second.1.plain; end = one.1 },
    )

-- the value of a pair is there
pub pair_value_there : {X : Type 0} (both : Value × Value) (bytes behind key rest : List ℕ) → AreAt 124 (both.0 ∷ both.1 ∷ []) bytes rest → length key < 2 ^ 64 → bytes ≡ head 2 (length key) ++ (key ++ behind)
    → ((value : Value) (end : List ℕ) → IsPlain 124 value → behind ≡ spelled value ++ end → ⊥) → X
pair_value_there both bytes behind key rest at fits here only =
    let second = second_at 123 both bytes behind key rest fits at here in
    absurd (only both.1 rest second.1.plain second.1.parts)

-- ---- the parts of a node

parts_of_two : (x : Value) (both : Value × Value) → two_in x ≡ Some both → pointer_values x ≡ behind_bits both
parts_of_two x both two = ap (λ (r : Option (Value × Value)). if_some r behind_bits) two

parts_no_bits : (x : Value) (both : Value × Value) → two_in x ≡ Some both → bytes_in (out-Value both.0) ≡ None → pointer_values x ≡ None
parts_no_bits x both two none = parts_of_two x both two ∙ ap (λ (r : Option (List ℕ)). if_some r (λ bits. if_some (items_in (out-Value both.1)) (with_bits bits))) none

pub parts_no_blob : (x : Value) (both : Value × Value) (bytes rest : List ℕ) → two_in x ≡ Some both → AreAt 127 (both.0 ∷ both.1 ∷ []) bytes rest
    → ((content behind : List ℕ) → length content < 2 ^ 64 → bytes ≡ head 2 (length content) ++ (content ++ behind) → ⊥) → pointer_values x ≡ None
parts_no_blob x both bytes rest two at only = parts_no_bits x both two (blob_none 126 both.0 bytes _ only (first_at 127 both.0 (both.1 ∷ []) bytes rest at))

parts_of_bits : (x : Value) (both : Value × Value) (bits : List ℕ) → two_in x ≡ Some both → v.Blob bits ≡ both.0 → pointer_values x ≡ if_some (items_in (out-Value both.1)) (with_bits bits)
parts_of_bits x both bits two is = parts_of_two x both two ∙ ap (λ (r : Option (List ℕ)). if_some r (λ bits. if_some (items_in (out-Value both.1)) (with_bits bits))) (bytes_are both.0 bits is)

pub parts_no_list : (x : Value) (both : Value × Value) (bytes behind bits rest : List ℕ) → two_in x ≡ Some both → AreAt 127 (both.0 ∷ both.1 ∷ []) bytes rest → length bits < 2 ^ 64 → bytes ≡ head 2 (length bits) ++ (bits ++ behind)
    → ((count : ℕ) (end : List ℕ) → count < 2 ^ 64 → behind ≡ head 4 count ++ end → ⊥) → pointer_values x ≡ None
parts_no_list x both bytes behind bits rest two at fits here only =
    let second = second_at 126 both bytes behind bits rest fits at here in
    parts_of_bits x both bits two second.0 ∙ ap (λ (r : Option (List Value)). if_some r (with_bits bits)) (list_none 126 both.1 behind rest only second.1)

-- the pointers that were counted
record Counted (x : Value) (bits : List ℕ) (count : ℕ) (end rest : List ℕ) : Type 0 where
  items : List Value
  values : pointer_values x ≡ with_bits bits items
  whole : x ≡ node_of bits items
  long : length items ≡ count
  at : AreAt 126 items end rest

counted : (x : Value) (both : Value × Value) (bytes behind bits end rest : List ℕ) (count : ℕ) → two_in x ≡ Some both → AreAt 127 (both.0 ∷ both.1 ∷ []) bytes rest → length bits < 2 ^ 64 → bytes ≡ head 2 (length bits) ++ (bits ++ behind)
    → count < 2 ^ 64 → behind ≡ head 4 count ++ end → Counted x bits count end rest
counted x both bytes behind bits end rest count two at fits here small list =
    let second = second_at 126 both bytes behind bits rest fits at here in
    let items = list_found 126 count both.1 behind end rest small list second.1 in
    record {
      items = items.items;
      values = parts_of_bits x both bits two second.0 ∙ ap (λ (r : Option (List Value)). if_some r (with_bits bits)) (items_are both.1 items.items items.is);
      whole = two_are x both two ∙ (λ i. v.List (sym second.0 i ∷ (items.is i ∷ [])));
      long = sym items.count;
      at = items.at;
    }

with_test : (bits : List ℕ) (items : List Value) (count : ℕ) (test : Bool) → length items ≡ count → test ≡ (leb (length bits) 4 && eqb count (set_bits bits)) → with_bits bits items ≡ cond test (Some items) None
with_test bits items count test long is = ap (λ b. cond b (Some items) None) (ap (λ (n : ℕ). leb (length bits) 4 && eqb n (set_bits bits)) long ∙ sym is)

pub parts_found : (x : Value) (both : Value × Value) (bytes behind bits end : List ℕ) (count : ℕ) (test : Bool) → two_in x ≡ Some both → AreAt 127 (both.0 ∷ both.1 ∷ []) bytes [] → length bits < 2 ^ 64 → bytes ≡ head 2 (length bits) ++ (bits ++ behind)
    → count < 2 ^ 64 → behind ≡ head 4 count ++ end → test ≡ (leb (length bits) 4 && eqb count (set_bits bits)) → test ≡ true → (values : List Value) × (pointer_values x ≡ Some values) × AreParts x bits count end values
parts_found x both bytes behind bits end count test two at fits here small list is good =
    let node = counted x both bytes behind bits end [] count two at fits here small list in
    (node.items, node.values ∙ with_test bits node.items count test node.long is ∙ ap (λ b. cond b (Some node.items) None) good, record { whole = node.whole; long = node.long; at = node.at })

pub parts_other : (x : Value) (both : Value × Value) (bytes behind bits end : List ℕ) (count : ℕ) (test : Bool) → two_in x ≡ Some both → AreAt 127 (both.0 ∷ both.1 ∷ []) bytes [] → length bits < 2 ^ 64 → bytes ≡ head 2 (length bits) ++ (bits ++ behind)
    → count < 2 ^ 64 → behind ≡ head 4 count ++ end → test ≡ (leb (length bits) 4 && eqb count (set_bits bits)) → test ≡ false → pointer_values x ≡ None
parts_other x both bytes behind bits end count test two at fits here small list is bad =
    let node = counted x both bytes behind bits end [] count two at fits here small list in
    node.values ∙ with_test bits node.items count test node.long is ∙ ap (λ b. cond b (Some node.items) None) bad

-- ---- an item that was cut off

pub item_is : (d : ℕ) (x : Value) (bytes item behind : List ℕ) → IsPlain d x → item ≡ spelled x → bytes ≡ item ++ behind → IsAt d x bytes behind
item_is d x bytes item behind plain is parts = record { plain = plain; parts = parts ∙ ap (λ (t : List ℕ). t ++ behind) is }

-- bytes spell one value
pub one_value : (x y : Value) (bytes : List ℕ) → IsPlain 128 x → bytes ≡ spelled x → IsPlain 126 y → bytes ≡ spelled y → x ≡ y
one_value x y bytes plain is plain-y is-y = (one_spelling_within 128 x y [] [] plain (two_deeper 126 y plain-y) (ap (λ (t : List ℕ). t ++ []) (sym is ∙ is-y))).0

pub link_same : {E : Type 0} (x : Value) (bytes : List ℕ) (r : Result (Option CidParts) E) → IsPlain 128 x → bytes ≡ spelled x → IfOk r (λ cid. cid ≡ link_in (out-Value x))
    → (value : Value) → IsPlain 126 value → bytes ≡ spelled value → IfOk r (λ cid. cid ≡ link_in (out-Value value))
link_same x bytes r plain is read value plain-value is-value = subst (λ (y : Value). IfOk r (λ cid. cid ≡ link_in (out-Value y))) (one_value x value bytes plain is plain-value is-value) read

pub no_value : {X : Type 0} (bytes : List ℕ) → ((x : Value) → IsPlain 128 x → bytes ≡ spelled x → ⊥) → (value : Value) → IsPlain 126 value → bytes ≡ spelled value → X
no_value bytes only value plain is = absurd (only value (two_deeper 126 value plain) is)

-- ---- a link

pub child_none : (below : ℕ) (x y : Value) (bytes behind rest : List ℕ) → 0 < below → IsAt 126 x bytes behind → None ≡ link_in (out-Value x) → IsAt 126 y bytes rest → items_in (out-Value y) ≡ None → pointer_of below (out-Value y) ≡ None
child_none below x y bytes behind rest some first none at no_items =
    child_is below (out-Value y) some no_items ∙ ap (λ (r : Option CidParts). if_some r (λ cid. Some (Child cid))) (sym (none ∙ ap (λ (z : Value). link_in (out-Value z)) (one_front 126 x y bytes behind rest first at).0))

pub child_found : (below : ℕ) (x y : Value) (bytes behind rest : List ℕ) (cid : CidParts) → 0 < below → IsAt 126 x bytes behind → Some cid ≡ link_in (out-Value x) → IsAt 126 y bytes rest → items_in (out-Value y) ≡ None
    → (that : Pointer) × (pointer_of below (out-Value y) ≡ Some that) × IsPointerAt rest (was_read.Child cid) behind that
child_found below x y bytes behind rest cid some first link at no_items =
    let one = one_front 126 x y bytes behind rest first at in (
      Child cid,
      child_is below (out-Value y) some no_items ∙ ap (λ (r : Option CidParts). if_some r (λ cid. Some (Child cid))) (sym (link ∙ ap (λ (z : Value). link_in (out-Value z)) one.0)),
      record { stands = refl; end = one.1 },
    )

-- ---- all of the bytes

-- nothing is behind a value that is all of the bytes
pub nothing_behind : (x value : Value) (bytes item rest : List ℕ) (empty : Bool) → IsPlain 128 x → item ≡ spelled x → bytes ≡ item ++ rest → empty ≡ eqb (length rest) 0 → empty ≡ false → IsPlain 128 value → bytes ≡ spelled value → ⊥
nothing_behind x value bytes item rest empty plain-x is-x parts tested off plain is =
    let one = one_front 128 x value bytes rest [] (item_is 128 x bytes item rest plain-x is-x parts) (record { plain = plain; parts = is ∙ sym (append-nil (spelled value)) }) in
    let none : false ≡ true = sym off ∙ tested ∙ ap (λ (t : List ℕ). eqb (length t) 0) one.1 in
    absurd (cc none)

-- ---- a bucket

pub bucket_pointer : {Y E : Type 0} (S : Y → Pointer → Type 0) (below : ℕ) (x : Value) (items : List Value) (r : Result (Option Y) E) → x ≡ v.List items → IfOk r (λ found. IsFound (λ y pairs. S y (Bucket pairs)) found (for_each pair_in items))
    → IfOk r (λ found. IsFound S found (pointer_of below (out-Value x)))
bucket_pointer S below x items (Err e) is read = tt
bucket_pointer S below x items (Ok None) is read = rw (is, v.outs-List items, read) refl
bucket_pointer S below x items (Ok (Some y)) is read =
    (Bucket read.0, ap (λ (z : Value). pointer_of below (out-Value z)) is ∙ rw (v.outs-List items) (ap (λ (q : Option (List (List ℕ × Value))). if_some q (λ pairs. Some (Bucket pairs))) read.1), read.2)
