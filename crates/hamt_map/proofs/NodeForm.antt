-- Steps of reading a node.
use Rattle.std.proofs.Common.{◌≡◌, ℕ, zero, suc, ◌-◌, ◌<◌, List, [], ◌∷◌, ◌++◌, IfOk, get_or, length, map, Some, None, Option, Ok, Err, Result, refl, sym, ap, subst, ◌∙◌, append_assoc, arith}
use Rattle.std.specs.List.{AllZip}
use Rattle.dag_cbor.specs.declared.value.Value.TheOpen as layer
use Rattle.std.proofs.lemmas.List.{append-nil, map-append, nil_from_length}
use Rattle.std.proofs.lemmas.List.Elements.{All-nil, All-push}
use Rattle.hamt_map.specs.Pairs.{Pairs}
use Rattle.hamt_map.specs.ReadPointers.{AreAt, AreSpelled, IsAt, IsFound, IsLeafAt, IsNode, IsNodeIn, IsPointer, IsPointerAt, link_in}
use Rattle.hamt_map.specs.declared.node_form.ReadNode.{ReadNode}
use Rattle.hamt_map.specs.declared.node_form.ReadPointer.{ReadPointer}
use Rattle.hamt_map.specs.declared.node_form.ReadPointer.TheVariants as was_read
use Rattle.std.proofs.Math.Dec.{eqb-suc-zero}
use Rattle.tree_blocks.specs.Forms.{for_each, if_some, items_in}
use Rattle.dag_cbor.specs.Plain.{IsPlain}
use Rattle.dag_cbor.specs.Reading.{whole_at}
use Rattle.dag_cbor.specs.Spelling.{joined, spelled}
use Rattle.dag_cbor.specs.declared.value.Value.{Value, Value-F, out-Value}
use Rattle.dag_cbor.specs.declared.fault.Flaw.{Flaw}
use Rattle.dag_cbor.proofs.Whole.{whole_again, whole_takes}
use Rattle.hamt_map.specs.Walk.{Pointer, Bucket, Child, node_in, pair_in, pointer_of, pointers_in}
use Rattle.hamt_map.proofs.Fronts.{first_at, others_at}

-- ---- pointers

-- above the last level a value that is no list is a pointer if it is a link
pub child_is : (below : ℕ) (l : Value-F Value) → 0 < below → items_in l ≡ None → pointer_of below l ≡ if_some (link_in l) (λ cid. Some (Child cid))
child_is zero l some none = absurd (omega (arith, some))
child_is (suc below) layer.Null some none = refl
child_is (suc below) (layer.Bool b) some none = refl
child_is (suc below) (layer.Int n) some none = refl
child_is (suc below) (layer.Blob bytes) some none = refl
child_is (suc below) (layer.Text bytes) some none = refl
child_is (suc below) (layer.List items) some none = absurd (cc none)
child_is (suc below) (layer.Map pairs) some none = refl
child_is (suc below) (layer.Link cid) some none = rw eqb-suc-zero refl

-- one more pair of what stands in two lists
pub zip_push : {X Y : Type 0} (R : X → Y → Type 0) (xs : List X) (ys : List Y) (x : X) (y : Y) → AllZip R xs ys → R x y → AllZip R (xs ++ x ∷ []) (ys ++ y ∷ [])
zip_push R [] [] x y all here = (here, tt)
zip_push R [] (b ∷ ys) x y all here = absurd all
zip_push R (a ∷ xs) [] x y all here = absurd all
zip_push R (a ∷ xs) (b ∷ ys) x y all here = (all.0, zip_push R xs ys x y all.1 here)

-- ---- a bucket

pub spelled_none : (leaves : List (List ℕ × List ℕ)) → leaves ≡ [] → AreSpelled leaves []
spelled_none leaves none = record { same = none; fit = All-nil (λ p. IsPlain 124 p.1) }

-- one more pair
pub spelled_more : (leaves after : List (List ℕ × List ℕ)) (done : Pairs) (key : List ℕ) (value : Value) (leaf : List ℕ × List ℕ) → AreSpelled leaves done → IsPlain 124 value → leaf ≡ (key, spelled value) → after ≡ leaves ++ leaf ∷ []
    → AreSpelled after (done ++ (key, value) ∷ [])
spelled_more leaves after done key value leaf so_far plain is pushed = record {
  same = pushed ∙ (λ i. so_far.same i ++ is i ∷ []) ∙ sym (map-append (λ (p : List ℕ × Value). (p.0, spelled p.1)) done ((key, value) ∷ []));
  fit = All-push (λ p. IsPlain 124 p.1) done (key, value) so_far.fit plain;
}

-- ---- what is read one after another

-- some values of a list are read, and the others stand at the front
pub record SoFar {A : Type 0} (f : Value → Option A) (d : ℕ) (values : List Value) (n : ℕ) (bytes last : List ℕ) (done : List A) : Type 0 where
  pub left : List Value
  pub count : length left ≡ n
  pub whole : for_each f values ≡ if_some (for_each f left) (λ ys. Some (done ++ ys))
  pub at : AreAt d left bytes last

some_again : {A : Type 0} (r : Option (List A)) → r ≡ if_some r (λ ys. Some ([] ++ ys))
some_again None = refl
some_again (Some ys) = refl

pub so_far_begin : {A : Type 0} (f : Value → Option A) (d : ℕ) (values : List Value) (n : ℕ) (bytes last : List ℕ) → length values ≡ n → AreAt d values bytes last → SoFar f d values n bytes last []
so_far_begin f d values n bytes last count at = record { left = values; count = count; whole = some_again (for_each f values); at = at }

-- the value that is read next
pub record Next {A : Type 0} (f : Value → Option A) (d : ℕ) (values : List Value) (n : ℕ) (bytes last : List ℕ) (done : List A) : Type 0 where
  pub value : Value
  pub rest : List ℕ
  pub at : IsAt d value bytes rest
  pub none : f value ≡ None → for_each f values ≡ None
  pub more : (y : A) (behind : List ℕ) → f value ≡ Some y → behind ≡ rest → SoFar f d values n behind last (done ++ y ∷ [])

joined_step : {A : Type 0} (done : List A) (y : A) (r : Option (List A)) → if_some (if_some r (λ ys. Some (y ∷ ys))) (λ ys. Some (done ++ ys)) ≡ if_some r (λ ys. Some ((done ++ y ∷ []) ++ ys))
joined_step done y None = refl
joined_step done y (Some ys) = ap Some (sym (append_assoc done (y ∷ []) ys))

pub so_far_next : {A : Type 0} (f : Value → Option A) (d : ℕ) (values : List Value) (n : ℕ) (bytes last : List ℕ) (done : List A) → 0 < n → SoFar f d values n bytes last done → Next f d values (n - 1) bytes last done
so_far_next {A = A} f d values n bytes last done some so_far = by so_far.left so_far.count so_far.whole so_far.at where
  by : (left : List Value) → length left ≡ n → for_each f values ≡ if_some (for_each f left) (λ ys. Some (done ++ ys)) → AreAt d left bytes last → Next f d values (n - 1) bytes last done
  by [] count whole at = absurd (omega (arith, some, count))
  by (x ∷ xs) count whole at = record {
    value = x;
    rest = joined (map spelled xs) ++ last;
    at = first_at d x xs bytes last at;
    none = λ off. whole ∙ ap (λ (r : Option A). if_some (if_some r (λ y. if_some (for_each f xs) (λ ys. Some (y ∷ ys)))) (λ ys. Some (done ++ ys))) off;
    more = λ y behind is same. record {
      left = xs;
      count = omega (arith, count);
      whole = whole ∙ ap (λ (r : Option A). if_some (if_some r (λ y. if_some (for_each f xs) (λ ys. Some (y ∷ ys)))) (λ ys. Some (done ++ ys))) is ∙ joined_step done y (for_each f xs);
      at = others_at d x xs bytes behind last at same;
    };
  }

pub so_far_end : {A : Type 0} (f : Value → Option A) (d : ℕ) (values : List Value) (n : ℕ) (bytes last : List ℕ) (done : List A) → n ≡ 0 → SoFar f d values n bytes last done → (for_each f values ≡ Some done) × (bytes ≡ last)
so_far_end f d values n bytes last done ends so_far =
    let nothing : so_far.left ≡ [] = nil_from_length so_far.left (so_far.count ∙ ends) in (
      so_far.whole ∙ ap (λ (vs : List Value). if_some (for_each f vs) (λ ys. Some (done ++ ys))) nothing ∙ ap Some (append-nil done),
      so_far.at.parts ∙ ap (λ (vs : List Value). joined (map spelled vs) ++ last) nothing,
    )

-- ---- the pairs of a bucket

-- leaves are read of the first pairs
pub record BucketRead (values : List Value) (n : ℕ) (bytes last : List ℕ) (leaves : List (List ℕ × List ℕ)) : Type 0 where
  pub done : Pairs
  pub so_far : SoFar pair_in 125 values n bytes last done
  pub spelled : AreSpelled leaves done

pub bucket_begin : (values : List Value) (n : ℕ) (bytes last : List ℕ) (leaves : List (List ℕ × List ℕ)) → leaves ≡ [] → length values ≡ n → AreAt 125 values bytes last → BucketRead values n bytes last leaves
bucket_begin values n bytes last leaves none count at = record { done = []; so_far = so_far_begin pair_in 125 values n bytes last count at; spelled = spelled_none leaves none }

pub bucket_none : (values : List Value) (n : ℕ) (bytes last : List ℕ) (leaves : List (List ℕ × List ℕ)) → 0 < n → BucketRead values n bytes last leaves
    → ((value : Value) (rest : List ℕ) → IsAt 125 value bytes rest → pair_in value ≡ None) → for_each pair_in values ≡ None
bucket_none values n bytes last leaves some read off =
    let next = so_far_next pair_in 125 values n bytes last read.done some read.so_far in
    next.none (off next.value next.rest next.at)

pub bucket_more : (values : List Value) (n : ℕ) (bytes behind last : List ℕ) (leaves after : List (List ℕ × List ℕ)) (leaf : List ℕ × List ℕ) → 0 < n → BucketRead values n bytes last leaves
    → ((value : Value) (rest : List ℕ) → IsAt 125 value bytes rest → (pair : List ℕ × Value) × (pair_in value ≡ Some pair) × IsLeafAt rest leaf behind pair) → after ≡ leaves ++ leaf ∷ []
    → BucketRead values (n - 1) behind last after
bucket_more values n bytes behind last leaves after leaf some read one pushed =
    let next = so_far_next pair_in 125 values n bytes last read.done some read.so_far in
    let pair = one next.value next.rest next.at in
    record {
      done = read.done ++ pair.0 ∷ [];
      so_far = next.more pair.0 behind pair.1 pair.2.end;
      spelled = spelled_more leaves after read.done pair.0.0 pair.0.1 leaf read.spelled pair.2.plain pair.2.same pushed;
    }

pub bucket_end : (values : List Value) (n : ℕ) (bytes last : List ℕ) (leaves : List (List ℕ × List ℕ)) (read : ReadPointer) → n ≡ 0 → BucketRead values n bytes last leaves → read ≡ was_read.Bucket leaves
    → (pairs : Pairs) × (for_each pair_in values ≡ Some pairs) × IsPointerAt last read bytes (Bucket pairs)
bucket_end values n bytes last leaves read ends so_far is =
    let end = so_far_end pair_in 125 values n bytes last so_far.done ends so_far.so_far in
    (so_far.done, end.0, record { stands = subst (λ (r : ReadPointer). IsPointer r (Bucket so_far.done)) (sym is) so_far.spelled; end = end.1 })

-- ---- the pointers of a node

-- what the value at the front is as a pointer
abbrev pub pointer_in : ℕ → Value → Option Pointer
pointer_in below value = pointer_of below (out-Value value)

-- the first pointers are read
pub record PointersRead (below : ℕ) (values : List Value) (n : ℕ) (bytes last : List ℕ) (pointers : List ReadPointer) : Type 0 where
  pub done : List Pointer
  pub so_far : SoFar (pointer_in below) 126 values n bytes last done
  pub zip : AllZip IsPointer pointers done

pub pointers_begin : (below : ℕ) (values : List Value) (n : ℕ) (bytes last : List ℕ) (pointers : List ReadPointer) → pointers ≡ [] → length values ≡ n → AreAt 126 values bytes last → PointersRead below values n bytes last pointers
pointers_begin below values n bytes last pointers none count at = record {
  done = [];
  so_far = so_far_begin (pointer_in below) 126 values n bytes last count at;
  zip = subst (λ (ps : List ReadPointer). AllZip IsPointer ps []) (sym none) tt;
}

pub pointers_none : (below : ℕ) (values : List Value) (n : ℕ) (bytes last : List ℕ) (pointers : List ReadPointer) → 0 < n → PointersRead below values n bytes last pointers
    → ((value : Value) (rest : List ℕ) → IsAt 126 value bytes rest → pointer_in below value ≡ None) → for_each (pointer_in below) values ≡ None
pointers_none below values n bytes last pointers some read off =
    let next = so_far_next (pointer_in below) 126 values n bytes last read.done some read.so_far in
    next.none (off next.value next.rest next.at)

pub pointers_more : (below : ℕ) (values : List Value) (n : ℕ) (bytes behind last : List ℕ) (pointers after : List ReadPointer) (pointer : ReadPointer) → 0 < n → PointersRead below values n bytes last pointers
    → ((value : Value) (rest : List ℕ) → IsAt 126 value bytes rest → (that : Pointer) × (pointer_in below value ≡ Some that) × IsPointerAt rest pointer behind that) → after ≡ pointers ++ pointer ∷ []
    → PointersRead below values (n - 1) behind last after
pointers_more below values n bytes behind last pointers after pointer some read one pushed =
    let next = so_far_next (pointer_in below) 126 values n bytes last read.done some read.so_far in
    let that = one next.value next.rest next.at in
    record {
      done = read.done ++ that.0 ∷ [];
      so_far = next.more that.0 behind that.1 that.2.end;
      zip = subst (λ (ps : List ReadPointer). AllZip IsPointer ps (read.done ++ that.0 ∷ [])) (sym pushed) (zip_push IsPointer pointers read.done pointer that.0 read.zip that.2.stands);
    }

pub pointers_end : (below : ℕ) (values : List Value) (n : ℕ) (bytes last : List ℕ) (pointers made : List ReadPointer) → n ≡ 0 → PointersRead below values n bytes last pointers → made ≡ pointers
    → (those : List Pointer) × (for_each (pointer_in below) values ≡ Some those) × AllZip IsPointer made those
pointers_end below values n bytes last pointers made ends read is =
    let end = so_far_end (pointer_in below) 126 values n bytes last read.done ends read.so_far in
    (read.done, end.0, subst (λ (ps : List ReadPointer). AllZip IsPointer ps read.done) (sym is) read.zip)

-- ---- a block's bytes

abbrev IsBytes : List ℕ → Type 0
IsBytes bytes = (i : ℕ) → get_or bytes i 0 < 256

node_in_found : (bytes : List ℕ) (x : Value) (there : Option (List Pointer)) (found : Option ReadNode) → bytes ≡ spelled x → IsFound (IsNode x) found there → IsFound (IsNodeIn bytes) found there
node_in_found bytes x there None is none = none
node_in_found bytes x there (Some node) is read = (read.0, read.1, record { zip = read.2.zip; whole = is ∙ ap spelled read.2.whole })

-- the bytes of a plain value
pub node_of_value : {E : Type 0} (below : ℕ) (bytes : List ℕ) (x : Value) (result : Result (Option ReadNode) E) → IsPlain 128 x → bytes ≡ spelled x
    → IfOk result (λ found. IsFound (IsNode x) found (pointers_in below x)) → IfOk result (λ found. IsFound (IsNodeIn bytes) found (node_in below bytes))
node_of_value below bytes x (Err e) plain is there = tt
node_of_value below bytes x (Ok found) plain is there =
    let read : whole_at bytes ≡ Ok x = ap whole_at is ∙ whole_again x plain in
    rw read (node_in_found bytes x (pointers_in below x) found is there)

-- bytes that spell no plain value
pub no_node : (below : ℕ) (bytes : List ℕ) → IsBytes bytes → ((x : Value) → IsPlain 128 x → bytes ≡ spelled x → ⊥) → node_in below bytes ≡ None
no_node below bytes fits nothing = by_reading (whole_at bytes) refl where
  by_reading : (r : Result Value Flaw) → whole_at bytes ≡ r → node_in below bytes ≡ None
  by_reading (Ok x) e = let taken = whole_takes bytes x fits e in absurd (nothing x taken.0 taken.1)
  by_reading (Err at) e = rw e
