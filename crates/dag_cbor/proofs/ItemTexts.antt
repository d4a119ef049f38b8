-- The spellings of the items of a list.
use Rattle.std.proofs.Common.{◌≡◌, ℕ, ◌+◌, ◌^◌, ◌<◌, ◌≤◌, List, [], ◌∷◌, ◌++◌, length, map, Result, Ok, Err, Option, Some, None, IfOk, IfSome, IfNone, refl, sym, ap, subst, ◌∙◌, append_assoc, arith, length-append}
use Rattle.std.specs.List.{AllByRecursion}
use Rattle.std.proofs.lemmas.List.{append-nil, map-append}
use Rattle.dag_cbor.specs.Plain.{IsPlain}
use Rattle.dag_cbor.specs.Spelling.{head, joined, spelled}
use Rattle.dag_cbor.specs.declared.value.Value.{Value}
use Rattle.dag_cbor.specs.declared.value.Value.TheVariants as v
use Rattle.dag_cbor.proofs.Equations.{IsPlain-List, spelled-List}
use Rattle.dag_cbor.proofs.OneSpelling.{one_spelling_within}
use Rattle.dag_cbor.proofs.Fronts.{one_head}

-- spellings one after another
joined_append : (xs ys : List (List ℕ)) → joined (xs ++ ys) ≡ joined xs ++ joined ys
joined_append [] ys = refl
joined_append (x ∷ xs) ys = ap (λ (t : List ℕ). x ++ t) (joined_append xs ys) ∙ sym (append_assoc x (joined xs) (joined ys))

all_append : (P : Value → Type 0) (xs : List Value) (y : Value) → AllByRecursion P xs → P y → AllByRecursion P (xs ++ (y ∷ []))
all_append P [] y all holds = (holds, tt)
all_append P (x ∷ xs) y all holds = (all.0, all_append P xs y all.1 holds)

-- so many items, with their spellings
pub record AreItems (count : ℕ) (bytes : List ℕ) (items : List Value) : Type 0 where
  pub plain : AllByRecursion (IsPlain 127) items
  pub len : length items ≡ count
  pub bytes_are : bytes ≡ joined (map spelled items)

-- the items that are left, if the bytes are so many
pub record AreLeft (count i : ℕ) (rest : List ℕ) : Type 0 where
  pub left : List Value
  pub plain : AllByRecursion (IsPlain 127) left
  pub len : length left + i ≡ count
  pub rest_is : rest ≡ joined (map spelled left)

-- some items are cut off
pub record SoFar (count i : ℕ) (bytes rest : List ℕ) (texts : List (List ℕ)) : Type 0 where
  pub done : List Value
  pub plain : AllByRecursion (IsPlain 127) done
  pub len : length done ≡ i
  pub parts : bytes ≡ joined (map spelled done) ++ rest
  pub texts_are : texts ≡ map spelled done
  pub only : (items : List Value) → AreItems count bytes items → AreLeft count i rest

pub none_yet : (count : ℕ) (bytes : List ℕ) (texts : List (List ℕ)) → texts ≡ [] → SoFar count 0 bytes bytes texts
none_yet count bytes texts none = record {
  done = [];
  plain = tt;
  len = refl;
  parts = refl;
  texts_are = none;
  only = λ items are. record { left = items; plain = are.plain; len = omega (arith, are.len); rest_is = are.bytes_are };
}

-- one of them is at the front
next_left : (count i : ℕ) (rest front behind : List ℕ) (value : Value) → i < count → IsPlain 127 value → front ≡ spelled value → rest ≡ front ++ behind → AreLeft count i rest → AreLeft count (i + 1) behind
next_left count i rest front behind value more plain is parts left = by left.left left.plain left.len left.rest_is where
  by : (xs : List Value) → AllByRecursion (IsPlain 127) xs → length xs + i ≡ count → rest ≡ joined (map spelled xs) → AreLeft count (i + 1) behind
  by [] all len rest_is = absurd (omega (arith, len, more))
  by (x ∷ xs) all len rest_is =
      let same = one_spelling_within 127 value x behind (joined (map spelled xs)) plain all.0 (ap (λ (t : List ℕ). t ++ behind) (sym is) ∙ sym parts ∙ rest_is) in
      record { left = xs; plain = all.1; len = omega (arith, len); rest_is = same.1 }

pub one_more : (count i : ℕ) (bytes rest front behind : List ℕ) (value : Value) (texts new : List (List ℕ)) → SoFar count i bytes rest texts → i < count → IsPlain 127 value → front ≡ spelled value → rest ≡ front ++ behind
    → new ≡ texts ++ (front ∷ []) → SoFar count (i + 1) bytes behind new
one_more count i bytes rest front behind value texts new so_far more plain is parts pushed = record {
  done = so_far.done ++ (value ∷ []);
  plain = all_append (IsPlain 127) so_far.done value so_far.plain plain;
  len = omega (arith, length-append so_far.done (value ∷ []), so_far.len);
  parts =
      so_far.parts
      ∙ ap (λ (t : List ℕ). joined (map spelled so_far.done) ++ t) (parts ∙ ap (λ (t : List ℕ). t ++ behind) is)
      ∙ sym (append_assoc (joined (map spelled so_far.done)) (spelled value) behind)
      ∙ ap (λ (t : List ℕ). (joined (map spelled so_far.done) ++ t) ++ behind) (sym (append-nil (spelled value)))
      ∙ ap (λ (t : List ℕ). t ++ behind) (sym (joined_append (map spelled so_far.done) (spelled value ∷ [])))
      ∙ ap (λ (ts : List (List ℕ)). joined ts ++ behind) (sym (map-append spelled so_far.done (value ∷ [])));
  texts_are = pushed ∙ (λ i. so_far.texts_are i ++ (is i ∷ [])) ∙ sym (map-append spelled so_far.done (value ∷ []));
  only = λ items are. next_left count i rest front behind value more plain is parts (so_far.only items are);
}

-- nothing is at the front, where an item is left
pub no_front : (count i : ℕ) (bytes rest : List ℕ) (texts : List (List ℕ)) → SoFar count i bytes rest texts → i < count → ((value : Value) (more : List ℕ) → IsPlain 127 value → rest ≡ spelled value ++ more → ⊥)
    → (items : List Value) → AllByRecursion (IsPlain 127) items → length items ≡ count → bytes ≡ joined (map spelled items) → ⊥
no_front count i bytes rest texts so_far more never items plain len is =
    let left = so_far.only items (record { plain = plain; len = len; bytes_are = is }) in
    by left.left left.plain left.len left.rest_is
  where
    by : (xs : List Value) → AllByRecursion (IsPlain 127) xs → length xs + i ≡ count → rest ≡ joined (map spelled xs) → ⊥
    by [] all len rest_is = omega (arith, len, more)
    by (x ∷ xs) all len rest_is = never x (joined (map spelled xs)) all.0 rest_is

-- bytes are left, where no item is
pub bytes_left : (count i : ℕ) (bytes rest : List ℕ) (texts : List (List ℕ)) → SoFar count i bytes rest texts → count ≤ i → (length rest ≡ 0 → ⊥)
    → (items : List Value) → AllByRecursion (IsPlain 127) items → length items ≡ count → bytes ≡ joined (map spelled items) → ⊥
bytes_left count i bytes rest texts so_far over some items plain len is =
    let left = so_far.only items (record { plain = plain; len = len; bytes_are = is }) in
    by left.left left.len left.rest_is
  where
    by : (xs : List Value) → length xs + i ≡ count → rest ≡ joined (map spelled xs) → ⊥
    by [] len rest_is = some (ap length rest_is)
    by (x ∷ xs) len rest_is = omega (arith, len, over)

-- all items are cut off
pub all_cut : (count i : ℕ) (bytes rest : List ℕ) (texts : List (List ℕ)) → SoFar count i bytes rest texts → i ≡ count → rest ≡ []
    → (items : List Value) × AllByRecursion (IsPlain 127) items × (length items ≡ count) × (bytes ≡ joined (map spelled items)) × (texts ≡ map spelled items)
all_cut count i bytes rest texts so_far all none =
    (so_far.done, so_far.plain, so_far.len ∙ all, so_far.parts ∙ ap (λ (t : List ℕ). joined (map spelled so_far.done) ++ t) none ∙ append-nil (joined (map spelled so_far.done)), so_far.texts_are)

-- ---- the list itself

pub list_is : (bytes rest : List ℕ) (count : ℕ) (items : List Value) → bytes ≡ head 4 count ++ rest → count < 2 ^ 64 → AllByRecursion (IsPlain 127) items → length items ≡ count → rest ≡ joined (map spelled items)
    → IsPlain 128 (v.List items) × (bytes ≡ spelled (v.List items))
list_is bytes rest count items is small plain len rest_is = (
  subst (λ (P : Type 0). P) (sym (IsPlain-List 127 items)) (omega (arith, len, small), plain),
  is ∙ (λ i. head 4 (sym len i) ++ rest_is i) ∙ sym (spelled-List items),
)

pub no_list : (bytes rest : List ℕ) (count : ℕ) → bytes ≡ head 4 count ++ rest → count < 2 ^ 64
    → ((items : List Value) → AllByRecursion (IsPlain 127) items → length items ≡ count → rest ≡ joined (map spelled items) → ⊥)
    → (items : List Value) → IsPlain 128 (v.List items) → bytes ≡ spelled (v.List items) → ⊥
no_list bytes rest count is small never items plain spelled_so =
    let both = subst (λ (P : Type 0). P) (IsPlain-List 127 items) plain in
    let same = one_head 4 count (length items) rest (joined (map spelled items)) (omega arith) small both.0 (sym is ∙ spelled_so ∙ spelled-List items) in
    never items both.1 (sym same.0) same.1

pub no_list_head : (bytes : List ℕ) → ((count : ℕ) (rest : List ℕ) → count < 2 ^ 64 → bytes ≡ head 4 count ++ rest → ⊥) → (items : List Value) → IsPlain 128 (v.List items) → bytes ≡ spelled (v.List items) → ⊥
no_list_head bytes never items plain is =
    never (length items) (joined (map spelled items)) (subst (λ (P : Type 0). P) (IsPlain-List 127 items) plain).0 (is ∙ spelled-List items)

-- ---- what was found, said of something else

pub found_so : {X E : Type 0} (P Q : X → Type 0) → ((x : X) → P x → Q x) → (r : Result (Option X) E) → IfOk r (λ found. IfSome found P) → IfOk r (λ found. IfSome found Q)
found_so P Q so (Ok (Some x)) is = so x is
found_so P Q so (Ok None) is = tt
found_so P Q so (Err e) is = tt

pub none_so : {X E : Type 0} (P Q : Type 0) → (P → Q) → (r : Result (Option X) E) → IfOk r (λ found. IfNone found P) → IfOk r (λ found. IfNone found Q)
none_so P Q so (Ok (Some x)) is = tt
none_so P Q so (Ok None) is = so is
none_so P Q so (Err e) is = tt
