-- The one value that bytes spell.
use Rattle.std.proofs.Common.{◌≡◌, ℕ, ◌^◌, ◌<◌, List, [], ◌++◌, length, map, Bool, cond, eqb, Some, None, Ok, Err, Result, IsErr, refl, sym, ap, subst, ◌∙◌, append-nil}
use Rattle.std.proofs.lemmas.Bool.{false≢true, ne_eqb}
use Rattle.dag_cbor.specs.Plain.{IsPlain}
use Rattle.dag_cbor.specs.Reading.{◌>>=◌, flaw, item_at, whole_at}
use Rattle.dag_cbor.specs.Spelling.{head, joined, spelled}
use Rattle.dag_cbor.specs.declared.fault.CborKind.TheVariants as kinds
use Rattle.dag_cbor.specs.declared.fault.Flaw.{Flaw}
use Rattle.dag_cbor.specs.declared.value.Value.{Value, Value-F, out-Value, roll-Value, roll-out-Value}
use Rattle.dag_cbor.specs.declared.value.Value.TheVariants as v
use Rattle.dag_cbor.specs.declared.value.Value.TheOpen as layer
use Rattle.dag_cbor.proofs.Equations.{IsPlain-Blob, IsPlain-List, spelled-Blob, spelled-List}
use Rattle.dag_cbor.proofs.OneSpelling.{one_spelling_within}
use Rattle.tree_blocks.specs.Forms.{bytes_in, items_in}
use Rattle.amt_map.specs.ValueBytes.{IsFront, IsOneList, IsOneValue, or_none, or_null, the_items, the_value}
use Rattle.amt_map.specs.Walk.{value_in}
use Rattle.amt_map.proofs.Fronts.{blob_of_head, list_of_head}
use Rattle.amt_map.proofs.NodeForm.{value_read}

-- ---- the value

pub the_value_is : (bytes : List ℕ) (x : Value) → IsPlain 128 x → bytes ≡ spelled x → the_value bytes ≡ x
unfolding the_value
the_value_is bytes x plain is = ap or_null (sym (value_read bytes x plain is))

pub the_plain : (bytes : List ℕ) → IsOneValue bytes → IsPlain 128 (the_value bytes)
the_plain bytes one = subst (IsPlain 128) (sym (the_value_is bytes one.value one.plain one.same)) one.plain

pub the_spelled : (bytes : List ℕ) → IsOneValue bytes → bytes ≡ spelled (the_value bytes)
the_spelled bytes one = one.same ∙ ap spelled (sym (the_value_is bytes one.value one.plain one.same))

pub the_read : (bytes : List ℕ) → IsOneValue bytes → Some (the_value bytes) ≡ value_in bytes
the_read bytes one = value_read bytes (the_value bytes) (the_plain bytes one) (the_spelled bytes one)

pub one_of : (bytes : List ℕ) (x : Value) → IsPlain 128 x → bytes ≡ spelled x → IsOneValue bytes
one_of bytes x plain is = record { value = x; plain = plain; same = is }

-- ---- whether bytes spell a value

pub all_of_it : (bytes front rest : List ℕ) (x : Value) → IsPlain 128 x → front ≡ spelled x → bytes ≡ front ++ rest → rest ≡ [] → IsOneValue bytes
all_of_it bytes front rest x plain is parts none = one_of bytes x plain (parts ∙ (λ i. is i ++ none i) ∙ append-nil (spelled x))

pub more_behind : (bytes rest : List ℕ) (x : Value) → item_at 128 bytes ≡ Ok (x, rest) → (length rest ≡ 0 → ⊥) → value_in bytes ≡ None
unfolding whole_at
more_behind bytes rest x read some =
    let test : eqb (length rest) 0 ≡ Bool.false = ne_eqb (length rest) 0 some in
    let whole : whole_at bytes ≡ Err (flaw kinds.Trailing (length rest)) =
    ap (λ (r : Result (Value × List ℕ) Flaw). r >>= λ y. cond (eqb (length y.1) 0) (Ok y.0) (Err (flaw kinds.Trailing (length y.1)))) read
    ∙ ap (λ (t : Bool). cond t (Ok x) (Err (flaw kinds.Trailing (length rest)))) test in
    rw whole

pub no_item : (bytes : List ℕ) → IsErr (item_at 128 bytes) → value_in bytes ≡ None
unfolding whole_at
no_item bytes bad = by (item_at 128 bytes) refl bad where
  by : (r : Result (Value × List ℕ) Flaw) → item_at 128 bytes ≡ r → IsErr r → value_in bytes ≡ None
  by (Ok x) e bad = absurd (false≢true bad)
  by (Err at) e bad = rw e

-- ---- lists

-- a list with its items
pub record HasItems (bytes : List ℕ) (count : ℕ) (rest : List ℕ) : Type 0 where
  pub list : the_value bytes ≡ v.List (the_items bytes)
  pub items : Some (the_items bytes) ≡ items_in (out-Value (the_value bytes))
  pub count_is : count ≡ length (the_items bytes)
  pub rest_is : rest ≡ joined (map spelled (the_items bytes))

pub list_found : (bytes : List ℕ) (count : ℕ) (rest : List ℕ) → IsOneValue bytes → count < 2 ^ 64 → bytes ≡ head 4 count ++ rest → HasItems bytes count rest
unfolding the_items
list_found bytes count rest one small is =
    let x : Value = the_value bytes in
    let has = list_of_head 127 x count rest (the_plain bytes one) small (sym (the_spelled bytes one) ∙ is) in
    let read : items_in (out-Value x) ≡ Some has.items = ap (λ (y : Value). items_in (out-Value y)) has.is_list ∙ ap items_in (v.outs-List has.items) in
    let same : the_items bytes ≡ has.items = ap or_none read in
    record {
      list = has.is_list ∙ ap (λ (xs : List Value). v.List xs) (sym same);
      items = ap Some same ∙ sym read;
      count_is = has.count_is ∙ ap length (sym same);
      rest_is = has.rest_is ∙ ap (λ (xs : List Value). joined (map spelled xs)) (sym same);
    }

few_items : (x : Value) (items : List Value) → IsPlain 128 x → x ≡ v.List items → length items < 2 ^ 64
few_items x items plain is = (subst (λ (P : Type 0). P) (IsPlain-List 127 items) (subst (IsPlain 128) is plain)).0

-- no bytes of a list begin in another way
list_begins : (x : Value) (bytes : List ℕ) (items : List Value) → IsPlain 128 x → bytes ≡ spelled x → x ≡ v.List items → ((count : ℕ) (rest : List ℕ) → count < 2 ^ 64 → bytes ≡ head 4 count ++ rest → ⊥) → ⊥
list_begins x bytes items plain is list never = never (length items) (joined (map spelled items)) (few_items x items plain list) (is ∙ ap spelled list ∙ spelled-List items)

pub list_none : (bytes : List ℕ) → IsOneValue bytes → ((count : ℕ) (rest : List ℕ) → count < 2 ^ 64 → bytes ≡ head 4 count ++ rest → ⊥) → None ≡ items_in (out-Value (the_value bytes))
list_none bytes one never = by (out-Value (the_value bytes)) (roll-out-Value (the_value bytes)) where
  by : (l : Value-F Value) → roll-Value l ≡ the_value bytes → None ≡ items_in l
  by layer.Null is = refl
  by (layer.Bool b) is = refl
  by (layer.Int n) is = refl
  by (layer.Blob content) is = refl
  by (layer.Text content) is = refl
  by (layer.List items) is = absurd (list_begins (the_value bytes) bytes items (the_plain bytes one) (the_spelled bytes one) (sym is ∙ v.rolls-List items) never)
  by (layer.Map pairs) is = refl
  by (layer.Link cid) is = refl

pub list_never : (bytes : List ℕ) → IsOneList bytes → ((count : ℕ) (rest : List ℕ) → count < 2 ^ 64 → bytes ≡ head 4 count ++ rest → ⊥) → ⊥
list_never bytes list never = list_begins (the_value bytes) bytes (the_items bytes) (the_plain bytes list.one) (the_spelled bytes list.one) list.list never

-- ---- byte strings

pub blob_found : (bytes content rest : List ℕ) → IsOneValue bytes → length content < 2 ^ 64 → bytes ≡ head 2 (length content) ++ (content ++ rest) → Some content ≡ bytes_in (out-Value (the_value bytes))
blob_found bytes content rest one small is =
    let x : Value = the_value bytes in
    let same : x ≡ v.Blob content = blob_of_head 127 x content rest (the_plain bytes one) small (sym (the_spelled bytes one) ∙ is) in
    sym (ap (λ (y : Value). bytes_in (out-Value y)) same ∙ ap bytes_in (v.outs-Blob content))

blob_begins : (x : Value) (bytes content : List ℕ) → IsPlain 128 x → bytes ≡ spelled x → x ≡ v.Blob content → ((content rest : List ℕ) → length content < 2 ^ 64 → bytes ≡ head 2 (length content) ++ (content ++ rest) → ⊥) → ⊥
blob_begins x bytes content plain is blob never =
    never content [] (subst (λ (P : Type 0). P) (IsPlain-Blob 127 content) (subst (IsPlain 128) blob plain))
    (is ∙ ap spelled blob ∙ spelled-Blob content ∙ ap (λ (c : List ℕ). head 2 (length content) ++ c) (sym (append-nil content)))

pub blob_none : (bytes : List ℕ) → IsOneValue bytes → ((content rest : List ℕ) → length content < 2 ^ 64 → bytes ≡ head 2 (length content) ++ (content ++ rest) → ⊥) → None ≡ bytes_in (out-Value (the_value bytes))
blob_none bytes one never = by (out-Value (the_value bytes)) (roll-out-Value (the_value bytes)) where
  by : (l : Value-F Value) → roll-Value l ≡ the_value bytes → None ≡ bytes_in l
  by layer.Null is = refl
  by (layer.Bool b) is = refl
  by (layer.Int n) is = refl
  by (layer.Blob content) is = absurd (blob_begins (the_value bytes) bytes content (the_plain bytes one) (the_spelled bytes one) (sym is ∙ v.rolls-Blob content) never)
  by (layer.Text content) is = refl
  by (layer.List items) is = refl
  by (layer.Map pairs) is = refl
  by (layer.Link cid) is = refl

-- ---- the value at the front

pub front_is : (d : ℕ) (bytes front behind : List ℕ) (x : Value) → IsPlain d x → front ≡ spelled x → bytes ≡ front ++ behind → (y : Value) (rest : List ℕ) → IsPlain d y → bytes ≡ spelled y ++ rest → (front ≡ spelled y) × (behind ≡ rest)
front_is d bytes front behind x plain is parts y rest plain_y whole =
    let same = one_spelling_within d x y behind rest plain plain_y (ap (λ (t : List ℕ). t ++ behind) (sym is) ∙ sym parts ∙ whole) in
    (is ∙ ap spelled same.0, same.1)

pub front_never : (bytes : List ℕ) → IsFront bytes → ((y : Value) (rest : List ℕ) → IsPlain 128 y → bytes ≡ spelled y ++ rest → ⊥) → ⊥
front_never bytes front never = never front.value front.rest front.plain front.same

pub value_never : (bytes : List ℕ) → IsOneValue bytes → ((y : Value) → IsPlain 128 y → bytes ≡ spelled y → ⊥) → ⊥
value_never bytes one never = never one.value one.plain one.same
