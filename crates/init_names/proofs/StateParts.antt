-- The block of the state.
use Rattle.std.proofs.Common.{◌≡◌, ℕ, zero, suc, ◌<◌, ◌^◌, eqb, List, [], ◌∷◌, Bool, true, false, cond, length, pos, negsuc, Some, Ok, Err, Result, sym, ap, subst, arith}
use Rattle.std.specs.Prelude.{All, slice_get}
use Rattle.std.proofs.lemmas.List.Elements.{All-from_recursion, All-head, All-tail}
use Rattle.fil_base.specs.CidParts.{CidParts, IsCid}
use Rattle.dag_cbor.specs.Plain.{IsPlain, IsPlainLayer, IsText}
use Rattle.dag_cbor.specs.declared.value.Value.{Value, Value-F, out-Value}
use Rattle.dag_cbor.specs.declared.value.Value.TheVariants as v
use Rattle.dag_cbor.specs.declared.value.Value.TheOpen as layer
use Rattle.dag_cbor.proofs.Equations.{IsPlain-Text, IsPlain-List, IsPlain-Link, IsPlain-pos}
use Rattle.cbor_fields.specs.Fields.{placed}
use Rattle.cbor_fields.specs.Readers.{list_layer, list_of}
use Rattle.cbor_fields.specs.declared.field_fault.FieldKind.{FieldKind}
use Rattle.cbor_fields.specs.declared.field_fault.FieldKind.TheVariants.{WrongLength}
use Rattle.hamt_map.specs.StateFaults.{given}
use Rattle.init_names.specs.Names.{parts_value}
use Rattle.init_names.specs.Reading.{text_in, text_layer}

-- ---- writing

as_is : (P Q : Type 0) → P ≡ Q → Q → P
as_is P Q same q = subst (λ (X : Type 0). X) (sym same) q

-- the value of an ID fits into a tree
pub plain_id : (d id : ℕ) (value : Value) → id < 2 ^ 63 → value ≡ v.Int (pos id) → IsPlain (suc d) value
plain_id d id value small is = subst (IsPlain (suc d)) (sym is) (as_is (IsPlain (suc d) (v.Int (pos id))) _ (IsPlain-pos d id) (omega arith))

-- the state's value has a spelling
pub plain_parts : (names : CidParts) (next : ℕ) (network : List ℕ) → IsCid names → next < 2 ^ 63 → IsText network → IsPlain 128 (parts_value names next network)
plain_parts names next network cid small text =
    as_is (IsPlain 128 (parts_value names next network)) _ (IsPlain-List 127 (v.Link names ∷ v.Int (pos next) ∷ v.Text network ∷ [])) (
      omega arith,
      (
        as_is (IsPlain 127 (v.Link names)) _ (IsPlain-Link 126 names) cid,
        (as_is (IsPlain 127 (v.Int (pos next))) _ (IsPlain-pos 126 next) (omega arith), (as_is (IsPlain 127 (v.Text network)) _ (IsPlain-Text 126 network) text, tt)),
      ),
    )

-- ---- reading

-- what was read at a place
pub read_there : {X : Type 0} (at : ℕ) (r : Result X FieldKind) (x : X) → placed at r ≡ Ok x → Some x ≡ given r
read_there at (Ok y) x is = cc
read_there at (Err kind) x is = absurd (cc)

list_length : (n : ℕ) (l : Value-F Value) (items : List Value) → Some items ≡ given (list_layer n l) → l ≡ layer.List items
list_length n layer.Null items is = absurd (cc)
list_length n (layer.Bool b) items is = absurd (cc)
list_length n (layer.Int (pos k)) items is = absurd (cc)
list_length n (layer.Int (negsuc k)) items is = absurd (cc)
list_length n (layer.Blob bytes) items is = absurd (cc)
list_length n (layer.Text bytes) items is = absurd (cc)
list_length n (layer.List xs) items is = by_test (eqb (length xs) n) is where
  by_test : (b : Bool) → Some items ≡ given (cond b (Ok xs) (Err WrongLength)) → layer.List xs ≡ layer.List items
  by_test true e = let same : items ≡ xs = cc in ap layer.List (sym same)
  by_test false e = absurd (cc)
list_length n (layer.Map pairs) items is = absurd (cc)
list_length n (layer.Link cid) items is = absurd (cc)

-- the items of a plain list are plain
pub items_plain : (d n : ℕ) (x : Value) (items : List Value) → Some items ≡ given (list_of x n) → IsPlain (suc d) x → All (IsPlain d) items
unfolding IsPlain
items_plain d n x items is plain =
    let layered : IsPlainLayer (IsPlain d) (layer.List items) = subst (IsPlainLayer (IsPlain d)) (list_length n (out-Value x) items is) plain in
    All-from_recursion (IsPlain d) items layered.1

text_from : (d : ℕ) (l : Value-F Value) (t : List ℕ) → Some t ≡ text_layer l → IsPlainLayer (IsPlain d) l → IsText t
text_from d layer.Null t is plain = absurd (cc)
text_from d (layer.Bool b) t is plain = absurd (cc)
text_from d (layer.Int (pos k)) t is plain = absurd (cc)
text_from d (layer.Int (negsuc k)) t is plain = absurd (cc)
text_from d (layer.Blob bytes) t is plain = absurd (cc)
text_from d (layer.Text text) t is plain = let same : text ≡ t = cc in subst IsText same plain
text_from d (layer.List xs) t is plain = absurd (cc)
text_from d (layer.Map pairs) t is plain = absurd (cc)
text_from d (layer.Link cid) t is plain = absurd (cc)

-- the text of a plain value is one
pub text_plain : (d : ℕ) (x : Value) (t : List ℕ) → Some t ≡ text_in x → IsPlain (suc d) x → IsText t
unfolding IsPlain
text_plain d x t is plain = text_from d (out-Value x) t is plain

-- what holds of all items holds of one
pub item_of : {X : Type 0} (P : X → Type 0) (xs : List X) (i : ℕ) (x : X) → All P xs → slice_get xs i ≡ Some x → P x
item_of P [] i x all is = absurd (cc)
item_of P (y ∷ xs) zero x all is = let same : y ≡ x = cc in subst P same (All-head P y xs all)
item_of P (y ∷ xs) (suc i) x all is = item_of P xs i x (All-tail P y xs all) is
