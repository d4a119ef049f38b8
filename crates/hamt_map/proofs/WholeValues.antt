-- The value that a node was read of is the one of its bit field and its pointers.
use Rattle.std.proofs.Common.{◌≡◌, ℕ, true, false, cond, eqb, List, [], ◌∷◌, map, Option, Some, None, sym, ap, ◌∙◌}
use Rattle.std.specs.List.{AllZip}
use Rattle.dag_cbor.specs.declared.value.Value.{Value, Value-F, out-Value, roll-Value, roll-out-Value}
use Rattle.dag_cbor.specs.declared.value.Value.TheOpen as layer
use Rattle.dag_cbor.specs.declared.value.Value.TheVariants as v
use Rattle.tree_blocks.specs.Forms.{bytes_in, for_each, if_some, items_in}
use Rattle.tree_blocks.proofs.ForEach.{if_some_gives}
use Rattle.hamt_map.specs.Canonical.{node_of, pointer_value}
use Rattle.hamt_map.specs.Node.{pair_value}
use Rattle.hamt_map.specs.Pairs.{Pairs}
use Rattle.hamt_map.specs.ReadPointers.{IsNode, IsPointer}
use Rattle.hamt_map.specs.Walk.{Pointer, Bucket, Child, pair_in, pointer_of, pointer_values, pointers_in, two_in, two_of}
use Rattle.hamt_map.specs.declared.node_form.ReadNode.{ReadNode}

-- ---- lists and byte strings

items_layer : (l : Value-F Value) (items : List Value) → items_in l ≡ Some items → l ≡ layer.List items
items_layer layer.Null items e = absurd (cc e)
items_layer (layer.Bool b) items e = absurd (cc e)
items_layer (layer.Int n) items e = absurd (cc e)
items_layer (layer.Blob bytes) items e = absurd (cc e)
items_layer (layer.Text bytes) items e = absurd (cc e)
items_layer (layer.List xs) items e = let same : xs ≡ items = cc e in ap layer.List same
items_layer (layer.Map pairs) items e = absurd (cc e)
items_layer (layer.Link cid) items e = absurd (cc e)

bytes_layer : (l : Value-F Value) (bytes : List ℕ) → bytes_in l ≡ Some bytes → l ≡ layer.Blob bytes
bytes_layer layer.Null bytes e = absurd (cc e)
bytes_layer (layer.Bool b) bytes e = absurd (cc e)
bytes_layer (layer.Int n) bytes e = absurd (cc e)
bytes_layer (layer.Blob xs) bytes e = let same : xs ≡ bytes = cc e in ap layer.Blob same
bytes_layer (layer.Text xs) bytes e = absurd (cc e)
bytes_layer (layer.List xs) bytes e = absurd (cc e)
bytes_layer (layer.Map pairs) bytes e = absurd (cc e)
bytes_layer (layer.Link cid) bytes e = absurd (cc e)

pub list_is : (x : Value) (items : List Value) → items_in (out-Value x) ≡ Some items → x ≡ v.List items
list_is x items e = sym (roll-out-Value x) ∙ ap roll-Value (items_layer (out-Value x) items e) ∙ v.rolls-List items

pub blob_is : (x : Value) (bytes : List ℕ) → bytes_in (out-Value x) ≡ Some bytes → x ≡ v.Blob bytes
blob_is x bytes e = sym (roll-out-Value x) ∙ ap roll-Value (bytes_layer (out-Value x) bytes e) ∙ v.rolls-Blob bytes

two_items : (items : List Value) (both : Value × Value) → two_of items ≡ Some both → items ≡ both.0 ∷ both.1 ∷ []
two_items [] both e = absurd (cc e)
two_items (x ∷ []) both e = absurd (cc e)
two_items (x ∷ y ∷ []) both e =
    let same : ◌≡◌ {A = Value × Value} (x, y) both = cc e in
    ap (λ (p : Value × Value). p.0 ∷ p.1 ∷ []) same
two_items (x ∷ y ∷ z ∷ more) both e = absurd (cc e)

pub two_are : (x : Value) (both : Value × Value) → two_in x ≡ Some both → x ≡ v.List (both.0 ∷ both.1 ∷ [])
two_are x both e =
    let items = if_some_gives (items_in (out-Value x)) two_of both e in
    list_is x items.0 items.1 ∙ ap v.List (two_items items.0 both items.2)

-- ---- pointers

pair_is : (x : Value) (p : List ℕ × Value) → pair_in x ≡ Some p → pair_value p ≡ x
pair_is x p e =
    let both = if_some_gives (two_in x) (λ both. if_some (bytes_in (out-Value both.0)) (λ key. Some (key, both.1))) p e in
    let key = if_some_gives (bytes_in (out-Value both.0.0)) (λ key. Some (key, both.0.1)) p both.2 in
    let same : ◌≡◌ {A = List ℕ × Value} (key.0, both.0.1) p = cc key.2 in
    ap pair_value (sym same) ∙ ap (λ (k : Value). v.List (k ∷ both.0.1 ∷ [])) (sym (blob_is both.0.0 key.0 key.1)) ∙ sym (two_are x both.0 both.1)

pairs_are : (items : List Value) (pairs : Pairs) → for_each pair_in items ≡ Some pairs → map pair_value pairs ≡ items
pairs_are [] pairs e = let nothing : [] ≡ pairs = cc e in ap (map pair_value) (sym nothing)
pairs_are (x ∷ items) pairs e =
    let first = if_some_gives (pair_in x) (λ y. if_some (for_each pair_in items) (λ ys. Some (y ∷ ys))) pairs e in
    let rest = if_some_gives (for_each pair_in items) (λ ys. Some (first.0 ∷ ys)) pairs first.2 in
    let whole : first.0 ∷ rest.0 ≡ pairs = cc rest.2 in
    ap (map pair_value) (sym whole) ∙ (λ i. pair_is x first.0 first.1 i ∷ pairs_are items rest.0 rest.1 i)

pointer_is : (below : ℕ) (x : Value) (that : Pointer) → pointer_of below (out-Value x) ≡ Some that → pointer_value that ≡ x
pointer_is below x that e = by (out-Value x) (roll-out-Value x) e where
  by : (l : Value-F Value) → roll-Value l ≡ x → pointer_of below l ≡ Some that → pointer_value that ≡ x
  by layer.Null is e = absurd (cc e)
  by (layer.Bool b) is e = absurd (cc e)
  by (layer.Int n) is e = absurd (cc e)
  by (layer.Blob bytes) is e = absurd (cc e)
  by (layer.Text bytes) is e = absurd (cc e)
  by (layer.List items) is e =
      let pairs = if_some_gives (for_each pair_in items) (λ pairs. Some (Bucket pairs)) that e in
      let same : Bucket pairs.0 ≡ that = cc pairs.2 in
      ap pointer_value (sym same) ∙ ap v.List (pairs_are items pairs.0 pairs.1) ∙ sym (v.rolls-List items) ∙ is
  by (layer.Map pairs) is e = absurd (cc e)
  by (layer.Link cid) is e =
      elim (eqb below 0) as (λ b. cond b None (Some (Child cid)) ≡ Some that → pointer_value that ≡ x) [
        | true ↦ λ e. absurd (cc e)
        | false ↦ λ e. let same : Child cid ≡ that = cc e in ap pointer_value (sym same) ∙ sym (v.rolls-Link cid) ∙ is
      ] e

pointers_are : (below : ℕ) (values : List Value) (those : List Pointer) → for_each (λ value. pointer_of below (out-Value value)) values ≡ Some those → map pointer_value those ≡ values
pointers_are below [] those e = let nothing : [] ≡ those = cc e in ap (map pointer_value) (sym nothing)
pointers_are below (x ∷ values) those e =
    let first = if_some_gives (pointer_of below (out-Value x)) (λ y. if_some (for_each (λ value. pointer_of below (out-Value value)) values) (λ ys. Some (y ∷ ys))) those e in
    let rest = if_some_gives (for_each (λ value. pointer_of below (out-Value value)) values) (λ ys. Some (first.0 ∷ ys)) those first.2 in
    let whole : first.0 ∷ rest.0 ≡ those = cc rest.2 in
    ap (map pointer_value) (sym whole) ∙ (λ i. pointer_is below x first.0 first.1 i ∷ pointers_are below values rest.0 rest.1 i)

-- the node of a bit field and of the pointers that were read
pub node_found : (below : ℕ) (value : Value) (bits : List ℕ) (values : List Value) (node : ReadNode) (those : List Pointer) → pointer_values value ≡ Some values → value ≡ node_of bits values → node.bits.now ≡ bits
    → for_each (λ value. pointer_of below (out-Value value)) values ≡ Some those → AllZip IsPointer node.pointers those → (those : List Pointer) × (pointers_in below value ≡ Some those) × IsNode value node those
node_found below value bits values node those is whole same read zip = (
  those,
  ap (λ (r : Option (List Value)). if_some r (for_each (λ value. pointer_of below (out-Value value)))) is ∙ read,
  record { zip = zip; whole = whole ∙ (λ i. node_of (sym same i) (sym (pointers_are below values those read) i)) },
)
