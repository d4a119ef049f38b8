-- The items of a list that stands in a block stand in it.
use Rattle.std.proofs.Common.{◌≡◌, ℕ, zero, suc, ◌+◌, ◌*◌, ◌^◌, ◌<◌, ◌≤◌, Bool, true, false, cond, ltb, List, [], ◌∷◌, ◌++◌, length, map, pos, negsuc, Some, Ok, refl, sym, ap, subst, ◌∙◌, arith}
use Rattle.std.specs.Prelude.{All, slice_get}
use Rattle.std.specs.Int.{w16, w32, w64, to_be_bytes}
use Rattle.std.specs.List.{AllByRecursion}
use Rattle.std.proofs.lemmas.List.{drop_at, length-append, take_at}
use Rattle.std.proofs.lemmas.List.Elements.{All-cons, All-drop, All-get_or, All-nil, All-take}
use Rattle.std.proofs.lemmas.Option.{get_or_from_slice_get, slice_get_within}
use Rattle.dag_cbor.specs.Plain.{IsPlain, IsPlainLayer, IsText}
use Rattle.dag_cbor.specs.Spelling.{head, joined, spelled}
use Rattle.dag_cbor.specs.declared.value.Value.{Value, Value-F, out-Value}
use Rattle.dag_cbor.specs.declared.value.Value.TheOpen as layer
use Rattle.dag_cbor.specs.declared.value.Value.TheVariants as v
use Rattle.dag_cbor.proofs.Equations.{IsPlain-List, PlainCases, bool, blob, cases_of_plain, link, list, map_of, natural, negative, null, text, spelled-Blob, spelled-Bool, spelled-Link, spelled-List, spelled-Map, spelled-Null, spelled-Text, spelled-negsuc, spelled-pos}
use Rattle.cbor_fields.specs.Fields.{field}
use Rattle.cbor_fields.specs.Readers.{items_of}
use Rattle.fil_message.specs.Reading.{fields_of}
use Rattle.fil_message.proofs.FieldLaws.{list_at, list_gives}
use Rattle.fil_message.proofs.Values.{field_gives}
use Rattle.fil_message.proofs.ReadSteps.{ok_same}
use Rattle.scenario_form.specs.Parts.{AreParts, IsPart}
use Rattle.scenario_form.specs.Reading.{itself}

-- ---- a value of some depth has any greater depth

deeper_all : {X : Type 0} (P Q : X → Type 0) → ((x : X) → P x → Q x) → (xs : List X) → AllByRecursion P xs → AllByRecursion Q xs
deeper_all P Q deeper [] all = tt
deeper_all P Q deeper (x ∷ xs) all = (deeper x all.0, deeper_all P Q deeper xs all.1)

deeper_layer : (P Q : Value → Type 0) → ((x : Value) → P x → Q x) → (l : Value-F Value) → IsPlainLayer P l → IsPlainLayer Q l
deeper_layer P Q deeper layer.Null h = h
deeper_layer P Q deeper (layer.Bool b) h = h
deeper_layer P Q deeper (layer.Int (pos n)) h = h
deeper_layer P Q deeper (layer.Int (negsuc n)) h = h
deeper_layer P Q deeper (layer.Blob bytes) h = h
deeper_layer P Q deeper (layer.Text bytes) h = h
deeper_layer P Q deeper (layer.List items) h = (h.0, deeper_all P Q deeper items h.1)
deeper_layer P Q deeper (layer.Map pairs) h =
    (h.0, h.1, deeper_all (λ p. IsText p.0 × P p.1) (λ p. IsText p.0 × Q p.1) (λ p both. (both.0, deeper p.1 both.1)) pairs h.2)
deeper_layer P Q deeper (layer.Link cid) h = h

one_deeper : (d : ℕ) (x : Value) → IsPlain d x → IsPlain (suc d) x
unfolding IsPlain
one_deeper zero x h = absurd h
one_deeper (suc d) x h = deeper_layer (IsPlain d) (IsPlain (suc d)) (one_deeper d) (out-Value x) h

-- ---- a spelling has a byte at least

head_some : (major n : ℕ) → 0 < length (head major n)
unfolding head
head_some major n = by (ltb n 24) (ltb n (2 ^ 8)) (ltb n (2 ^ 16)) (ltb n (2 ^ 32)) where
  by : (a b c d : Bool) → 0 < length (cond a ((32 * major + n) ∷ []) (cond b ((32 * major + 24) ∷ (n ∷ [])) (cond c ((32 * major + 25) ∷ to_be_bytes w16 n) (cond d ((32 * major + 26) ∷ to_be_bytes w32 n) ((32 * major + 27) ∷ to_be_bytes w64 n)))))
  by true b c d = omega arith
  by false true c d = omega arith
  by false false true d = omega arith
  by false false false true = omega arith
  by false false false false = omega arith

front_some : (xs ys zs : List ℕ) → 0 < length ys → xs ≡ ys ++ zs → 0 < length xs
front_some xs ys zs some is = omega (arith, ap length is, length-append ys zs)

whole_some : (xs ys : List ℕ) → 0 < length ys → xs ≡ ys → 0 < length xs
whole_some xs ys some is = omega (arith, ap length is)

some_bytes : (d : ℕ) (x : Value) → PlainCases d x → 0 < length (spelled x)
some_bytes d x (null is) = whole_some _ _ (head_some 7 22) (ap spelled (sym is) ∙ spelled-Null)
some_bytes d x (bool b is) = whole_some _ _ (head_some 7 (cond b 21 20)) (ap spelled (sym is) ∙ spelled-Bool b)
some_bytes d x (natural n small is) = whole_some _ _ (head_some 0 n) (ap spelled (sym is) ∙ spelled-pos n)
some_bytes d x (negative n small is) = whole_some _ _ (head_some 1 n) (ap spelled (sym is) ∙ spelled-negsuc n)
some_bytes d x (blob bytes small is) = front_some _ _ _ (head_some 2 (length bytes)) (ap spelled (sym is) ∙ spelled-Blob bytes)
some_bytes d x (text bytes small is) = front_some _ _ _ (head_some 3 (length bytes)) (ap spelled (sym is) ∙ spelled-Text bytes)
some_bytes d x (list vs small all is) = front_some _ _ _ (head_some 4 (length vs)) (ap spelled (sym is) ∙ spelled-List vs)
some_bytes d x (map_of ps small rise all is) = front_some _ _ _ (head_some 5 (length ps)) (ap spelled (sym is) ∙ spelled-Map ps)
some_bytes d x (link cid good is) = front_some _ _ _ (head_some 6 42) (ap spelled (sym is) ∙ spelled-Link cid)

-- ---- the items of a list

left_bytes : (xs ys : List ℕ) → All (λ byte. byte < 256) (xs ++ ys) → All (λ byte. byte < 256) xs
left_bytes xs ys all = subst (λ (bytes : List ℕ). All (λ byte. byte < 256) bytes) (take_at xs ys (length xs) refl) (All-take (λ byte. byte < 256) (length xs) (xs ++ ys) all)

right_bytes : (xs ys : List ℕ) → All (λ byte. byte < 256) (xs ++ ys) → All (λ byte. byte < 256) ys
right_bytes xs ys all = subst (λ (bytes : List ℕ). All (λ byte. byte < 256) bytes) (drop_at xs ys (length xs) refl) (All-drop (λ byte. byte < 256) (length xs) (xs ++ ys) all)

-- the items are parts, and there are no more of them than bytes
items_parts : (xs : List Value) → AllByRecursion (IsPlain 127) xs → All (λ byte. byte < 256) (joined (map spelled xs)) → length (joined (map spelled xs)) < 2 ^ 32
    → All IsPart xs × (length xs ≤ length (joined (map spelled xs)))
items_parts [] plain bytes short = (All-nil IsPart, omega arith)
items_parts (x ∷ xs) plain bytes short =
    let both = length-append (spelled x) (joined (map spelled xs)) in
    let rest = items_parts xs plain.1 (right_bytes (spelled x) (joined (map spelled xs)) bytes) (omega (arith, both)) in
    let some : 0 < length (spelled x) = some_bytes 126 x (cases_of_plain 126 x plain.0) in
    let first : IsPart x = record { plain = one_deeper 127 x plain.0; bytes = left_bytes (spelled x) (joined (map spelled xs)) bytes; short = omega (arith, both) } in
    (All-cons IsPart x xs first rest.0, omega (arith, both, rest.1, some))

parts_of : (xs : List Value) → AreParts xs → All IsPart xs × (length xs ≤ length (joined (map spelled xs))) × (length (joined (map spelled xs)) < 2 ^ 32)
parts_of xs are =
    let plain = subst (λ (P : Type 0). P) (IsPlain-List 127 xs) are.plain in
    let bytes = right_bytes (head 4 (length xs)) (joined (map spelled xs)) (subst (λ (b : List ℕ). All (λ byte. byte < 256) b) (spelled-List xs) are.bytes) in
    let short : length (joined (map spelled xs)) < 2 ^ 32 = omega (arith, are.short, ap length (spelled-List xs), length-append (head 4 (length xs)) (joined (map spelled xs))) in
    let both = items_parts xs plain.1 bytes short in
    (both.0, both.1, short)

pub each_part : (xs : List Value) → AreParts xs → All IsPart xs
each_part xs are = (parts_of xs are).0

pub parts_few : (xs : List Value) → AreParts xs → length xs < 2 ^ 32
parts_few xs are = omega (arith, (parts_of xs are).1, (parts_of xs are).2)

-- an item at a place
part_there : (xs : List Value) (i : ℕ) (x : Value) → All IsPart xs → slice_get xs i ≡ Some x → IsPart x
part_there xs i x all there = subst IsPart (get_or_from_slice_get xs i x x there) (All-get_or IsPart xs i x (slice_get_within xs i x there) all)

-- ---- fields

-- the items of a list of so many
pub fields_parts : (x : Value) (n : ℕ) (items : List Value) → IsPart x → fields_of x n ≡ Ok items → AreParts items
fields_parts x n items is read = subst IsPart (list_gives x n items read).0 is

-- a value at a place
pub value_there : (items : List Value) (at : ℕ) (x : Value) → All IsPart items → field itself items at ≡ Ok x → IsPart x
value_there items at x all read =
    let there = field_gives itself items at x read in
    part_there items at x all (there.1 ∙ ap Some (ok_same _ there.0 x refl there.2))

pub value_part : (items : List Value) (at : ℕ) (x : Value) → AreParts items → field itself items at ≡ Ok x → IsPart x
value_part items at x are read = value_there items at x (each_part items are) read

-- the items of a list at a place
pub list_parts : (items : List Value) (at : ℕ) (listed : List Value) → AreParts items → field items_of items at ≡ Ok listed → AreParts listed
list_parts items at listed are read = part_there items at (v.List listed) (each_part items are) (list_at listed items at read)

-- ---- the value of a block

pub whole_part : (bytes : List ℕ) (x : Value) → IsPlain 128 x → bytes ≡ spelled x → All (λ byte. byte < 256) bytes → length bytes < 2 ^ 32 → IsPart x
whole_part bytes x plain is below short = record {
  plain = plain;
  bytes = subst (λ (b : List ℕ). All (λ byte. byte < 256) b) is below;
  short = subst (λ (b : List ℕ). length b < 2 ^ 32) is short;
}
