-- Values and the bytes that spell them.
use Rattle.std.proofs.Common.{◌≡◌, ℕ, ◌+◌, ◌<◌, ◌≤◌, Bool, cond, List, [], ◌∷◌, ◌++◌, length, map, take, get_or, Bor, Ok, Err, refl, sym, ap, subst, ◌∙◌, arith}
use Rattle.std.specs.Prelude.{All, Some, None, slice_get}
use Rattle.std.proofs.lemmas.Bool.{eq-eqb, ne_eqb}
use Rattle.std.specs.Option.{option_map}
use Rattle.std.proofs.lemmas.List.{append-nil, get_or-map, length-map, map_more, take_all}
use Rattle.std.proofs.lemmas.Option.{get_or_from_slice_get, slice_get-map, slice_get_within}
use Rattle.std.proofs.lemmas.List.Elements.{All-cons, All-get_or, All-head, All-nil, All-same, All-tail}
use Rattle.dag_cbor.specs.Plain.{IsPlain}
use Rattle.dag_cbor.specs.Reading.{whole_at}
use Rattle.dag_cbor.specs.Spelling.{spelled}
use Rattle.dag_cbor.specs.declared.value.Value.{Value, Value-F, out-Value, roll-Value, roll-out-Value}
use Rattle.dag_cbor.specs.declared.value.Value.TheOpen as layer
use Rattle.dag_cbor.specs.declared.value.Value.TheVariants as v
use Rattle.dag_cbor.proofs.OneSpelling.{one_spelling_within}
use Rattle.dag_cbor.proofs.Whole.{whole_again}
use Rattle.cbor_fields.specs.Fields.{fault_at, field, placed, item_read}
use Rattle.cbor_fields.specs.Readers.{items_layer, items_of, list_layer}
use Rattle.cbor_fields.specs.declared.field_fault.FieldKind.TheVariants.{WrongKind, WrongLength}
use Rattle.fil_message.specs.Reading.{fields_of}
use Rattle.scenario_form.specs.Parts.{AreParts, IsPart}
use Rattle.scenario_form.specs.Spelled.{ArePartTexts, IsPartText, or_null, the_value, the_values}
use Rattle.scenario_form.proofs.Parts.{each_part, parts_few}

-- the value that bytes spell
pub the_value_is : (bytes : List ℕ) (x : Value) → IsPlain 128 x → bytes ≡ spelled x → the_value bytes ≡ x
unfolding the_value
the_value_is bytes x plain is = ap or_null (ap whole_at is ∙ whole_again x plain)

pub text_of_part : (bytes : List ℕ) (x : Value) → IsPart x → bytes ≡ spelled x → IsPartText bytes
text_of_part bytes x part is =
    let same = the_value_is bytes x part.plain is in
    record { part = subst IsPart (sym same) part; same = is ∙ ap spelled (sym same) }

pub text_spells : (bytes : List ℕ) (x : Value) → IsPlain 128 x → bytes ≡ spelled x → IsPlain 128 (the_value bytes) × (bytes ≡ spelled (the_value bytes))
text_spells bytes x plain is =
    let same = the_value_is bytes x plain is in
    (subst (IsPlain 128) (sym same) plain, is ∙ ap spelled (sym same))

-- ---- the items of a list

values_again : (xs : List Value) → All IsPart xs → the_values (map spelled xs) ≡ xs
values_again [] all = refl
values_again (x ∷ xs) all = λ i. the_value_is (spelled x) x (All-head IsPart x xs all).plain refl i ∷ values_again xs (All-tail IsPart x xs all) i

each_text : (xs : List Value) → All IsPart xs → All IsPartText (map spelled xs)
each_text [] all = All-nil IsPartText
each_text (x ∷ xs) all = All-cons IsPartText (spelled x) (map spelled xs) (text_of_part (spelled x) x (All-head IsPart x xs all) refl) (each_text xs (All-tail IsPart x xs all))

-- the bytes spell a list, and these are the spellings of its items
pub record AreItems (bytes : List ℕ) (texts : List (List ℕ)) : Type 0 where
  pub list : the_value bytes ≡ v.List (the_values texts)
  pub texts_are : ArePartTexts texts

pub are_items : (bytes : List ℕ) (items : List Value) (texts : List (List ℕ)) → IsPartText bytes → IsPlain 128 (v.List items) → bytes ≡ spelled (v.List items) → texts ≡ map spelled items → AreItems bytes texts
are_items bytes items texts is plain spelled_so texts_are =
    let list : the_value bytes ≡ v.List items = the_value_is bytes (v.List items) plain spelled_so in
    let parts : AreParts items = subst IsPart list is.part in
    let all = each_part items parts in
    let values : the_values texts ≡ items = ap the_values texts_are ∙ values_again items all in
    record {
      list = list ∙ ap (λ (xs : List Value). v.List xs) (sym values);
      texts_are = record {
        each = All-same IsPartText texts (map spelled items) texts_are (each_text items all);
        few = omega (arith, ap length texts_are, length-map items spelled, parts_few items parts);
      };
    }

-- ---- lists of a length

fields_given : (items : List Value) (len : ℕ) → length items ≡ len → fields_of (v.List items) len ≡ Ok items
fields_given items len is = ap (λ l. placed 0 (list_layer len l)) (v.outs-List items) ∙ ap (λ (t : Bool). placed 0 (cond t (Ok items) (Err WrongLength))) (eq-eqb (length items) len is)

fields_refused : (items : List Value) (len : ℕ) → (length items ≡ len → ⊥) → fields_of (v.List items) len ≡ Err (fault_at 0 WrongLength)
fields_refused items len other = ap (λ l. placed 0 (list_layer len l)) (v.outs-List items) ∙ ap (λ (t : Bool). placed 0 (cond t (Ok items) (Err WrongLength))) (ne_eqb (length items) len other)

texts_count : (texts : List (List ℕ)) → length (the_values texts) ≡ length texts
texts_count texts = length-map texts the_value

pub list_found : (bytes : List ℕ) (texts : List (List ℕ)) (n len : ℕ) → AreItems bytes texts → n ≡ length texts → n ≡ len → fields_of (the_value bytes) len ≡ Ok (the_values texts)
list_found bytes texts n len are count is = ap (λ (x : Value). fields_of x len) are.list ∙ fields_given (the_values texts) len (texts_count texts ∙ sym count ∙ is)

pub list_refused : (bytes : List ℕ) (texts : List (List ℕ)) (n len : ℕ) → AreItems bytes texts → n ≡ length texts → (n ≡ len → ⊥) → fields_of (the_value bytes) len ≡ Err (fault_at 0 WrongLength)
list_refused bytes texts n len are count other = ap (λ (x : Value). fields_of x len) are.list ∙ fields_refused (the_values texts) len (λ same. other (count ∙ sym (texts_count texts) ∙ same))

-- ---- what is no list

abbrev pub NoList : List ℕ → Type 0
NoList bytes = (items : List Value) → IsPlain 128 (v.List items) → bytes ≡ spelled (v.List items) → ⊥

never_list : (bytes : List ℕ) (items : List Value) → IsPartText bytes → NoList bytes → the_value bytes ≡ v.List items → ⊥
never_list bytes items is none list = none items (subst IsPart list is.part).plain (is.same ∙ ap spelled list)

pub other_kind : (bytes : List ℕ) → IsPartText bytes → NoList bytes → items_of (the_value bytes) ≡ Err WrongKind
other_kind bytes is none = by (out-Value (the_value bytes)) (roll-out-Value (the_value bytes)) where
  by : (l : Value-F Value) → roll-Value l ≡ the_value bytes → items_layer l ≡ Err WrongKind
  by layer.Null e = refl
  by (layer.Bool b) e = refl
  by (layer.Int n) e = refl
  by (layer.Blob content) e = refl
  by (layer.Text content) e = refl
  by (layer.List items) e = absurd (never_list bytes items is none (sym e ∙ v.rolls-List items))
  by (layer.Map pairs) e = refl
  by (layer.Link cid) e = refl

pub no_list_of : (bytes : List ℕ) (len : ℕ) → IsPartText bytes → NoList bytes → fields_of (the_value bytes) len ≡ Err (fault_at 0 WrongLength)
no_list_of bytes len is none = by (out-Value (the_value bytes)) (roll-out-Value (the_value bytes)) where
  by : (l : Value-F Value) → roll-Value l ≡ the_value bytes → placed 0 (list_layer len l) ≡ Err (fault_at 0 WrongLength)
  by layer.Null e = refl
  by (layer.Bool b) e = refl
  by (layer.Int n) e = refl
  by (layer.Blob content) e = refl
  by (layer.Text content) e = refl
  by (layer.List items) e = absurd (never_list bytes items is none (sym e ∙ v.rolls-List items))
  by (layer.Map pairs) e = refl
  by (layer.Link cid) e = refl

-- ---- lists of slices

abbrev pub text : Bor (List ℕ) → List ℕ
text s = s.now

abbrev pub texts_of : List (Bor (List ℕ)) → List (List ℕ)
texts_of list = map text list

abbrev pub value : Bor (List ℕ) → Value
value s = the_value s.now

values_both : (list : List (Bor (List ℕ))) → map value list ≡ the_values (texts_of list)
values_both [] = refl
values_both (s ∷ list) = ap (λ (xs : List Value). the_value s.now ∷ xs) (values_both list)

pub values_count : (list : List (Bor (List ℕ))) → length (the_values (texts_of list)) ≡ length list
values_count list = ap (λ (xs : List Value). length xs) (sym (values_both list)) ∙ length-map list value

-- the item at a place
pub part_text_at : (list : List (Bor (List ℕ))) (i : ℕ) (d : Bor (List ℕ)) → All IsPartText (texts_of list) → i < length list → IsPartText (get_or list i d).now
part_text_at list i d all within = subst IsPartText (get_or-map text list i d [] within) (All-get_or IsPartText (texts_of list) i [] (omega (arith, length-map list text, within)) all)

pub value_at : (list : List (Bor (List ℕ))) (i : ℕ) (d : Bor (List ℕ)) (e : Value) → i < length list → get_or (the_values (texts_of list)) i e ≡ the_value (get_or list i d).now
value_at list i d e within = ap (λ (xs : List Value). get_or xs i e) (sym (values_both list)) ∙ get_or-map value list i d e within

pub text_there : (list : List (Bor (List ℕ))) (at : ℕ) (s : Bor (List ℕ)) → All IsPartText (texts_of list) → slice_get list at ≡ Some s → IsPartText s.now
text_there list at s all there = subst (λ (t : Bor (List ℕ)). IsPartText t.now) (get_or_from_slice_get list at s s there) (part_text_at list at s all (slice_get_within list at s there))

slice_get-values : (list : List (Bor (List ℕ))) (at : ℕ) → slice_get (the_values (texts_of list)) at ≡ option_map value (slice_get list at)
slice_get-values list at = ap (λ (xs : List Value). slice_get xs at) (sym (values_both list)) ∙ slice_get-map value list at

pub items_found : (list : List (Bor (List ℕ))) (at : ℕ) (s : Bor (List ℕ)) (texts : List (List ℕ)) → slice_get list at ≡ Some s → AreItems s.now texts → field items_of (the_values (texts_of list)) at ≡ Ok (the_values texts)
items_found list at s texts there are =
    ap (λ o. placed at (item_read items_of o)) (slice_get-values list at ∙ ap (option_map value) there)
    ∙ ap (λ (x : Value). placed at (items_of x)) are.list ∙ ap (λ l. placed at (items_layer l)) (v.outs-List (the_values texts))

pub items_missing : (list : List (Bor (List ℕ))) (at : ℕ) → slice_get list at ≡ None → field items_of (the_values (texts_of list)) at ≡ Err (fault_at at WrongLength)
items_missing list at none = ap (λ o. placed at (item_read items_of o)) (slice_get-values list at ∙ ap (option_map value) none)

pub items_refused : (list : List (Bor (List ℕ))) (at : ℕ) (s : Bor (List ℕ)) → slice_get list at ≡ Some s → IsPartText s.now → NoList s.now → field items_of (the_values (texts_of list)) at ≡ Err (fault_at at WrongKind)
items_refused list at s there is none =
    ap (λ o. placed at (item_read items_of o)) (slice_get-values list at ∙ ap (option_map value) there) ∙ ap (placed at) (other_kind s.now is none)

-- values made one after another
pub values_begin : (list : List (Bor (List ℕ))) (made : List Value) → made ≡ [] → made ≡ map value (take 0 list)
values_begin list made none = none

pub values_more : (list : List (Bor (List ℕ))) (i : ℕ) (d : Bor (List ℕ)) (made more : List Value) (x : Value) → i < length list → x ≡ the_value (get_or list i d).now → made ≡ map value (take i list) → more ≡ made ++ (x ∷ [])
    → more ≡ map value (take (i + 1) list)
values_more list i d made more x within is so_far pushed = pushed ∙ (λ j. so_far j ++ (is j ∷ [])) ∙ sym (map_more value list i d within)

pub values_end : (list : List (Bor (List ℕ))) (i : ℕ) (made : List Value) → length list ≤ i → made ≡ map value (take i list) → made ≡ the_values (texts_of list)
values_end list i made over so_far = so_far ∙ ap (map value) (take_all i list over) ∙ values_both list

-- ---- bytes that are more than a value

pub with_nothing : (bytes : List ℕ) (x : Value) → bytes ≡ spelled x → bytes ≡ spelled x ++ []
with_nothing bytes x is = is ∙ sym (append-nil (spelled x))

pub more_behind : (bytes front rest : List ℕ) (x y : Value) → IsPlain 128 x → IsPlain 128 y → front ≡ spelled x → bytes ≡ front ++ rest → bytes ≡ spelled y → (length rest ≡ 0 → ⊥) → ⊥
more_behind bytes front rest x y plain_x plain_y front_is parts is some =
    some (ap length (one_spelling_within 128 x y rest [] plain_x plain_y (ap (λ (t : List ℕ). t ++ rest) (sym front_is) ∙ sym parts ∙ with_nothing bytes y is)).1)
