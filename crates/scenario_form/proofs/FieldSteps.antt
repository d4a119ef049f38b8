-- A list whose last item is a list: what stands before that one, and its items.
use Rattle.std.proofs.Common.{◌≡◌, ℕ, List, [], ◌∷◌, take, Bor, Result, Ok, Err, refl, sym, ap, ◌∙◌}
use Rattle.std.specs.Prelude.{All}
use Rattle.std.proofs.lemmas.List.{take-map}
use Rattle.std.proofs.lemmas.List.Elements.{All-map, All-same, All-take}
use Rattle.dag_cbor.specs.declared.value.Value.{Value}
use Rattle.cbor_fields.specs.declared.field_fault.FieldFault.{FieldFault}
use Rattle.fil_message.specs.Readers.{if_read}
use Rattle.fil_message.specs.Reading.{fields_of}
use Rattle.fil_message.proofs.ReadSteps.{then_fault, then_read}
use Rattle.scenario_form.specs.Parts.{IsPart}
use Rattle.scenario_form.specs.Reading.{block_front, scenario_front, tipset_front}
use Rattle.scenario_form.specs.Spelled.{ArePartTexts, IsPartText, the_value, the_values}
use Rattle.scenario_form.proofs.PartTexts.{texts_of, text}

-- what f reads of the items, what last reads, and both together
abbrev pub both_of : {A B : Type 0} → Value → ℕ → (List Value → Result A FieldFault) → (List Value → Result (List Value) FieldFault) → (A → List Value → B) → Result B FieldFault
both_of value n f last g = if_read (fields_of value n) (λ items. if_read (f items) (λ x. if_read (last items) (λ ys. Ok (g x ys))))

pub list_fails : {A B : Type 0} (value : Value) (n : ℕ) (f : List Value → Result A FieldFault) (last : List Value → Result (List Value) FieldFault) (g : A → List Value → B) (fault : FieldFault)
    → fields_of value n ≡ Err fault → both_of value n f last g ≡ Err fault
list_fails value n f last g fault is = then_fault (fields_of value n) _ fault is

pub front_fails : {A B : Type 0} (value : Value) (n : ℕ) (f : List Value → Result A FieldFault) (last : List Value → Result (List Value) FieldFault) (g : A → List Value → B) (items front : List Value) (fault : FieldFault)
    → fields_of value n ≡ Ok items → f front ≡ f items → f front ≡ Err fault → both_of value n f last g ≡ Err fault
front_fails value n f last g items front fault is same refused = then_read (fields_of value n) _ items (Err fault) is (then_fault (f items) _ fault (sym same ∙ refused))

pub last_fails : {A B : Type 0} (value : Value) (n : ℕ) (f : List Value → Result A FieldFault) (last : List Value → Result (List Value) FieldFault) (g : A → List Value → B) (items front : List Value) (x : A) (fault : FieldFault)
    → fields_of value n ≡ Ok items → f front ≡ f items → f front ≡ Ok x → last items ≡ Err fault → both_of value n f last g ≡ Err fault
last_fails value n f last g items front x fault is same read refused =
    then_read (fields_of value n) _ items (Err fault) is (then_read (f items) _ x (Err fault) (sym same ∙ read) (then_fault (last items) _ fault refused))

pub both_found : {A B : Type 0} (value : Value) (n : ℕ) (f : List Value → Result A FieldFault) (last : List Value → Result (List Value) FieldFault) (g : A → List Value → B) (items front : List Value) (x : A) (ys : List Value)
    → fields_of value n ≡ Ok items → f front ≡ f items → f front ≡ Ok x → last items ≡ Ok ys → both_of value n f last g ≡ Ok (g x ys)
both_found value n f last g items front x ys is same read also =
    then_read (fields_of value n) _ items (Ok (g x ys)) is (then_read (f items) _ x (Ok (g x ys)) (sym same ∙ read) (then_read (last items) _ ys (Ok (g x ys)) also refl))

-- ---- what stands before the last item

values_take : (n : ℕ) (list : List (Bor (List ℕ))) → the_values (texts_of (take n list)) ≡ take n (the_values (texts_of list))
values_take n list = ap the_values (sym (take-map text n list)) ∙ sym (take-map the_value n (texts_of list))

block_take : (items : List Value) → block_front (take 2 items) ≡ block_front items
block_take [] = refl
block_take (x ∷ []) = refl
block_take (x ∷ y ∷ more) = refl

tipset_take : (items : List Value) → tipset_front (take 3 items) ≡ tipset_front items
tipset_take [] = refl
tipset_take (x ∷ []) = refl
tipset_take (x ∷ y ∷ []) = refl
tipset_take (x ∷ y ∷ z ∷ more) = refl

scenario_take : (items : List Value) → scenario_front (take 2 items) ≡ scenario_front items
scenario_take [] = refl
scenario_take (x ∷ []) = refl
scenario_take (x ∷ y ∷ more) = refl

pub block_front_is : (list slice : List (Bor (List ℕ))) (front : List Value) → slice ≡ take 2 list → front ≡ the_values (texts_of slice) → block_front front ≡ block_front (the_values (texts_of list))
block_front_is list slice front cut is = ap block_front (is ∙ ap (λ (s : List (Bor (List ℕ))). the_values (texts_of s)) cut ∙ values_take 2 list) ∙ block_take (the_values (texts_of list))

pub tipset_front_is : (list slice : List (Bor (List ℕ))) (front : List Value) → slice ≡ take 3 list → front ≡ the_values (texts_of slice) → tipset_front front ≡ tipset_front (the_values (texts_of list))
tipset_front_is list slice front cut is = ap tipset_front (is ∙ ap (λ (s : List (Bor (List ℕ))). the_values (texts_of s)) cut ∙ values_take 3 list) ∙ tipset_take (the_values (texts_of list))

pub scenario_front_is : (list slice : List (Bor (List ℕ))) (front : List Value) → slice ≡ take 2 list → front ≡ the_values (texts_of slice) → scenario_front front ≡ scenario_front (the_values (texts_of list))
scenario_front_is list slice front cut is = ap scenario_front (is ∙ ap (λ (s : List (Bor (List ℕ))). the_values (texts_of s)) cut ∙ values_take 2 list) ∙ scenario_take (the_values (texts_of list))

-- ---- what is known of them

pub front_texts : (n : ℕ) (list slice : List (Bor (List ℕ))) → ArePartTexts (texts_of list) → slice ≡ take n list → All IsPartText (texts_of slice)
front_texts n list slice are cut = All-same IsPartText (texts_of slice) (take n (texts_of list)) (ap texts_of cut ∙ sym (take-map text n list)) (All-take IsPartText n (texts_of list) are.each)

pub front_parts : (texts : List (List ℕ)) (front : List Value) → All IsPartText texts → front ≡ the_values texts → All IsPart front
front_parts texts front all is = All-same IsPart front (the_values texts) is (All-map IsPart the_value texts (λ i d within. (all i d within).part))
