-- Prices one after another.
use Rattle.std.proofs.Common.{◌≡◌, ℕ, zero, suc, ◌+◌, ◌<◌, List, [], ◌∷◌, ◌++◌, length, Option, Some, Ok, Err, Result, refl, sym, ap, ◌∙◌, arith}
use Rattle.std.specs.Prelude.{slice_get}
use Rattle.std.proofs.lemmas.Option.{get_or_from_slice_get}
use Rattle.dag_cbor.specs.declared.value.Value.{Value}
use Rattle.cbor_fields.specs.Fields.{field, item_read, placed}
use Rattle.cbor_fields.specs.Readers.{u64_of}
use Rattle.cbor_fields.specs.declared.field_fault.FieldFault.{FieldFault}
use Rattle.scenario_form.specs.Reading.{prices_read}
use Rattle.scenario_form.proofs.Steps.{SoFar, each_fault, each_more}

-- the number of a value at a place
abbrev pub price_read : ℕ → Value → Result ℕ FieldFault
price_read n value = placed n (u64_of value)

item_there : (values : List Value) (i : ℕ) → i < length values → (value : Value) × (slice_get values i ≡ Some value)
item_there [] i within = absurd (omega arith)
item_there (x ∷ xs) zero within = (x, refl)
item_there (x ∷ xs) (suc i) within = item_there xs i (omega arith)

pub price_more : (values : List Value) (i price : ℕ) (done more : List ℕ) → i < length values → field u64_of values i ≡ Ok price → SoFar price_read values i done → more ≡ done ++ (price ∷ []) → SoFar price_read values (i + 1) more
price_more values i price done more within read so_far pushed =
    let there = item_there values i within in
    let own : price_read i there.0 ≡ Ok price = ap (λ (o : Option Value). placed i (item_read u64_of o)) (sym there.1) ∙ read in
    each_more price_read values i there.0 done more price within (sym (get_or_from_slice_get values i there.0 there.0 there.1)) own so_far pushed

pub price_fault : (values : List Value) (i : ℕ) (done : List ℕ) (fault : FieldFault) → i < length values → field u64_of values i ≡ Err fault → SoFar price_read values i done → prices_read values ≡ Err fault
price_fault values i done fault within read so_far =
    let there = item_there values i within in
    let own : price_read i there.0 ≡ Err fault = ap (λ (o : Option Value). placed i (item_read u64_of o)) (sym there.1) ∙ read in
    each_fault price_read values i there.0 done fault within (sym (get_or_from_slice_get values i there.0 there.0 there.1)) own so_far
