-- The rules and the fields of a scenario, one after another.
use Rattle.std.proofs.Common.{◌≡◌, ℕ, List, Ok, Err, ◌∙◌}
use Rattle.dag_cbor.specs.declared.value.Value.{Value}
use Rattle.cbor_fields.specs.Fields.{field}
use Rattle.cbor_fields.specs.Readers.{items_of}
use Rattle.cbor_fields.specs.declared.field_fault.FieldFault.{FieldFault}
use Rattle.gas_prices.specs.declared.rules.Codes.{Codes}
use Rattle.fil_message.specs.Readers.{if_read, just}
use Rattle.fil_message.specs.Reading.{fields_of}
use Rattle.fil_message.proofs.ReadSteps.{then_fault, then_read}
use Rattle.scenario_form.specs.Reading.{codes_read, itself, limits_read, prices_read, rules_read, scenario_front}
use Rattle.scenario_form.specs.declared.raw.RawRules.{RawRules}
use Rattle.scenario_form.proofs.Steps.{two_fault, two_found}

-- ---- the rules

pub prices_refused : (value : Value) (items : List Value) (fault : FieldFault) → fields_of value 3 ≡ Ok items → if_read (field items_of items 0) prices_read ≡ Err fault → rules_read value ≡ Err fault
unfolding rules_read
prices_refused value items fault is refused = then_read (fields_of value 3) _ items (Err fault) is (two_fault (field items_of items 0) prices_read _ fault refused)

pub limits_refused : (value : Value) (items : List Value) (prices : List ℕ) (fault : FieldFault) → fields_of value 3 ≡ Ok items → if_read (field items_of items 0) prices_read ≡ Ok prices
    → if_read (field itself items 1) limits_read ≡ Err fault → rules_read value ≡ Err fault
unfolding rules_read
limits_refused value items prices fault is one refused =
    then_read (fields_of value 3) _ items (Err fault) is (two_found (field items_of items 0) prices_read _ prices one ∙ two_fault (field itself items 1) limits_read _ fault refused)

pub codes_refused : (value : Value) (items : List Value) (prices : List ℕ) (limits : ℕ × ℕ) (fault : FieldFault) → fields_of value 3 ≡ Ok items → if_read (field items_of items 0) prices_read ≡ Ok prices
    → if_read (field itself items 1) limits_read ≡ Ok limits → if_read (field itself items 2) codes_read ≡ Err fault → rules_read value ≡ Err fault
unfolding rules_read
codes_refused value items prices limits fault is one two refused =
    then_read (fields_of value 3) _ items (Err fault) is
    (two_found (field items_of items 0) prices_read _ prices one ∙ (two_found (field itself items 1) limits_read _ limits two ∙ two_fault (field itself items 2) codes_read _ fault refused))

pub rules_found : (value : Value) (items : List Value) (prices : List ℕ) (limits : ℕ × ℕ) (codes : Codes) → fields_of value 3 ≡ Ok items → if_read (field items_of items 0) prices_read ≡ Ok prices
    → if_read (field itself items 1) limits_read ≡ Ok limits → if_read (field itself items 2) codes_read ≡ Ok codes
    → rules_read value ≡ Ok (record { prices = prices; depth = limits.0; pages = limits.1; codes = codes })
unfolding rules_read
rules_found value items prices limits codes is one two three =
    then_read (fields_of value 3) _ items (Ok (record { prices = prices; depth = limits.0; pages = limits.1; codes = codes })) is
    (two_found (field items_of items 0) prices_read _ prices one ∙ (two_found (field itself items 1) limits_read _ limits two ∙ two_found (field itself items 2) codes_read _ codes three))

-- ---- what stands before the tipsets

pub form_refused : (items : List Value) (fault : FieldFault) → field (just 1) items 0 ≡ Err fault → scenario_front items ≡ Err fault
form_refused items fault refused = then_fault (field (just 1) items 0) _ fault refused

pub rules_refused : (items : List Value) (form : ℕ) (fault : FieldFault) → field (just 1) items 0 ≡ Ok form → if_read (field itself items 1) rules_read ≡ Err fault → scenario_front items ≡ Err fault
rules_refused items form fault is refused = then_read (field (just 1) items 0) _ form (Err fault) is refused

pub front_found : (items : List Value) (form : ℕ) (rules : RawRules) → field (just 1) items 0 ≡ Ok form → if_read (field itself items 1) rules_read ≡ Ok rules → scenario_front items ≡ Ok rules
front_found items form rules is one = then_read (field (just 1) items 0) _ form (Ok rules) is one
