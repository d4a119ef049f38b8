-- The parts of a scenario that a value is, each by itself, or the first field that is none, with its place.
use Rattle.std.specs.Prelude.{ℕ, ◌+◌, ◌-◌, ◌^◌, List, [], ◌∷◌, Result, Ok, Err}
use Rattle.std.specs.declared.option.Option.TheVariants.{None, Some}
use Rattle.dag_cbor.specs.declared.value.Value.{Value}
use Rattle.fil_base.specs.CidParts.{CidParts}
use Rattle.fil_base.specs.declared.failure.Failure.{Failure}
use Rattle.fil_base.specs.declared.failure.Failure.TheVariants.{Fault, NoMemory}
use Rattle.cbor_fields.specs.Fields.{field, placed}
use Rattle.cbor_fields.specs.Readers.{cid_of, items_of, token_of, u64_of}
use Rattle.cbor_fields.specs.declared.field_fault.FieldFault.{FieldFault}
use Rattle.cbor_fields.specs.declared.field_fault.FieldKind.{FieldKind}
use Rattle.gas_prices.specs.declared.rules.Codes.{Codes}
use Rattle.fil_message.specs.Readers.{if_read, just, up_to}
use Rattle.fil_message.specs.Reading.{fields_of, message_of}
use Rattle.fil_message.specs.declared.message.Message.{Message}
use Rattle.fil_message.specs.declared.tipset.TipBlock.{TipBlock}
use Rattle.fil_message.specs.declared.tipset.Tipset.{Tipset}
use Rattle.scenario_form.specs.declared.place.Place.{Place}
use Rattle.scenario_form.specs.declared.raw.RawRules.{RawRules}
use Rattle.scenario_form.specs.declared.raw.RawScenario.{RawScenario}

-- the places of the scenario itself, of a tipset, of a block in it, and of a message in that
abbrev pub nowhere : Place
nowhere = record { tipset = None; block = None; message = None }

abbrev pub tipset_at : ℕ → Place
tipset_at t = record { tipset = Some t; block = None; message = None }

abbrev pub block_at : ℕ → ℕ → Place
block_at t b = record { tipset = Some t; block = Some b; message = None }

abbrev pub message_at : ℕ → ℕ → ℕ → Place
message_at t b m = record { tipset = Some t; block = Some b; message = Some m }

-- a field that is none, with its place
abbrev pub FormFault : Type 0
FormFault = Place × FieldFault

-- what was read at a place
abbrev pub read_at : {A : Type 0} → Place → Result A FieldFault → Result A FormFault
read_at place (Ok x) = Ok x
read_at place (Err fault) = Err (place, fault)

-- the same failure, at a place
abbrev pub failed_at : Place → Failure FieldFault → Failure FormFault
failed_at place NoMemory = NoMemory
failed_at place (Fault fault) = Fault (place, fault)

-- what f reads of each value with its number, from a first number on, where it reads all; else the first fault
abbrev pub each_read : {E A : Type 0} → (ℕ → Value → Result A E) → ℕ → List Value → Result (List A) E
each_read f n [] = Ok []
each_read f n (value ∷ values) = if_read (f n value) (λ x. if_read (each_read f (n + 1) values) (λ xs. Ok (x ∷ xs)))

-- a message
abbrev pub message_read : ℕ → ℕ → ℕ → Value → Result Message FormFault
message_read t b m value = read_at (message_at t b m) (message_of value)

-- what stands before a block's messages
abbrev pub block_front : List Value → Result (ℕ × ℕ) FieldFault
block_front items =
    if_read (field (up_to (2 ^ 63 - 1)) items 0) (λ miner. if_read (field token_of items 1) (λ award. Ok (miner, award)))

-- what stands before a block's messages, and they themselves
pub record BlockFields : Type 0 where
  pub miner : ℕ
  pub award : ℕ
  pub messages : List Value

abbrev pub block_fields : Value → Result BlockFields FieldFault
block_fields value =
    if_read (fields_of value 3) (λ items. if_read (block_front items) (λ front. if_read (field items_of items 2) (λ messages.
    Ok (record { miner = front.0; award = front.1; messages = messages }))))

-- [miner, award, messages]
unfoldable pub block_read : ℕ → ℕ → Value → Result TipBlock FormFault
block_read t b value =
    if_read (read_at (block_at t b) (block_fields value)) (λ fields.
    if_read (each_read (message_read t b) 0 fields.messages) (λ messages.
    Ok (record { miner = fields.miner; award = fields.award; messages = messages })))

-- what stands before a tipset's blocks
abbrev pub tipset_front : List Value → Result (ℕ × ℕ × CidParts) FieldFault
tipset_front items =
    if_read (field (up_to (2 ^ 63 - 1)) items 0) (λ epoch. if_read (field token_of items 1) (λ base_fee.
    if_read (field cid_of items 2) (λ root. Ok (epoch, base_fee, root))))

-- what stands before a tipset's blocks, and they themselves
pub record TipsetFields : Type 0 where
  pub epoch : ℕ
  pub base_fee : ℕ
  pub root : CidParts
  pub blocks : List Value

abbrev pub tipset_fields : Value → Result TipsetFields FieldFault
tipset_fields value =
    if_read (fields_of value 4) (λ items. if_read (tipset_front items) (λ front. if_read (field items_of items 3) (λ blocks.
    Ok (record { epoch = front.0; base_fee = front.1; root = front.2; blocks = blocks }))))

-- [epoch, base fee, state root, blocks]
unfoldable pub tipset_read : ℕ → Value → Result Tipset FormFault
tipset_read t value =
    if_read (read_at (tipset_at t) (tipset_fields value)) (λ fields.
    if_read (each_read (block_read t) 0 fields.blocks) (λ blocks.
    Ok (record { epoch = fields.epoch; base_fee = fields.base_fee; root = fields.root; blocks = blocks })))

-- a value as it is
abbrev pub itself : Value → Result Value FieldKind
itself value = Ok value

-- the prices, each a number
abbrev pub prices_read : List Value → Result (List ℕ) FieldFault
prices_read values = each_read (λ n value. placed n (u64_of value)) 0 values

-- [depth, pages]
abbrev pub limits_read : Value → Result (ℕ × ℕ) FieldFault
limits_read value =
    if_read (fields_of value 2) (λ items. if_read (field u64_of items 0) (λ depth. if_read (field u64_of items 1) (λ pages.
    Ok (depth, pages))))

-- [system, init, account, reward]
abbrev pub codes_read : Value → Result Codes FieldFault
codes_read value =
    if_read (fields_of value 4) (λ items. if_read (field cid_of items 0) (λ system.
    if_read (field cid_of items 1) (λ init. if_read (field cid_of items 2) (λ account.
    if_read (field cid_of items 3) (λ reward.
    Ok (record { system = system; init = init; account = account; reward = reward }))))))

-- [prices, [depth, pages], codes]
unfoldable pub rules_read : Value → Result RawRules FieldFault
rules_read value =
    if_read (fields_of value 3) (λ items. if_read (field items_of items 0) (λ list. if_read (prices_read list) (λ prices.
    if_read (field itself items 1) (λ pair. if_read (limits_read pair) (λ limits.
    if_read (field itself items 2) (λ four. if_read (codes_read four) (λ codes.
    Ok (record { prices = prices; depth = limits.0; pages = limits.1; codes = codes }))))))))

-- what stands before the tipsets: 1, the number of this form, and the rules
abbrev pub scenario_front : List Value → Result RawRules FieldFault
scenario_front items = if_read (field (just 1) items 0) (λ form. if_read (field itself items 1) rules_read)

-- what stands before the tipsets, and they themselves
pub record ScenarioFields : Type 0 where
  pub rules : RawRules
  pub tipsets : List Value

abbrev pub scenario_fields : Value → Result ScenarioFields FieldFault
scenario_fields value =
    if_read (fields_of value 3) (λ items. if_read (scenario_front items) (λ rules. if_read (field items_of items 2) (λ tipsets.
    Ok (record { rules = rules; tipsets = tipsets }))))

-- [1, rules, tipsets]
unfoldable pub scenario_read : Value → Result RawScenario FormFault
scenario_read value =
    if_read (read_at nowhere (scenario_fields value)) (λ fields.
    if_read (each_read tipset_read 0 fields.tipsets) (λ tipsets.
    Ok (record { rules = fields.rules; tipsets = tipsets })))
