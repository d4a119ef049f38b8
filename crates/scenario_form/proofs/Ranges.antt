-- What is read is in its ranges.
use Rattle.std.proofs.Common.{◌≡◌, ℕ, ◌-◌, ◌^◌, ◌<◌, ◌≤◌, length, Result, Ok, Err, refl, ap, subst, arith}
use Rattle.std.specs.Prelude.{All}
use Rattle.fil_base.specs.CidParts.{CidParts}
use Rattle.fil_base.specs.declared.token.TheConstants.{GREATEST_AMOUNT}
use Rattle.dag_cbor.specs.declared.value.Value.{Value}
use Rattle.cbor_fields.specs.Fields.{field}
use Rattle.cbor_fields.specs.Readers.{cid_of, items_of, token_of}
use Rattle.cbor_fields.specs.declared.field_fault.FieldFault.{FieldFault}
use Rattle.fil_message.specs.Readers.{just, up_to}
use Rattle.fil_message.specs.Reading.{fields_of, message_of}
use Rattle.fil_message.specs.Sound.{IsMessage}
use Rattle.fil_message.specs.declared.message.Message.{Message}
use Rattle.fil_message.specs.declared.tipset.TipBlock.{TipBlock}
use Rattle.fil_message.specs.declared.tipset.Tipset.{Tipset}
use Rattle.fil_message.proofs.FieldLaws.{amount_at, up_to_at}
use Rattle.fil_message.proofs.MessageLaws as laws
use Rattle.fil_message.proofs.ReadSteps.{both_read, ok_same}
use Rattle.scenario_form.specs.Parts.{AreParts, IsPart, IsRaw, IsRawBlock, IsRawTipset}
use Rattle.scenario_form.specs.Reading.{BlockFields, ScenarioFields, TipsetFields, block_at, block_fields, block_front, block_read, codes_read, each_read, itself, limits_read, message_at, message_read, nowhere, prices_read, read_at, rules_read, scenario_fields, scenario_front, scenario_read, tipset_at, tipset_fields, tipset_front, tipset_read}
use Rattle.scenario_form.specs.declared.place.Place.{Place}
use Rattle.scenario_form.specs.declared.raw.RawRules.{RawRules}
use Rattle.scenario_form.specs.declared.raw.RawScenario.{RawScenario}
use Rattle.scenario_form.proofs.Parts.{each_part, fields_parts, list_parts, parts_few, value_part}
use Rattle.scenario_form.proofs.Steps.{each_holds, each_length}

read_at_gives : {A : Type 0} (place : Place) (r : Result A FieldFault) (x : A) → read_at place r ≡ Ok x → r ≡ Ok x
read_at_gives place (Ok y) x is = (let same : y ≡ x = cc is in ap Ok same)
read_at_gives place (Err fault) x is = absurd (let wrong : Err (place, fault) ≡ Ok x = is in cc)

-- ---- blocks

message_good : (t b n : ℕ) (value : Value) (m : Message) → IsPart value → message_read t b n value ≡ Ok m → IsMessage m
message_good t b n value m part read =
    (laws.message_read value m part.plain part.bytes (read_at_gives (message_at t b n) (message_of value) m read)).0

record BlockGood (f : BlockFields) : Type 0 where
  miner : f.miner < 2 ^ 63
  award : f.award ≤ GREATEST_AMOUNT
  messages : AreParts f.messages

block_fields_good : (value : Value) (f : BlockFields) → IsPart value → block_fields value ≡ Ok f → BlockGood f
block_fields_good value f part read =
    let items = both_read (fields_of value 3) _ f read in
    let front = both_read (block_front items.0) _ f items.2 in
    let messages = both_read (field items_of items.0 2) _ f front.2 in
    let miner = both_read (field (up_to (2 ^ 63 - 1)) items.0 0) _ front.0 front.1 in
    let award = both_read (field token_of items.0 1) _ front.0 miner.2 in
    let front_is : (miner.0, award.0) ≡ front.0 = ok_same _ _ front.0 refl award.2 in
    let is : record { miner = front.0.0; award = front.0.1; messages = messages.0 } ≡ f = ok_same _ _ f refl messages.2 in
    subst BlockGood is (subst (λ (p : ℕ × ℕ). BlockGood (record { miner = p.0; award = p.1; messages = messages.0 })) front_is record {
      miner = omega (arith, (up_to_at (2 ^ 63 - 1) miner.0 items.0 0 miner.1).1);
      award = (amount_at award.0 items.0 1 award.1).1;
      messages = list_parts items.0 2 messages.0 (fields_parts value 3 items.0 part items.1) messages.1;
    })

block_good : (t b : ℕ) (value : Value) (block : TipBlock) → IsPart value → block_read t b value ≡ Ok block → IsRawBlock block
unfolding block_read
block_good t b value block part read =
    let fields = both_read (read_at (block_at t b) (block_fields value)) _ block read in
    let messages = both_read (each_read (message_read t b) 0 fields.0.messages) _ block fields.2 in
    let good = block_fields_good value fields.0 part (read_at_gives (block_at t b) (block_fields value) fields.0 fields.1) in
    let all : All IsMessage messages.0 = each_holds IsPart IsMessage (message_read t b) (message_good t b) 0 fields.0.messages messages.0 (each_part fields.0.messages good.messages) messages.1 in
    let is : record { miner = fields.0.miner; award = fields.0.award; messages = messages.0 } ≡ block = ok_same _ _ block refl messages.2 in
    subst IsRawBlock is record { miner = good.miner; award = good.award; messages = all }

-- ---- tipsets

record TipsetGood (f : TipsetFields) : Type 0 where
  epoch : f.epoch < 2 ^ 63
  base_fee : f.base_fee ≤ GREATEST_AMOUNT
  blocks : AreParts f.blocks

tipset_fields_good : (value : Value) (f : TipsetFields) → IsPart value → tipset_fields value ≡ Ok f → TipsetGood f
tipset_fields_good value f part read =
    let items = both_read (fields_of value 4) _ f read in
    let front = both_read (tipset_front items.0) _ f items.2 in
    let blocks = both_read (field items_of items.0 3) _ f front.2 in
    let epoch = both_read (field (up_to (2 ^ 63 - 1)) items.0 0) _ front.0 front.1 in
    let fee = both_read (field token_of items.0 1) _ front.0 epoch.2 in
    let root = both_read (field cid_of items.0 2) _ front.0 fee.2 in
    let front_is : (epoch.0, fee.0, root.0) ≡ front.0 = ok_same _ _ front.0 refl root.2 in
    let is : record { epoch = front.0.0; base_fee = front.0.1; root = front.0.2; blocks = blocks.0 } ≡ f = ok_same _ _ f refl blocks.2 in
    subst TipsetGood is (subst (λ (p : ℕ × ℕ × CidParts). TipsetGood (record { epoch = p.0; base_fee = p.1; root = p.2; blocks = blocks.0 })) front_is record {
      epoch = omega (arith, (up_to_at (2 ^ 63 - 1) epoch.0 items.0 0 epoch.1).1);
      base_fee = (amount_at fee.0 items.0 1 fee.1).1;
      blocks = list_parts items.0 3 blocks.0 (fields_parts value 4 items.0 part items.1) blocks.1;
    })

pub tipset_good : (t : ℕ) (value : Value) (tipset : Tipset) → IsPart value → tipset_read t value ≡ Ok tipset → IsRawTipset tipset
unfolding tipset_read
tipset_good t value tipset part read =
    let fields = both_read (read_at (tipset_at t) (tipset_fields value)) _ tipset read in
    let blocks = both_read (each_read (block_read t) 0 fields.0.blocks) _ tipset fields.2 in
    let good = tipset_fields_good value fields.0 part (read_at_gives (tipset_at t) (tipset_fields value) fields.0 fields.1) in
    let all : All IsRawBlock blocks.0 = each_holds IsPart IsRawBlock (block_read t) (block_good t) 0 fields.0.blocks blocks.0 (each_part fields.0.blocks good.blocks) blocks.1 in
    let is : record { epoch = fields.0.epoch; base_fee = fields.0.base_fee; root = fields.0.root; blocks = blocks.0 } ≡ tipset = ok_same _ _ tipset refl blocks.2 in
    subst IsRawTipset is record { epoch = good.epoch; base_fee = good.base_fee; blocks = all }

-- ---- the whole

few_prices : (value : Value) (rules : RawRules) → IsPart value → rules_read value ≡ Ok rules → length rules.prices < 2 ^ 32
unfolding rules_read
few_prices value rules part read =
    let items = both_read (fields_of value 3) _ rules read in
    let listed = both_read (field items_of items.0 0) _ rules items.2 in
    let prices = both_read (prices_read listed.0) _ rules listed.2 in
    let pair = both_read (field itself items.0 1) _ rules prices.2 in
    let limits = both_read (limits_read pair.0) _ rules pair.2 in
    let four = both_read (field itself items.0 2) _ rules limits.2 in
    let codes = both_read (codes_read four.0) _ rules four.2 in
    let is : record { prices = prices.0; depth = limits.0.0; pages = limits.0.1; codes = codes.0 } ≡ rules = ok_same _ _ rules refl codes.2 in
    let few = parts_few listed.0 (list_parts items.0 0 listed.0 (fields_parts value 3 items.0 part items.1) listed.1) in
    omega (arith, few, each_length _ 0 listed.0 prices.0 prices.1, ap (λ (r : RawRules). length r.prices) is)

record ScenarioGood (f : ScenarioFields) : Type 0 where
  prices : length f.rules.prices < 2 ^ 32
  tipsets : AreParts f.tipsets

scenario_fields_good : (value : Value) (f : ScenarioFields) → IsPart value → scenario_fields value ≡ Ok f → ScenarioGood f
scenario_fields_good value f part read =
    let items = both_read (fields_of value 3) _ f read in
    let rules = both_read (scenario_front items.0) _ f items.2 in
    let tipsets = both_read (field items_of items.0 2) _ f rules.2 in
    let form = both_read (field (just 1) items.0 0) _ rules.0 rules.1 in
    let triple = both_read (field itself items.0 1) _ rules.0 form.2 in
    let own : ScenarioFields = record { rules = rules.0; tipsets = tipsets.0 } in
    let is : own ≡ f = ok_same (Ok own) own f refl tipsets.2 in
    let parts = fields_parts value 3 items.0 part items.1 in
    subst ScenarioGood {x = own} is record {
      prices = few_prices triple.0 rules.0 (value_part items.0 1 triple.0 parts triple.1) triple.2;
      tipsets = list_parts items.0 2 tipsets.0 parts tipsets.1;
    }

pub scenario_good : (value : Value) (s : RawScenario) → IsPart value → scenario_read value ≡ Ok s → IsRaw s
unfolding scenario_read
scenario_good value s part read =
    let fields = both_read (read_at nowhere (scenario_fields value)) _ s read in
    let tipsets = both_read (each_read tipset_read 0 fields.0.tipsets) _ s fields.2 in
    let good = scenario_fields_good value fields.0 part (read_at_gives nowhere (scenario_fields value) fields.0 fields.1) in
    let all : All IsRawTipset tipsets.0 = each_holds IsPart IsRawTipset tipset_read tipset_good 0 fields.0.tipsets tipsets.0 (each_part fields.0.tipsets good.tipsets) tipsets.1 in
    let is : record { rules = fields.0.rules; tipsets = tipsets.0 } ≡ s = ok_same _ _ s refl tipsets.2 in
    subst IsRaw is record { prices = good.prices; tipsets = all }
