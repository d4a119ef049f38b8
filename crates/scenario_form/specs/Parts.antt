-- What is known of the values in a block, and of what is read of them.
use Rattle.std.specs.Prelude.{◌<◌, ◌≤◌, ◌^◌, All, List, length}
use Rattle.dag_cbor.specs.Plain.{IsPlain}
use Rattle.dag_cbor.specs.Spelling.{spelled}
use Rattle.dag_cbor.specs.declared.value.Value.{Value}
use Rattle.dag_cbor.specs.declared.value.Value.TheVariants as v
use Rattle.fil_base.specs.declared.token.TheConstants.{GREATEST_AMOUNT}
use Rattle.fil_message.specs.Sound.{IsMessage}
use Rattle.fil_message.specs.declared.tipset.TipBlock.{TipBlock}
use Rattle.fil_message.specs.declared.tipset.Tipset.{Tipset}
use Rattle.scenario_form.specs.declared.raw.RawScenario.{RawScenario}

-- a value whose spelling stands in a block: bytes, fewer than 2^32
pub record IsPart (value : Value) : Type 0 where
  pub plain : IsPlain 128 value
  pub bytes : All (λ byte. byte < 256) (spelled value)
  pub short : length (spelled value) < 2 ^ 32

-- the items of a list that stands in a block
abbrev pub AreParts : List Value → Type 0
AreParts values = IsPart (v.List values)

-- the numbers of a block are in their ranges
pub record IsRawBlock (b : TipBlock) : Type 0 where
  pub miner : b.miner < 2 ^ 63
  pub award : b.award ≤ GREATEST_AMOUNT
  pub messages : All IsMessage b.messages

-- those of a tipset
pub record IsRawTipset (t : Tipset) : Type 0 where
  pub epoch : t.epoch < 2 ^ 63
  pub base_fee : t.base_fee ≤ GREATEST_AMOUNT
  pub blocks : All IsRawBlock t.blocks

-- those of a scenario, before its rules and limits are judged
pub record IsRaw (s : RawScenario) : Type 0 where
  pub prices : length s.rules.prices < 2 ^ 32
  pub tipsets : All IsRawTipset s.tipsets
