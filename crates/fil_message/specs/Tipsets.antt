-- Which tipsets there are, and which rules their messages run under.
use Rattle.std.specs.Prelude.{◌≡◌, ◌<◌, ◌≤◌, ◌^◌, ◌||◌, ℕ, Bool, All, false, length, map, sum}
use Rattle.fil_base.specs.CidEquality.{same_parts}
use Rattle.fil_base.specs.declared.token.TheConstants.{GREATEST_AMOUNT}
use Rattle.gas_prices.specs.Prices.{IsPriceList}
use Rattle.gas_prices.specs.declared.rules.Codes.{Codes}
use Rattle.gas_prices.specs.declared.rules.Rules.{Rules}
use Rattle.fil_message.specs.Layout.{message_spelling}
use Rattle.fil_message.specs.Sound.{IsMessage}
use Rattle.fil_message.specs.declared.message.Message.{Message}
use Rattle.fil_message.specs.declared.tipset.TipBlock.{TipBlock}
use Rattle.fil_message.specs.declared.tipset.Tipset.{Tipset}

-- two of the codes are the same
abbrev pub has_equal_codes : Codes → Bool
has_equal_codes c =
    same_parts c.system c.init || same_parts c.system c.account || same_parts c.system c.reward
    || same_parts c.init c.account || same_parts c.init c.reward || same_parts c.account c.reward

-- calls are 1 to 64 deep, a memory has 1 to 512 pages, the codes differ
pub record IsRules (r : Rules) : Type 0 where
  pub prices : IsPriceList r.prices
  pub least_depth : 1 ≤ r.depth
  pub depth : r.depth ≤ 64
  pub least_pages : 1 ≤ r.pages
  pub pages : r.pages ≤ 512
  pub codes : has_equal_codes r.codes ≡ false

-- the encoding of a message is at most 1,048,576 bytes long
abbrev pub IsShortMessage : Message → Type 0
IsShortMessage m = IsMessage m × (length (message_spelling m) ≤ 1048576)

-- at most 10,000 messages
pub record IsTipBlock (b : TipBlock) : Type 0 where
  pub miner : b.miner < 2 ^ 63
  pub award : b.award ≤ GREATEST_AMOUNT
  pub count : length b.messages ≤ 10000
  pub messages : All IsShortMessage b.messages

-- at most 256 blocks
pub record IsTipset (t : Tipset) : Type 0 where
  pub epoch : t.epoch < 2 ^ 63
  pub base_fee : t.base_fee ≤ GREATEST_AMOUNT
  pub count : length t.blocks ≤ 256
  pub blocks : All IsTipBlock t.blocks

-- what is minted for a tipset
abbrev pub awards : Tipset → ℕ
awards t = sum (map (λ b. b.award) t.blocks)
