-- Which messages there are.
use Rattle.std.specs.Prelude.{◌-◌, ◌^◌, ◌<◌, ◌≤◌, ◌≡◌, ℕ, All, length}
use Rattle.fil_address.specs.AddressBytes.{IsAddress}
use Rattle.fil_base.specs.declared.token.TheConstants.{GREATEST_AMOUNT}
use Rattle.fee_rules.specs.declared.fees.TheConstants.{BLOCK_GAS_LIMIT}
use Rattle.fil_message.specs.declared.message.Message.{Message}

-- each part in its range: the nonce has a next one, and the gas limit is at most that of a block
pub record IsMessage (m : Message) : Type 0 where
  pub to : IsAddress m.to
  pub from : IsAddress m.from
  pub nonce : m.nonce ≤ 2 ^ 64 - 2
  pub value : m.value ≤ GREATEST_AMOUNT
  pub limit : m.limit ≤ BLOCK_GAS_LIMIT
  pub cap : m.cap ≤ GREATEST_AMOUNT
  pub premium : m.premium ≤ GREATEST_AMOUNT
  pub method : m.method < 2 ^ 64
  pub params : length m.params < 2 ^ 64
