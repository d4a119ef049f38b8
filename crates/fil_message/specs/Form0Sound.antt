-- Which account lists there are.
use Rattle.std.specs.Prelude.{◌-◌, ◌^◌, ◌<◌, ◌≤◌, All, map, sum}
use Rattle.std.specs.List.Sorted.{IsStrictlyIncreasing}
use Rattle.fil_base.specs.declared.token.TheConstants.{GREATEST_AMOUNT}
use Rattle.fil_message.specs.declared.form0.Form0.{Form0}
use Rattle.fil_message.specs.declared.form0.Form0Actor.{Form0Actor}
use Rattle.fil_message.specs.declared.form0.Form0Message.{Form0Message}

pub record IsListed (a : Form0Actor) : Type 0 where
  pub id : a.id < 2 ^ 63
  pub nonce : a.nonce < 2 ^ 64
  pub balance : a.balance ≤ GREATEST_AMOUNT

pub record IsTransfer (m : Form0Message) : Type 0 where
  pub from : m.from < 2 ^ 63
  pub to : m.to < 2 ^ 63
  pub nonce : m.nonce ≤ 2 ^ 64 - 2
  pub value : m.value ≤ GREATEST_AMOUNT

-- each number in its range, the actors by strictly rising ID, and no more tokens than there can be
pub record IsForm0 (f : Form0) : Type 0 where
  pub epoch : f.epoch < 2 ^ 63
  pub actors : All IsListed f.actors
  pub messages : All IsTransfer f.messages
  pub order : IsStrictlyIncreasing (map (λ a. a.id) f.actors)
  pub total : sum (map (λ a. a.balance) f.actors) ≤ GREATEST_AMOUNT
