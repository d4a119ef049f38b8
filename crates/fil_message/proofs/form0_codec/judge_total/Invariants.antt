use Rattle.std.proofs.Common.{◌≡◌, ◌≤◌, sum, map, take}
use Rattle.fil_base.specs.declared.token.TheConstants.{GREATEST_AMOUNT}
use Rattle.fil_message.proofs.form0_codec.judge_total.Given as goal

abbrev pub invariant-loop-actor : goal.invariant-loop-actor
invariant-loop-actor l = (l.total ≡ sum (map (λ a. a.balance) (take l.actor-index l.actors))) × (l.total ≤ GREATEST_AMOUNT)
