use Rattle.std.proofs.Common.{◌≡◌, ◌≤◌, ◌*◌, map, sum, take}
use Rattle.fil_base.specs.declared.token.TheConstants.{GREATEST_AMOUNT}
use Rattle.scenario_form.proofs.room.awards_of.Given as goal

abbrev pub invariant-loop-block : goal.invariant-loop-block
invariant-loop-block l = (l.total ≡ sum (map (λ b. b.award) (take l.block-index l.blocks))) × (l.total ≤ l.block-index * GREATEST_AMOUNT)
