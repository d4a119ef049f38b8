use Rattle.std.proofs.Common.{◌≡◌, ◌+◌, take}
use Rattle.std.specs.List.{sum_by}
use Rattle.fil_base.specs.declared.token.TheConstants.{GREATEST_AMOUNT}
use Rattle.state_tree.specs.ActorPairs.{balance_in}
use Rattle.state_tree.proofs.pairs.are_within.Given as goal

abbrev pub invariant-loop-value : goal.invariant-loop-value
invariant-loop-value l = l.left + l.awards + sum_by (λ p. balance_in p.1) (take l.value-index l.pairs) ≡ GREATEST_AMOUNT
