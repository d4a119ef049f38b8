use Rattle.std.proofs.Common.{true, take}
use Rattle.state_tree.specs.ActorPairs.{IfPairs}
use Rattle.state_tree.proofs.pairs.are_actors.Given as goal

abbrev pub invariant-loop-pair : goal.invariant-loop-pair
invariant-loop-pair l = IfPairs true (take l.pair-index l.pairs)
