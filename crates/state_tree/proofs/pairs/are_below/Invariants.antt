use Rattle.std.proofs.Common.{◌≡◌, true, take}
use Rattle.std.specs.List.{list_all}
use Rattle.state_tree.specs.ActorPairs.{is_below}
use Rattle.state_tree.specs.Reading.{id_in}
use Rattle.state_tree.proofs.pairs.are_below.Given as goal

abbrev pub invariant-loop-key : goal.invariant-loop-key
invariant-loop-key l = list_all (λ p. is_below l.next (id_in p.0)) (take l.key-index l.pairs) ≡ true
