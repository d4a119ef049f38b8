use Rattle.state_tree.specs.Actors.{records}
use Rattle.state_tree.proofs.Calls.{are_of, pairs_and_actors, unchanged_records}
use Rattle.state_tree.proofs.state_tree.StateTree.pairs.Goals as goal

pub returns-then-is_none : goal.returns-then-is_none
returns-then-is_none g c = λ actors info stands.
    pairs_and_actors c.pairs.result actors (are_of c.args.self.now _ actors info stands)
    (c.pairs.ensures (records actors) (unchanged_records c.args.self.now _ actors info stands (c.is_none.ensures c.if-is_none.true)))

pub returns : goal.returns
returns g c = λ actors info stands.
    let there = c.in_ok-tree.ensures actors info stands in
    pairs_and_actors c.pairs-2.result actors there.1 (c.pairs-2.ensures (records actors) there.0)
