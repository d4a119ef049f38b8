use Rattle.std.proofs.Common.{◌∙◌}
use Rattle.state_tree.specs.Actors.{records}
use Rattle.state_tree.proofs.Calls.{info_of, stands_settled}
use Rattle.state_tree.proofs.state_tree.StateTree.flush_actors.Goals as goal

pub returns-clause-root : goal.returns-clause-root
returns-clause-root g c = λ actors info stands. c.flush.ensures.root (records actors) (c.in_ok-settle.ensures.written actors info stands)

pub returns-clause-nodes : goal.returns-clause-nodes
returns-clause-nodes g c = λ actors info stands. c.flush.ensures.nodes (records actors) (c.in_ok-settle.ensures.written actors info stands)

pub returns-in_err-settle-clause-info : goal.returns-in_err-settle-clause-info
returns-in_err-settle-clause-info g c = λ actors info stands. c.in_err-settle.ensures.info ∙ info_of c.args.self.now _ actors info stands

pub returns-clause-info : goal.returns-clause-info
returns-clause-info g c = λ actors info stands. c.in_ok-settle.ensures.info ∙ info_of c.args.self.now _ actors info stands

pub returns-clause-after : goal.returns-clause-after
returns-clause-after g c = λ actors info stands.
    stands_settled c.args.self.now _ _ actors info stands (c.flush.ensures.after (records actors) (c.in_ok-settle.ensures.written actors info stands)) c.in_ok-settle.ensures.none c.in_ok-settle.ensures.info
