use Rattle.std.proofs.Common.{refl}
use Rattle.state_tree.proofs.Calls.{settled_records, stands_partly, stands_settled}
use Rattle.state_tree.proofs.state_tree.StateTree.settle.Goals as goal

pub returns-in_err-write_into-clause-after : goal.returns-in_err-write_into-clause-after
returns-in_err-write_into-clause-after g c = λ actors info stands.
    stands_partly c.args.self.now _ _ actors info stands (c.in_err-write_into.ensures.some (g.B.BlockSource.blocks c.args.base.now)) refl refl

pub returns-clause-written : goal.returns-clause-written
returns-clause-written g c = λ actors info stands.
    settled_records c.args.self.now _ _ actors info stands (c.in_ok-write_into.ensures.after (g.B.BlockSource.blocks c.args.base.now))

pub returns-clause-after : goal.returns-clause-after
returns-clause-after g c = λ actors info stands.
    stands_settled c.args.self.now _ _ actors info stands (settled_records c.args.self.now _ _ actors info stands (c.in_ok-write_into.ensures.after (g.B.BlockSource.blocks c.args.base.now))) c.none.ensures refl
