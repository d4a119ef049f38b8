use Rattle.std.proofs.Common.{ap, ◌∙◌}
use Rattle.state_tree.proofs.Calls.{record_written}
use Rattle.state_tree.proofs.changed.write_actor.Goals as goal

pub returns-clause-after : goal.returns-clause-after
returns-clause-after c = λ blocks kept are stands.
    record_written kept c.args.tree.now c.put.new.self blocks c.args.id c.args.actor c.deref.result.now c.in_ok-record.record are c.requires c.in_ok-record.ensures.actor (c.deref.ensures.value ∙ c.in_ok-key.ensures)
    c.in_ok-record.ensures.record stands (c.in_ok-put.ensures.after blocks)
