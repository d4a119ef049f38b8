use Rattle.state_tree.proofs.Keys.{fault_is_no_id, more_is_no_id, all_of_it}
use Rattle.state_tree.proofs.key.id_of_groups.Goals as goal

pub returns-in_default : goal.returns-in_default
returns-in_default c = fault_is_no_id c.args.groups.now _ c.in_default.ensures

pub returns-then-length-groups : goal.returns-then-length-groups
returns-then-length-groups c = more_is_no_id c.args.groups.now _ _ c.in-Ok.ensures c.if-length-groups.true

pub returns : goal.returns
returns c = all_of_it c.args.groups.now _ _ c.new.result c.in-Ok.ensures c.if-length-groups.false c.new.ensures
