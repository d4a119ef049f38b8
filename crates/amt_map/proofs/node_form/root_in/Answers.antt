use Rattle.amt_map.specs.ValueBytes.{the_value}
use Rattle.amt_map.proofs.NodeParts.{root_whole}
use Rattle.amt_map.proofs.node_form.root_in.Goals as goal

pub returns-clause-whole : goal.returns-clause-whole
returns-clause-whole c =
    root_whole (the_value c.args.value.now) (the_value c.in-Some.height.now) (the_value c.in-Some.count.now) (the_value c.in-Some.node.now) c.in-Some-2.height c.in-Some-3.count _ _ c.in-Some.ensures.three c.in_ok-height.ensures c.in-Some-2.is c.in_ok-count.ensures c.in-Some-3.is
