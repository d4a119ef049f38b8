use Rattle.amt_map.specs.ValueBytes.{the_items}
use Rattle.amt_map.proofs.ReadValues.{LinksSoFar}
use Rattle.amt_map.proofs.node_form.cids_by_digit.Given as goal

abbrev pub invariant-loop-place : goal.invariant-loop-place
invariant-loop-place l = LinksSoFar l.digits.items (the_items l.links) l.place l.cids.items l.rest
