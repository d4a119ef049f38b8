use Rattle.amt_map.specs.ValueBytes.{the_items}
use Rattle.amt_map.proofs.ReadValues.{ValuesSoFar}
use Rattle.amt_map.proofs.node_form.spellings_by_digit.Given as goal

abbrev pub invariant-loop-place : goal.invariant-loop-place
invariant-loop-place l = ValuesSoFar l.digits.items (the_items l.values) l.place l.spellings.items l.rest
