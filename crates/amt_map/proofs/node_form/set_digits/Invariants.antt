use Rattle.std.proofs.Common.{◌≡◌, filter, take}
use Rattle.amt_map.specs.Node.{digits}
use Rattle.amt_map.proofs.NodeForm.{is_set}
use Rattle.amt_map.proofs.node_form.set_digits.Given as goal

abbrev pub invariant-loop-digit : goal.invariant-loop-digit
invariant-loop-digit l = l.digits.items ≡ filter (is_set l.bits) (take l.digit digits)
