use Rattle.std.proofs.Common.{arith}
use Rattle.hamt_map.proofs.Fronts.{list_none}
use Rattle.hamt_map.proofs.ReadParts.{two_found, two_none, two_other}
use Rattle.hamt_map.proofs.node_form.two_at.Goals as goal

pub returns-in_err-count : goal.returns-in_err-count
returns-in_err-count c = λ depth value rest at. rw c.from_residual.ensures (two_none value (list_none depth value c.args.bytes.now rest c.in_err-count.ensures.only at))

pub returns-then-count-eq2 : goal.returns-then-count-eq2
returns-then-count-eq2 c = λ depth value rest at.
    let two = two_found depth c.in_ok-count.count value c.args.bytes.now c.in_ok-count.items.now rest (omega arith) c.in_ok-count.ensures.found c.if-count-eq2.true at in
    (two.both, two.is, two.at)

pub returns-else-count-eq2 : goal.returns-else-count-eq2
returns-else-count-eq2 c = λ depth value rest at.
    two_other depth c.in_ok-count.count value c.args.bytes.now c.in_ok-count.items.now rest (omega arith) c.in_ok-count.ensures.found c.if-count-eq2.false at
