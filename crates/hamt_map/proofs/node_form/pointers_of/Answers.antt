use Rattle.std.proofs.Common.{arith}
use Rattle.hamt_map.proofs.NodeForm.{pointers_begin, pointers_end, pointers_more, pointers_none}
use Rattle.hamt_map.proofs.node_form.pointers_of.Goals as goal

pub loop-left-init : goal.loop-left-init
loop-left-init c = λ values last long at. pointers_begin c.args.below values c.args.count c.args.bytes.now last c.new-pointers.result.items c.new-pointers.ensures.items long at

pub loop-left-preserved : goal.loop-left-preserved
loop-left-preserved c = λ values last long at.
    pointers_more c.args.below values c.loop-left.left c.loop-left.rest.now c.in-Some.behind.now last c.loop-left.pointers.items c.push.new.self.items c.in-Some.pointer (omega (arith, c.loop-left-test.true)) (c.loop-left.invariant values last long at)
    (rw c.in-Some.is at c.in_ok-pointer.ensures) c.in_ok-push.ensures.items

pub returns-in_default : goal.returns-in_default
returns-in_default c = λ values last long at.
    pointers_none c.args.below values c.loop-left.left c.loop-left.rest.now last c.loop-left.pointers.items (omega (arith, c.loop-left-test.true)) (c.loop-left.invariant values last long at) (rw c.in_default.is at c.in_ok-pointer.ensures)

pub returns : goal.returns
returns c = λ values last long at.
    pointers_end c.args.below values c.loop-left.left c.loop-left.rest.now last c.loop-left.pointers.items c.of.result (omega (arith, c.loop-left-test.false)) (c.loop-left.invariant values last long at) c.of.ensures
