use Rattle.std.proofs.Common.{ap, arith}
use Rattle.hamt_map.specs.declared.node_form.ReadPointer.TheVariants as was_read
use Rattle.hamt_map.proofs.NodeForm.{bucket_begin, bucket_end, bucket_more, bucket_none}
use Rattle.hamt_map.proofs.node_form.bucket_of.Goals as goal

pub loop-left-init : goal.loop-left-init
loop-left-init c = λ values last long at. bucket_begin values c.args.count c.args.bytes.now last c.new-leaves.result.items c.new-leaves.ensures.items long at

pub loop-left-preserved : goal.loop-left-preserved
loop-left-preserved c = λ values last long at.
    bucket_more values c.loop-left.left c.loop-left.rest.now c.in-Some.behind.now last c.loop-left.leaves.items c.push.new.self.items c.in-Some.leaf (omega (arith, c.loop-left-test.true)) (c.loop-left.invariant values last long at)
    c.in-Some.ensures c.in_ok-push.ensures.items

pub returns-in_default : goal.returns-in_default
returns-in_default c = λ values last long at.
    bucket_none values c.loop-left.left c.loop-left.rest.now last c.loop-left.leaves.items (omega (arith, c.loop-left-test.true)) (c.loop-left.invariant values last long at) c.in_default.ensures

pub returns : goal.returns
returns c = λ values last long at.
    bucket_end values c.loop-left.left c.loop-left.rest.now last c.loop-left.leaves.items _ (omega (arith, c.loop-left-test.false)) (c.loop-left.invariant values last long at) (ap was_read.Bucket c.of.ensures)
