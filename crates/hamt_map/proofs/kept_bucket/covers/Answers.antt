use Rattle.std.proofs.Common.{arith}
use Rattle.hamt_map.proofs.BucketPairs.{covered_begin, covered_end, covered_more}
use Rattle.hamt_map.proofs.kept_bucket.covers.Goals as goal

pub loop-init : goal.loop-init
loop-init c = λ below ps old are fit is.
    let read = c.in-Some.ensures old is fit in
    (read.0, covered_begin ps old _ read.1)

pub loop-preserved : goal.loop-preserved
loop-preserved c = λ below ps old are fit is.
    let so_far = c.loop.invariant below ps old are fit is in (
      so_far.0,
      covered_more ps old c.loop.counter c.loop.rest.now c.in-Some-next_pair.behind.now c.in-Some-next_pair.key.now _ (let size = so_far.0 in omega (arith, size, c.loop-test.true)) so_far.1
          c.in-Some-next_pair.ensures (c.has_key.ensures below ps are c.if-not-has_key.false),
    )

pub returns : goal.returns
returns c = λ below ps old are fit is yes.
    let so_far = c.loop.invariant below ps old are fit is in
    covered_end ps old c.loop.counter c.loop.rest.now (let size = so_far.0 in omega (arith, size, c.loop-test.false, c.loop.auto.counter-end)) so_far.1
