use Rattle.std.proofs.Common.{ap, arith}
use Rattle.hamt_map.proofs.BucketPairs.{read_begin, read_end, read_more, shown_put}
use Rattle.hamt_map.proofs.BucketSteps.{shown}
use Rattle.hamt_map.proofs.kept_bucket.lent_pairs.Goals as goal

pub loop-init : goal.loop-init
loop-init c = λ old fit sorted is.
    let read = c.in-Some.ensures old is fit in
    (read.0, read_begin old _ _ read.1 (ap shown c.new-ordered.ensures.empty))

pub loop-preserved : goal.loop-preserved
loop-preserved c = λ old fit sorted is.
    let so_far = c.loop.invariant old fit sorted is in (
      so_far.0,
      read_more old c.loop.counter c.loop.rest.now c.in-Some-next_pair.behind.now c.in-Some-next_pair.key.now c.in-Some-next_pair.spelling.now _ _ (let size = so_far.0 in omega (arith, size, c.loop-test.true)) fit sorted so_far.1
          c.in-Some-next_pair.ensures (shown_put c.loop.ordered.entries _ c.in-Some-next_pair.key c.in-Some-next_pair.spelling c.in_ok-insert.ensures.entries),
    )

pub returns : goal.returns
returns c = λ old fit sorted is.
    let so_far = c.loop.invariant old fit sorted is in
    read_end old c.loop.counter c.loop.rest.now _ (let size = so_far.0 in omega (arith, size, c.loop-test.false, c.loop.auto.counter-end)) so_far.1
