use Rattle.std.proofs.Common.{◌-◌, refl, arith}
use Rattle.hamt_map.proofs.BucketPairs.{put_begin, put_end, put_more}
use Rattle.hamt_map.proofs.kept_bucket.put_over.Goals as goal

pub loop-left-init : goal.loop-left-init
loop-left-init c = record {
  within = omega arith;
  made = λ below ps old are held. put_begin below c.args.pairs.now ps old _ _ are refl held;
}

pub loop-left-preserved : goal.loop-left-preserved
loop-left-preserved c =
    let at = c.loop-left in
    record {
      within = let within = at.invariant.within in omega (arith, within);
      made = λ below ps old are held. put_more below at.left (at.left - 1) c.args.pairs.now ps old _ at.ordered.entries _ are (omega (arith, c.loop-left-test.true)) (let within = at.invariant.within in omega (arith, within, c.loop-left-test.true))
          (at.invariant.made below ps old are held) c.in_ok-insert.ensures.entries;
    }

pub returns : goal.returns
returns c = λ below ps old are held.
    put_end ps old c.loop-left.left _ (omega (arith, c.loop-left-test.false)) (c.loop-left.invariant.made below ps old are held)
