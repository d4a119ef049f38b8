use Rattle.std.proofs.Common.{◌≡◌, length, refl, arith, rules}
use Rattle.hamt_map.proofs.LowBits.{cleared_more}
use Rattle.hamt_map.proofs.hashed.without_first.Goals as goal

pub loop-i-preserved : goal.loop-i-preserved
loop-i-preserved c =
    let long : length c.args.hash ≡ 32 = search rules in
    cleared_more c.loop-i.i c.args.hash c.loop-i.low _ (let test = c.loop-i-test.true in omega (arith, long, test, c.requires)) c.loop-i.invariant refl
