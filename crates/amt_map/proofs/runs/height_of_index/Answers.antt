use Rattle.std.proofs.Common.{◌∙◌, inl, inr, arith}
use Rattle.amt_map.proofs.Heights.{height_down, index_height}
use Rattle.amt_map.proofs.runs.height_of_index.Goals as goal

pub loop-height-preserved : goal.loop-height-preserved
loop-height-preserved c = record {
  same = c.loop-height.invariant.same ∙ height_down c.args.index c.loop-height.height c.loop-height-test.true c.if-index-height-eq0.true;
  bound = let bound = c.loop-height.invariant.bound in omega arith;
}

pub returns-else-index-height-eq0-clause-value : goal.returns-else-index-height-eq0-clause-value
returns-else-index-height-eq0-clause-value c =
    let some = c.if-index-height-eq0.false in
    index_height c.args.index c.loop-height.height c.loop-height.invariant.same (inr (omega (arith, some)))

pub returns-after-loop-height-clause-value : goal.returns-after-loop-height-clause-value
returns-after-loop-height-clause-value c = index_height c.args.index c.loop-height.height c.loop-height.invariant.same (inl (omega (arith, c.loop-height-test.false)))
