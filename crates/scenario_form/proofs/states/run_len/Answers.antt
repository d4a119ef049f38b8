use Rattle.std.proofs.Common.{arith}
use Rattle.scenario_form.proofs.Runs.{root_first, root_more}
use Rattle.scenario_form.proofs.states.run_len.Goals as goal

pub loop-i-init : goal.loop-i-init
loop-i-init c = λ d. root_first c.args.tipsets.now d c.requires

pub loop-i-preserved : goal.loop-i-preserved
loop-i-preserved c =
    λ d. root_more c.args.tipsets.now c.loop-i.i c.index-tipsets-0.result c.index-tipsets-i.result d (omega arith) c.index-tipsets-i.is (c.has_root.ensures.0 c.if-not-has_root.false) (c.loop-i.invariant d)
