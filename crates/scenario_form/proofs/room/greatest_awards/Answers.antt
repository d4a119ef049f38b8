use Rattle.std.proofs.Common.{◌≡◌, List, ap, arith, map, max, rules, sum, ◌∙◌}
use Rattle.fil_message.specs.declared.tipset.TipBlock.{TipBlock}
use Rattle.scenario_form.proofs.Rooms.{above_all, above_more, any_reached, reached_more}
use Rattle.scenario_form.proofs.room.greatest_awards.Goals as goal

pub loop-tipset-preserved : goal.loop-tipset-preserved
loop-tipset-preserved c =
    let own = c.awards_of.ensures ∙ ap (λ (blocks : List TipBlock). sum (map (λ b. b.award) blocks)) c.as_slice.ensures in
    let most : c.max-greatest.result ≡ max c.loop-tipset.greatest c.awards_of.result = search rules in
    record {
      above = above_more c.args.tipsets.now c.loop-tipset.tipset-index c.loop-tipset.greatest _ _ c.tipset-item.result (omega arith) c.tipset-item.is own most c.loop-tipset.invariant.above;
      reached = reached_more c.args.tipsets.now c.loop-tipset.tipset-index c.loop-tipset.greatest _ _ c.tipset-item.result (omega arith) c.tipset-item.is own most c.loop-tipset.invariant.reached;
    }

pub returns-clause-above : goal.returns-clause-above
returns-clause-above c = above_all c.args.tipsets.now c.loop-tipset.tipset-index c.loop-tipset.greatest (omega arith) c.loop-tipset.invariant.above

pub returns-clause-reached : goal.returns-clause-reached
returns-clause-reached c = any_reached c.args.tipsets.now c.loop-tipset.greatest c.requires.some c.loop-tipset.invariant.reached
