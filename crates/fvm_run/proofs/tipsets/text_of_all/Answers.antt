use Rattle.std.proofs.Common.{◌≡◌, ◌<◌, arith, length, true, ◌∙◌}
use Rattle.state_model.specs.State.{State}
use Rattle.tipset_exec.specs.Alone.{IsEvaluable, is_built}
use Rattle.fvm_run.proofs.States.{all_told, of_item, state_pair, text_more}
use Rattle.fvm_run.proofs.tipsets.text_of_all.Goals as goal

pub tipset-requires : goal.tipset-requires
tipset-requires c = (c.requires.0, c.requires.1, omega (arith, c.loop-place-test.true, c.len-place-end.ensures c.requires.0 c.requires.1))

pub evaluate-requires-clause-built : goal.evaluate-requires-clause-built
evaluate-requires-clause-built c =
    of_item (λ t. (s : State) × IsEvaluable c.args.base.now c.args.scenario.now.rules t s × (is_built s t ≡ true)) c.requires.0 c.loop-place.place c.in_ok-tipset.tipset
    c.requires.2 (omega (arith, c.loop-place-test.true, c.len-place-end.ensures c.requires.0 c.requires.1)) (c.in_ok-tipset.ensures c.requires.0 c.in_ok-tipset.tipset c.requires.1)

pub loop-place-preserved : goal.loop-place-preserved
loop-place-preserved c = record {
  kept = c.in_ok-state.ensures.kept;
  text = λ tipsets pairs spelled have.
      let within : c.loop-place.place < length tipsets = omega (arith, c.loop-place-test.true, c.len-place-end.ensures tipsets spelled) in
      let at = state_pair c.args.base.now c.args.scenario.now.rules tipsets pairs c.loop-place.place c.in_ok-tipset.tipset have within (c.in_ok-tipset.ensures tipsets c.in_ok-tipset.tipset spelled) in
      text_more c.args.base.now c.args.scenario.now.rules tipsets pairs c.loop-place.place c.in_ok-tipset.tipset at.second _ _ c.in_ok-report.report
      have within at.front (c.loop-place.invariant.text tipsets pairs spelled have) (c.in_ok-report.ensures.report at.second at.answer) c.in_ok-put_report.ensures;
}

pub returns : goal.returns
returns c = λ tipsets pairs spelled have.
    c.of.ensures
    ∙ all_told c.args.base.now c.args.scenario.now.rules tipsets pairs c.loop-place.place c.loop-place.text.items have (omega (arith, c.loop-place-test.false, c.len-place-end.ensures tipsets spelled)) (c.loop-place.invariant.text tipsets pairs spelled have)
