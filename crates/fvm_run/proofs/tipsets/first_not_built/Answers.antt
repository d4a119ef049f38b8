use Rattle.std.proofs.Common.{arith, length, ◌<◌, sym, ◌∙◌}
use Rattle.fvm_run.proofs.States.{built_more, not_built_at, state_pair}
use Rattle.fvm_run.proofs.tipsets.first_not_built.Goals as goal

pub tipset-requires : goal.tipset-requires
tipset-requires c = (c.requires.0, c.requires.1, omega (arith, c.loop-place-test.true, c.len-place-end.ensures c.requires.0 c.requires.1))

pub returns-then-not-built : goal.returns-then-not-built
returns-then-not-built c = λ tipsets pairs spelled have.
    let within : c.loop-place.place < length tipsets = omega (arith, c.loop-place-test.true, c.len-place-end.ensures tipsets spelled) in
    let at = state_pair c.args.base.now c.args.scenario.now.rules tipsets pairs c.loop-place.place c.in_ok-tipset.tipset have within (c.in_ok-tipset.ensures tipsets c.in_ok-tipset.tipset spelled) in
    sym (not_built_at pairs c.loop-place.place c.in_ok-tipset.tipset at.second (sym (c.in_ok-built.ensures.built at.second at.answer) ∙ c.if-not-built.true) at.rest (c.loop-place.invariant.built tipsets pairs spelled have))

pub loop-place-preserved : goal.loop-place-preserved
loop-place-preserved c = record {
  kept = c.in_ok-built.ensures.kept;
  built = λ tipsets pairs spelled have.
      let within : c.loop-place.place < length tipsets = omega (arith, c.loop-place-test.true, c.len-place-end.ensures tipsets spelled) in
      let at = state_pair c.args.base.now c.args.scenario.now.rules tipsets pairs c.loop-place.place c.in_ok-tipset.tipset have within (c.in_ok-tipset.ensures tipsets c.in_ok-tipset.tipset spelled) in
      built_more pairs c.loop-place.place c.in_ok-tipset.tipset at.second (sym (c.in_ok-built.ensures.built at.second at.answer) ∙ c.if-not-built.false) at.rest (c.loop-place.invariant.built tipsets pairs spelled have);
}
