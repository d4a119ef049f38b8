use Rattle.std.proofs.Common.{refl}
use Rattle.std.proofs.lemmas.Bool.{false≢true}
use Rattle.dag_cbor.proofs.JudgeSteps.{unless, rise_more, no_rise, rise_all}
use Rattle.dag_cbor.proofs.plain.keys_rise.Goals as goal

pub returns-then-not-is_before : goal.returns-then-not-is_before
returns-then-not-is_before c = (
  λ t. absurd (false≢true t),
  λ rises. absurd (no_rise c.args.pairs.now c.loop-i.i _ _ c.index-pairs-i.result c.index-pairs-i-in-loop-i.result c.loop-i.auto.i c.loop-i-test.true c.as_slice.ensures c.as_slice-in-loop-i.ensures
      (unless c.is_before.result c.is_before.ensures c.if-not-is_before.true) rises),
)

pub loop-i-preserved : goal.loop-i-preserved
loop-i-preserved c =
    rise_more c.args.pairs.now c.loop-i.i _ _ c.index-pairs-i.result c.index-pairs-i-in-loop-i.result c.loop-i.auto.i c.loop-i-test.true c.as_slice.ensures c.as_slice-in-loop-i.ensures
    (c.is_before.ensures.0 c.if-not-is_before.false) c.loop-i.invariant

pub returns : goal.returns
returns c = (λ _. rise_all c.args.pairs.now c.loop-i.i c.loop-i-test.false c.loop-i.invariant, λ _. refl)
