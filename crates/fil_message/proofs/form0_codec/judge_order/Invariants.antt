use Rattle.std.proofs.Common.{◌-◌}
use Rattle.fil_message.proofs.Order.{RisesTo, ids}
use Rattle.fil_message.proofs.form0_codec.judge_order.Given as goal

abbrev pub invariant-loop-i : goal.invariant-loop-i
invariant-loop-i l = RisesTo (ids l.actors) (l.i - 1)
