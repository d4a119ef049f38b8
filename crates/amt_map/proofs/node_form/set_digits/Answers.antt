use Rattle.std.proofs.Common.{ℕ, Vec, Global, ap, ◌∙◌}
use Rattle.amt_map.proofs.NodeForm.{digit_put, digit_left}
use Rattle.amt_map.proofs.node_form.set_digits.Goals.{then-is_set+in_ok-push, else-is_set}
use Rattle.amt_map.proofs.node_form.set_digits.Goals as goal

pub loop-digit-preserved : goal.loop-digit-preserved
loop-digit-preserved c =
    elim c.if-is_set.branch [
      | then-is_set+in_ok-push w ↦ digit_put c.args.bits c.loop-digit.digit c.loop-digit.digits.items _ c.is_set.result c.loop-digit-test.true c.is_set.ensures w.if-is_set.true c.loop-digit.invariant (ap (λ (ds : Vec ℕ Global). ds.items) w.digits-is ∙ w.in_ok-push.ensures.items)
      | else-is_set w ↦ digit_left c.args.bits c.loop-digit.digit c.loop-digit.digits.items _ c.is_set.result c.loop-digit-test.true c.is_set.ensures w.if-is_set.false c.loop-digit.invariant (ap (λ (ds : Vec ℕ Global). ds.items) w.digits-is)
    ]
