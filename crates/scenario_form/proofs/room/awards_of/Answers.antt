use Rattle.std.proofs.Common.{arith}
use Rattle.scenario_form.proofs.room.awards_of.Goals as goal

pub overflow_add-total : goal.overflow_add-total
overflow_add-total c = omega (arith, c.loop-block.invariant.1, c.number-total.ensures.range, c.requires)
